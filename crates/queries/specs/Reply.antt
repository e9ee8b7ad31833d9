-- The answer to a query: the reason, or a refusal number with its place. Document 02, L4.
use Rattle.std.specs.Prelude.{ℕ, Result, Ok, Err}
use Rattle.settings.specs.declared.numbers.Refusal.{Refusal}
use Rattle.settings.specs.Refusals.{number_of}
use Rattle.reasons.specs.declared.Reason.{Reason}

pub data Reply : Type 0 where
  Because : (reason : Reason) → Reply
  Refused : (number place : ℕ) → Reply

-- what the code answers, as that; outside the reader a refusal has place 0
abbrev pub as_reply : Result Reason Refusal → Reply
as_reply (Ok reason) = Because reason
as_reply (Err refusal) = Refused (number_of refusal) 0
