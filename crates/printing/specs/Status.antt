-- How a replay ended, as a number: 0 it was printed, 1 it was printed and says a refusal, 2 the output took no more.
-- Ours: docs/DECISIONS.md, "The replay program".
use Rattle.std.specs.Prelude.{ℕ, ◌≡◌, Bool, None, Some, cond, List, length, IfOk, IfErr, is_ok}
use Rattle.settings.specs.Refusals.{granted}
use Rattle.rerun.specs.Replay.{replay}
use Rattle.listing.specs.Printed.{listing_of}
use Rattle.printing.specs.declared.Outcome.{Outcome}
use Rattle.printing.specs.declared.Outcome.TheVariants.{Replayed, Refused}
use Rattle.printing.specs.declared.Ending.{Ending}
use Rattle.printing.specs.declared.sending.Unwritten.{Unwritten}
use Rattle.std.specs.declared.result.Result.{Result}
use Rattle.std.specs.declared.result.Result.TheVariants.{Ok, Err}

-- by whether all was written, and the refusal number or 0
abbrev pub status : Bool → (number : ℕ) → ℕ
status good number = cond good (granted number 0 (λ n. 1)) 2

-- the number of an ending
abbrev pub outcome_number : Outcome → ℕ
outcome_number Replayed = 0
outcome_number Refused = 1

abbrev pub ending_number : {E : Type 0} → Result Ending E → ℕ
ending_number (Ok e) = outcome_number e.outcome
ending_number (Err e) = 2

-- how printing a file's listing, with reasons or without, may end: by 2 where a write failed; else all of the listing has gone, and the replay's refusal number says how
pub record Told (why : Bool) (s : List ℕ) (r : Result Ending Unwritten) : Type 0 where
  pub by_number : ending_number r ≡ status (is_ok r) (replay s).number
  pub written : IfOk r (λ e. e.sent.failed ≡ None)
  -- what was handed over keeps the error of the write that failed, which no other function than the writing one can set
  pub failed : IfErr r (λ e. e.sent.failed ≡ Some e.error)
  pub all-gone : IfOk r (λ e. e.sent.gone ≡ length (listing_of why s))
