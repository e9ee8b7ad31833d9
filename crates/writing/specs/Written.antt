-- What writing a piece results in: the number of bytes written, or a refusal number. Document 01, "Recordings" and "Refusal numbers".
use Rattle.std.specs.Prelude.{ℕ, Result, Ok, Err}
use Rattle.settings.specs.declared.numbers.Refusal.{Refusal}
use Rattle.settings.specs.Refusals.{number_of}

pub data Written : Type 0 where
  Bytes : (count : ℕ) → Written
  Refused : (number : ℕ) → Written

-- what the code answers, as that
abbrev pub as_written : Result ℕ Refusal → Written
as_written (Ok count) = Bytes count
as_written (Err refusal) = Refused (number_of refusal)
