-- What a whole file is answered: its refusal number and place, or 0 and 0; the number of its rows, or 0 where the reader refuses it; and why.
-- Document 01, "Refusal numbers".
use Rattle.std.specs.Prelude.{ℕ, Option, Some, None}
use Rattle.settings.specs.declared.numbers.Refused.{Refused}
use Rattle.settings.specs.Refusals.{number_of}
use Rattle.findings.specs.declared.Finding.{Finding}
use Rattle.findings.specs.declared.Explained.{Explained as Told}

pub record Explained : Type 0 where
  pub number : ℕ
  pub place : ℕ
  pub rows : ℕ
  pub finding : Finding

-- the refusal number and the place of what refuses a file, if anything does
abbrev pub number_at : Option Refused → ℕ
number_at None = 0
number_at (Some r) = number_of r.refusal

abbrev pub place_at : Option Refused → ℕ
place_at None = 0
place_at (Some r) = r.place

-- what the code answers, as that
abbrev pub as_explained : Told → Explained
as_explained t = record { number = number_at t.refused; place = place_at t.refused; rows = t.rows; finding = t.finding }
