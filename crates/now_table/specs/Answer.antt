-- What is shown of a recording: its refusal number or 0, and how many bytes its text has.
use Rattle.std.specs.Prelude.{ℕ, Option, Some, None}
use Rattle.settings.specs.declared.numbers.Refusal.{Refusal}
use Rattle.settings.specs.Refusals.{number_of}
use Rattle.now_table.specs.declared.Shown.{Shown as Told}

pub record Shown : Type 0 where
  pub number : ℕ
  pub size : ℕ

abbrev pub number_at : Option Refusal → ℕ
number_at None = 0
number_at (Some refusal) = number_of refusal

-- what the code answers, as that
abbrev pub as_shown : Told → Shown
as_shown t = record { number = number_at t.refusal; size = t.size }
