-- What a section results in: the place after it, or a refusal number and its place. Document 01, "Recordings".
use Rattle.std.specs.Prelude.{ℕ, Result, Ok, Err}
use Rattle.settings.specs.declared.numbers.Refused.{Refused as Refusal}
use Rattle.settings.specs.Refusals.{number_of}

pub data Section : Type 0 where
  Next : (at : ℕ) → Section
  Refused : (number place : ℕ) → Section

-- what the code answers, as that
abbrev pub as_section : Result ℕ Refusal → Section
as_section (Ok at) = Next at
as_section (Err e) = Refused (number_of e.refusal) e.place
