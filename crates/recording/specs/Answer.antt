-- What the reader answers: the row count, the first row's place and the width of a row, or a refusal number and its place; and beside it the
-- settings, which are all zero beside a refusal. Document 01, "Recordings" and "Refusal numbers".
use Rattle.std.specs.Prelude.{ℕ, Result, Ok, Err}
use Rattle.settings.specs.declared.Settings.{Settings}
use Rattle.settings.specs.declared.numbers.Refused.{Refused as Refusal}
use Rattle.settings.specs.Refusals.{number_of}
use Rattle.settings.specs.Zeros.{no_settings}
use Rattle.recording.specs.declared.Recording.{Recording}

pub data Answer : Type 0 where
  Accepted : (rows first width : ℕ) → Answer
  Refused : (number place : ℕ) → Answer

pub record Reading : Type 0 where
  pub answer : Answer
  pub settings : Settings

-- what the code answers, as that
abbrev pub as_reading : Result Recording Refusal → Reading
as_reading (Ok r) = record { answer = Accepted r.rows r.first r.width; settings = r.settings }
as_reading (Err e) = record { answer = Refused (number_of e.refusal) e.place; settings = no_settings }
