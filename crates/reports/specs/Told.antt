-- The answers that a line is put for, from what is told: a refusal's number may be any, and 0 refuses nothing. Document 01, "Refusal numbers".
use Rattle.std.specs.Prelude.{ℕ, Result, Ok, Err, Option, Some, None}
use Rattle.text.specs.declared.Told.{Told}
use Rattle.recording.specs.declared.Recording.{Recording}
use Rattle.recording.specs.Answer.{Answer}
use Rattle.recording.specs.Answer.{Accepted, Refused}
use Rattle.findings.specs.declared.Finding.{Finding}
use Rattle.findings.specs.Answer.{Explained}

-- what the reader answered
abbrev pub answer_told : Result Recording Told → Answer
answer_told (Ok r) = Accepted r.rows r.first r.width
answer_told (Err t) = Refused t.number t.place

-- what a whole file is answered
abbrev pub explained_told : Option Told → (rows : ℕ) → Finding → Explained
explained_told None rows finding = record { number = 0; place = 0; rows = rows; finding = finding }
explained_told (Some t) rows finding = record { number = t.number; place = t.place; rows = rows; finding = finding }
