-- Document 01's refusal number, place and values of each case of the enums that answer; 0 where a case has none.
-- "Refusal numbers" and "Where each form belongs".
use Rattle.std.specs.Prelude.{ℕ, Bool, true, false}
use Rattle.settings.specs.declared.Row.{Row}
use Rattle.settings.specs.Zeros.{no_row}
use Rattle.layout.specs.Section.{Section}
use Rattle.layout.specs.Section as S
use Rattle.recording.specs.Answer.{Answer}
use Rattle.recording.specs.Answer as A
use Rattle.recording.specs.Step.{Step}
use Rattle.recording.specs.Step as T

-- ## The reader

abbrev pub number : Answer → ℕ
number (A.Accepted rows first width) = 0
number (A.Refused n p) = n

abbrev pub place : Answer → ℕ
place (A.Accepted rows first width) = 0
place (A.Refused n p) = p

abbrev pub row_count_of : Answer → ℕ
row_count_of (A.Accepted rows first width) = rows
row_count_of (A.Refused n p) = 0

abbrev pub first_row : Answer → ℕ
first_row (A.Accepted rows first width) = first
first_row (A.Refused n p) = 0

abbrev pub row_width : Answer → ℕ
row_width (A.Accepted rows first width) = width
row_width (A.Refused n p) = 0

-- ## A section: the place after it, or the place of its refusal

abbrev pub section_number : Section → ℕ
section_number (S.Next at) = 0
section_number (S.Refused n p) = n

abbrev pub section_place : Section → ℕ
section_place (S.Next at) = at
section_place (S.Refused n p) = p

-- ## The row at a place

abbrev pub ended : Step → Bool
ended (T.Row row next) = false
ended T.Ended = true

abbrev pub step_row : Step → Row
step_row (T.Row row next) = row
step_row T.Ended = no_row

abbrev pub next_place : Step → ℕ
next_place (T.Row row next) = next
next_place T.Ended = 0
