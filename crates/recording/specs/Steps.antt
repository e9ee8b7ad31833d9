-- The row at a place. Document 01, "Recordings": ended where the reader refuses the bytes or the place is no row's first byte.
use Rattle.std.specs.Prelude.{ℕ, ◌+◌, ◌*◌, ◌-◌, ◌%◌, Bool, cond, ◌&&◌, List, leb, ltb, eqb}
use Rattle.settings.specs.declared.Row.{Row}
use Rattle.recording.specs.Answer.{Answer}
use Rattle.recording.specs.Step.{Step}
use Rattle.recording.specs.Step as T
use Rattle.layout.specs.Entries.{row_at}
use Rattle.bits.specs.Lists.{list_of}
use Rattle.recording.specs.Answers.{row_count_of, first_row, row_width}
use Rattle.recording.specs.Reader.{reading}

-- the place after the last row
abbrev pub rows_end : Answer → ℕ
rows_end a = first_row a + row_width a * row_count_of a

-- the place is a row's first byte: a whole number of rows past the first row, and before the end
abbrev pub is_place : (first width end at : ℕ) → Bool
is_place first width end at = leb first at && ltb at end && eqb ((at - first) % width) 0

-- the row at a place, in bytes with this answer of the reader; ended where the place is no row's. Refused bytes have no rows
abbrev pub step_in : Answer → List ℕ → ℕ → Step
step_in a s at = cond (is_place (first_row a) (row_width a) (rows_end a) at) (T.Row (row_at (row_width a) s at) (at + row_width a)) T.Ended

-- the row at any place of any bytes
unfoldable pub step_at : List ℕ → ℕ → Step
step_at s at = step_in (reading s).answer s at

-- the first byte of row i, from 0
abbrev pub row_place : List ℕ → ℕ → ℕ
row_place s i = first_row (reading s).answer + row_width (reading s).answer * i

-- the rows at the row places, in the file's order
abbrev pub rows_in : Answer → List ℕ → List Row
rows_in a s = list_of (row_at (row_width a) s) (row_width a) (row_count_of a) (first_row a)

abbrev pub rows_of : List ℕ → List Row
rows_of s = rows_in (reading s).answer s
