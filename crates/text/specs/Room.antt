-- How much room a piece of a listing can take; a listing is that of document 01, "One session, whole".
use Rattle.std.specs.Prelude.{ℕ, ◌+◌, ◌*◌}
use Rattle.effects.specs.Records.{most_records}
use Rattle.wording.specs.Text.{most_words}

-- the most bytes of a record's line: numbers of 2, 4, 1 and 2 bytes have at most 5, 10, 3 and 5 digits, the name of a state
-- has at most 10 letters, and a reason at most `most_words`; a byte stands behind each of the seven fields
abbrev pub most_line : ℕ
most_line = 5 + 10 + 3 + 10 + 10 + 5 + most_words + 7

-- the most bytes of the lines of a row. It is more than any other line has
abbrev pub most_piece : ℕ
most_piece = most_line * most_records
