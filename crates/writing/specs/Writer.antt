-- What writing a piece results in, and what the lent bytes are after it. Document 01, "Recordings" and "Refusal numbers".
use Rattle.std.specs.Prelude.{ℕ, List, ◌++◌, length, drop}
use Rattle.settings.specs.declared.Row.{Row}
use Rattle.settings.specs.declared.Settings.{Settings}
use Rattle.settings.specs.Refusals.{unless, or_else, granted, room_number}
use Rattle.settings.specs.Right.{known_of, settings_number, row_number}
use Rattle.layout.specs.declared.Kind.TheVariants.{Rows}
use Rattle.writing.specs.Written.{Written}
use Rattle.writing.specs.Written as W
use Rattle.layout.specs.Entries.{put_row}
use Rattle.layout.specs.Sections.{count_ok, number_of}
use Rattle.recording.specs.Encode.{opening}

-- ## The refusal number of a piece, before its room is checked

-- the opening's refusal numbers: 2, 3, then 4 for a wrong row count
unfoldable pub opening_number : Settings → (rows : ℕ) → ℕ
opening_number st rows = or_else (settings_number st) (unless (count_ok Rows rows) (number_of Rows))

-- a row's refusal numbers: 2, 3, then the row's own
unfoldable pub row_piece_number : Settings → Row → ℕ
row_piece_number st row = or_else (settings_number st) (row_number (known_of st) row)

-- ## A piece with this refusal number (0 for none), into `room` bytes; refusal number 10 last, exactly if the piece does not fit

abbrev pub written : (number : ℕ) (piece : List ℕ) (room : ℕ) → Written
written number piece room = granted (or_else number (room_number (length piece) room)) (W.Bytes (length piece)) (λ n. W.Refused n)

-- the lent bytes after it: bytes past the piece stay as they were, and so do all of them after a refusal
abbrev pub after : (number : ℕ) (piece out : List ℕ) → List ℕ
after number piece out = granted (or_else number (room_number (length piece) (length out))) (piece ++ drop (length piece) out) (λ n. out)

-- ## The two pieces

abbrev pub opening_written : Settings → (rows room : ℕ) → Written
opening_written st rows room = written (opening_number st rows) (opening st rows) room

abbrev pub opening_after : Settings → (rows : ℕ) → (out : List ℕ) → List ℕ
opening_after st rows out = after (opening_number st rows) (opening st rows) out

abbrev pub row_written : Settings → Row → (room : ℕ) → Written
row_written st row room = written (row_piece_number st row) (put_row row) room

abbrev pub row_after : Settings → Row → (out : List ℕ) → List ℕ
row_after st row out = after (row_piece_number st row) (put_row row) out
