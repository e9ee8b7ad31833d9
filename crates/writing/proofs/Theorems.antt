-- What is promised of the writer, each theorem stated once by what it says. Document 01, "Recordings" and "Refusal numbers".
-- `opening_written`, `opening_after`, `row_written` and `row_after` are what the code returns and leaves in the lent buffer, by the
-- contracts in src/; `Bytes s` is what every slice of bytes is.
use mathlib.Core.Path.{◌≡◌, sym, ◌∙◌}
use mathlib.Core.List.{List, ◌++◌, flat_map}
use Prim.Native.Nat.{ℕ}
use lib.ListN.{length, drop}
use Rattle.bits.specs.Numbers.{Bytes}
use Rattle.settings.specs.declared.Row.{Row}
use Rattle.settings.specs.declared.Settings.{Settings}
use Rattle.settings.specs.Refusals.{or_else, room_number}
use Rattle.layout.specs.Entries.{put_row}
use Rattle.recording.specs.Reader.{reading}
use Rattle.recording.specs.Answers.{row_count_of}
use Rattle.recording.specs.Steps.{rows_of}
use Rattle.recording.specs.Encode.{opening, All}
use Rattle.recording.specs.Accepted.{Accepted, Answers}
use Rattle.exactness.proofs.Theorems.{accepted_is_encoding, encoding_is_accepted, encoding_in_pieces, rows_counted}
use Rattle.writing.specs.Answers.{written_number, written_place, written_length}
use Rattle.writing.specs.Writer.{opening_number, row_piece_number, written, after}
use Rattle.writing.proofs.Pieces.{number_of, stands, untouched}
use Rattle.writing.proofs.Passes.{right_passes, passes_right}

-- ## Round trips

-- the opening and the rows that were read are written without refusal, and they are the file's bytes
pub written_as_read : (s : List ℕ) → Bytes s → Accepted s
    → let st = (reading s).settings in let n = row_count_of (reading s).answer in
    (opening_number st n ≡ 0) × All (row_piece_number st) (rows_of s) × (opening st n ++ flat_map put_row (rows_of s) ≡ s)
written_as_read s bytes h =
    let e = accepted_is_encoding s bytes h in
    let st = (reading s).settings in
    let w = right_passes st (rows_of s) e.0 in
    let n = rows_counted s in
    (rw n at w.0, w.1, rw n at (sym (encoding_in_pieces st (rows_of s)) ∙ e.1))

-- an opening and as many rows as it says, all written without refusal, are read as those settings and rows
pub read_as_written : (st : Settings) (rows : List Row) → length st.effects ≡ 16 → opening_number st (length rows) ≡ 0 → All (row_piece_number st) rows
    → Answers (opening st (length rows) ++ flat_map put_row rows) st rows
read_as_written st rows sixteen h each = rw (← encoding_in_pieces st rows) (encoding_is_accepted st rows (passes_right st rows sixteen h each))

-- ## The writer, of any piece with refusal number n (0 for none)

-- the refusal number is the piece's own, or last 10, exactly if the piece does not fit
pub written-number : (n : ℕ) (piece : List ℕ) (room : ℕ) → written_number (written n piece room) ≡ or_else n (room_number (length piece) room)
written-number = number_of

-- without refusal the piece stands at the front, and the bytes past it stay as they were
pub written_piece : (n : ℕ) (piece out : List ℕ) → written_number (written n piece (length out)) ≡ 0
    → (written_length (written n piece (length out)) ≡ length piece) × (after n piece out ≡ piece ++ drop (length piece) out)
written_piece = stands

-- after a refusal the place is 0, as it is outside the reader, the length is 0, and no byte is touched
pub refused_piece : (n : ℕ) (piece out : List ℕ) → let a = written n piece (length out) in (written_number a ≡ 0 → ⊥)
    → (written_place a ≡ 0) × (written_length a ≡ 0) × (after n piece out ≡ out)
refused_piece = untouched
