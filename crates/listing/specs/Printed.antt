-- A listing piece by piece, as the code gives it, with a column for reasons (why) or without: the opening, the lines of each row, and the
-- closing, each at a place of a lent buffer. Where fewer bytes are left than a piece may take, the buffer is full: nothing is written, and
-- the caller goes on with more room. The pieces together are the listing of document 01, "One session, whole", or of document 02, L4.
use Rattle.std.specs.Prelude.{ℕ, zero, suc, ◌+◌, ◌≤◌, ◌≡◌, Bool, true, false, not, cond, Option, None, Some, Result, Ok, Err, List, [], ◌++◌, leb, length}
use Rattle.std.proofs.lemmas.List.Edits.{sets}
use Rattle.settings.specs.Refusals.{granted}
use Rattle.recording.specs.declared.Recording.{Recording}
use Rattle.recording.specs.Answer.{Answer, Accepted, Refused}
use Rattle.recording.specs.Answers.{number, place}
use Rattle.recording.specs.Reader.{reading}
use Rattle.rerun.specs.declared.Run.{Run}
use Rattle.rerun.specs.Answer.{Turn, as_turn}
use Rattle.rerun.specs.Replay.{replay, answered, first_rows, row_run}
use Rattle.reasons.specs.declared.Sight.{Sight}
use Rattle.reasoned.specs.Reasoned.{reasoned, reasoned_row}
use Rattle.reasoned.specs.Told.{row_sight}
use Rattle.rerun.specs.Turn.{Going, records_of, answer_of}
use Rattle.listing.specs.declared.Printed.{Printed}
use Rattle.text.specs.declared.Told.{Told}
use Rattle.text.specs.Room.{most_piece}
use Rattle.text.specs.Pieces.{header_of}
use Rattle.text.specs.Text.{lines, refusal_line}
use Rattle.listing.specs.Listing.{listed_as}
use Rattle.listing.specs.Why.{reason_lines}

-- ## The listing

-- the lines of all records
abbrev pub all_lines : (why : Bool) → List ℕ → List ℕ
all_lines why s = cond why (reason_lines (reasoned s)) (lines (replay s).replay.events)

-- with reasons it is `why_listing`, and without `listing` (proofs/Theorems)
unfoldable pub listing_of : (why : Bool) → List ℕ → List ℕ
listing_of why s = listed_as (header_of why) (all_lines why s) (reading s).answer (replay s)

-- ## The pieces

-- as which answer of the reader a refusal is read that is told by any number: by 0 too, which refuses nothing
abbrev pub answer_told : Result Recording Told → Answer
answer_told (Ok r) = Accepted r.rows r.first r.width
answer_told (Err told) = Refused told.number told.place

-- the opening, from the reader's answer: the header, or the line of the refusal
abbrev pub opening : (why : Bool) → Answer → List ℕ
opening why a = granted (number a) (header_of why) (λ n. refusal_line n (place a))

-- the lines of the records of row i, from 0
abbrev pub lines_of_row : (why : Bool) → List ℕ → ℕ → List ℕ
lines_of_row why s i = cond why (reason_lines (reasoned_row s i)) (lines (row_run s i).events)

-- the lines of row i; a row that is refused has none
abbrev pub row_lines : (why : Bool) → List ℕ → ℕ → List ℕ
row_lines why s i = granted (first_rows s (i + 1)).number (lines_of_row why s i) (λ n. [])

-- the lines of the first n rows, joined
abbrev pub rows_lines : (why : Bool) → List ℕ → (n : ℕ) → List ℕ
rows_lines why s zero = []
rows_lines why s (suc n) = rows_lines why s n ++ row_lines why s n

-- what stands behind the first-out in the lines of row i: nothing, or reasons by what they read of it
abbrev pub column_of : (why : Bool) → List ℕ → (i : ℕ) → Option Sight
column_of why s i = cond why (Some (row_sight s i)) None

-- ## A piece at a place

-- in a buffer of n bytes, any piece fits from this place on
abbrev pub has_room : (n at : ℕ) → Bool
has_room n at = leb (at + most_piece) n

-- the lent bytes after a piece
abbrev pub placed : List ℕ → ℕ → List ℕ → List ℕ
placed out at text = cond (has_room (length out) at) (sets out at text) out

-- the answer for a piece: whether the buffer was full, and the place after the piece
pub record Piece : Type 0 where
  pub full : Bool
  pub at : ℕ

abbrev pub written : (n at : ℕ) → List ℕ → Piece
written n at text = cond (has_room n at) (record { full = false; at = at + length text }) (record { full = true; at = at })

-- as the code answers it: that place, or none where the buffer was full
abbrev pub place_of : Piece → Option ℕ
place_of p = cond p.full None (Some p.at)

-- the answer for a row: whether the buffer was full, the place after the row's lines, and the row's turn
pub record PrintedPiece : Type 0 where
  pub full : Bool
  pub at : ℕ
  pub turn : Turn

-- as the code answers it, from a run and a place: where the buffer was full, none, and both are as they were
abbrev pub printed_of : Run → (at : ℕ) → Option Printed → PrintedPiece
printed_of run at None = record { full = true; at = at; turn = record { number = 0; records = 0; run = run } }
printed_of run at (Some p) = record { full = false; at = p.at; turn = as_turn p.turn }

-- the lines of a row at a place, and what the row results in. If the buffer was full, the row was not run
pub record PrintedRow (why : Bool) (s : List ℕ) (run : Run) (at : ℕ) (out : List ℕ) (r : PrintedPiece) (array' out' : List ℕ) : Type 0 where
  pub full_is : r.full ≡ not (has_room (length out) at)
  pub at-is : r.at ≡ cond (has_room (length out) at) (at + length (row_lines why s run.rows)) at
  pub within : at ≤ length out → r.at ≤ length out
  pub text : out' ≡ placed out at (row_lines why s run.rows)
  pub number_is : r.turn.number ≡ cond (has_room (length out) at) (first_rows s (run.rows + 1)).number 0
  pub records_are : r.turn.records ≡ cond (has_room (length out) at) (records_of s run.rows) 0
  pub going : Going s r.turn.run array'
  pub rows_are : r.turn.run.rows
      ≡ cond (has_room (length out) at) (granted (first_rows s (run.rows + 1)).number (run.rows + 1) (λ n. run.rows)) run.rows

-- ## All pieces

-- what a caller's loop over the rows ends with: refusal number, rows and answer are those of the whole replay
pub record Last (s : List ℕ) (t : Turn) : Type 0 where
  pub number_is : t.number ≡ (replay s).number
  pub rows_are : t.run.rows ≡ (replay s).replay.rows
  pub answer_is : answer_of t ≡ answered (replay s)
