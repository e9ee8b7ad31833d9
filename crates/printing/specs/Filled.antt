-- A buffer that is filled with the lines of rows, as long as they fit. No entry point's contract cites this page.
use Rattle.std.specs.Prelude.{ℕ, ◌+◌, ◌≤◌, ◌<◌, ◌≡◌, Bool, true, false, None, List, ◌++◌, length, take}
use Rattle.recording.specs.Answers.{row_count_of}
use Rattle.recording.specs.Reader.{reading}
use Rattle.rerun.specs.declared.Run.{Run}
use Rattle.rerun.specs.Answer.{as_end}
use Rattle.rerun.specs.Turn.{Going}
use Rattle.text.specs.Room.{most_piece}
use Rattle.listing.specs.Printed.{opening, rows_lines, PrintedPiece, printed_of, Last}
use Rattle.printing.specs.declared.Progress.{Progress}
use Rattle.printing.specs.declared.Progress.TheVariants.{Full, Last as Ended}

-- the listing_of why so far: its opening, and the lines of the first n rows
abbrev pub so_far : (why : Bool) → List ℕ → (n : ℕ) → List ℕ
so_far why s n = opening why (reading s).answer ++ rows_lines why s n

-- a full buffer, as a row that did not fit leaves it, or how the rows ended
abbrev pub filled_of : Progress → PrintedPiece
filled_of (Full at run) = printed_of run at None
filled_of (Ended at end) = record { full = false; at = at; turn = as_end end }

-- from this run, this place and these lent bytes to that answer, that array and those bytes
pub record Filled (why : Bool) (s : List ℕ) (run : Run) (at : ℕ) (out : List ℕ) (r : PrintedPiece) (array' out' : List ℕ) : Type 0 where
  -- where the text before, whatever was written of it, and the front of the buffer were the listing_of why so far, they still are
  pub text : (given : List ℕ) → given ++ take at out ≡ so_far why s run.rows → given ++ take r.at out' ≡ so_far why s r.turn.run.rows
  pub within : at ≤ length out → r.at ≤ length out
  pub kept : run.rows ≤ r.turn.run.rows
  pub going : Going s r.turn.run array'
  -- the buffer is full: a row is left, and if any piece did fit, then one was put
  pub more : r.full ≡ true → r.turn.run.rows < row_count_of (reading s).answer
  pub moved : r.full ≡ true → at + most_piece ≤ length out → run.rows < r.turn.run.rows
  -- else the answer is that of the whole replay
  pub last : r.full ≡ false → Last s r.turn
