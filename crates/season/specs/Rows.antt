-- How the rows of a recording are counted, a piece after the other, and how its sums are joined to those of a report. No entry point's
-- contract cites this page.
use Rattle.std.specs.Prelude.{ℕ, ◌+◌, ◌*◌, ◌≤◌, ◌<◌, ◌≡◌, List, get_or}
use Rattle.effects.specs.Records.{most_row_bytes}
use Rattle.settings.specs.Refusals.{unless, granted}
use Rattle.rerun.specs.declared.Run.{Run}
use Rattle.rerun.specs.Replay.{replay, first_rows}
use Rattle.rerun.specs.Turn.{Going}
use Rattle.tally.specs.Tally.{Count, none, counted, sum_count}
use Rattle.season.specs.declared.Report.{Report}
use Rattle.season.specs.Answer.{Added}
use Rattle.sums.specs.Sums.{in_range, summed}

-- in a recording whose rows all run: the count is that of the events of as many first rows as the run counts
pub record Tallying (s : List ℕ) (run : Run) (array : List ℕ) (c : Count) : Type 0 where
  pub going : Going s run array
  pub all_run : (replay s).number ≡ 0
  pub counts : c ≡ counted (first_rows s run.rows).replay.events none

-- the most rows of a piece, and the room that their records need
abbrev pub piece_rows : ℕ
piece_rows = 32

abbrev pub piece_bytes : ℕ
piece_bytes = most_row_bytes * piece_rows

-- of so many rows, a piece that begins with one of them ends before row `until`
pub record PieceEnds (row rows until : ℕ) : Type 0 where
  pub some : row < until
  pub few : until ≤ row + piece_rows
  pub within : until ≤ rows

-- a piece more
pub record PieceCounted (s : List ℕ) (run r : Run) (array' : List ℕ) (c' : Count) : Type 0 where
  pub tallying : Tallying s r array' c'
  pub onward : run.rows < r.rows

-- all rows were counted
pub record AllCounted (s : List ℕ) (r : Run) (c' : Count) : Type 0 where
  pub scans : r.mark.scans_done ≡ (replay s).replay.state.scans_done
  pub exercised : r.exercised ≡ (replay s).replay.exercised
  pub counts : c' ≡ counted (replay s).replay.events none

-- ## The report

abbrev pub refused_at : Report → (number place : ℕ) → Added
refused_at r n p = record { number = n; place = p; effects = 0; report = r }

-- a recording of n effects was added, and these are the sums
abbrev pub grown_to : (n : ℕ) → (sums : List ℕ) → Added
grown_to n sums = record { number = 0; place = 0; effects = n; report = record { sums = sums } }

-- by what a recording of n effects adds to each sum
abbrev pub joined_by : Report → (n : ℕ) → (ℕ → ℕ) → Added
joined_by r n f = granted (unless (in_range f r.sums) 11) (grown_to n (summed f sum_count r.sums)) (λ k. refused_at r k 0)

unfoldable pub joined : Report → (n : ℕ) → (sums : List ℕ) → Added
joined r n sums = joined_by r n (λ k. get_or sums k 0)
