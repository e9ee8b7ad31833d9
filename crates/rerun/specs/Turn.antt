-- What the code carries from row to row, and what one row more results in. No entry point's contract
-- cites this page.
use Rattle.std.specs.Prelude.{ℕ, zero, suc, ◌+◌, ◌-◌, ◌*◌, ◌/◌, ◌≤◌, ◌<◌, Bool, cond, ◌≡◌, List, length}
use Rattle.std.proofs.lemmas.List.Edits.{sets}
use Rattle.bits.specs.Words.{one}
use Rattle.effects.specs.Records.{record_length, most_row_bytes, bytes}
use Rattle.boards.specs.Board.{Board, board_of}
use Rattle.engine.specs.Marks.{board_at, begun}
use Rattle.settings.specs.declared.Settings.{Settings}
use Rattle.rules.specs.Limits.{most_scans}
use Rattle.settings.specs.Refusals.{granted}
use Rattle.wiring.specs.declared.Struck.{Struck}
use Rattle.plans.specs.Plans.{Wired}
use Rattle.block.specs.Run.{start_of}
use Rattle.recording.specs.Answers.{number, row_count_of, row_width}
use Rattle.recording.specs.Reader.{reading}
use Rattle.recording.specs.Steps.{row_place}
use Rattle.rerun.specs.declared.Run.{Run}
use Rattle.rerun.specs.Answer.{Turn}
use Rattle.rerun.specs.declared.Replayed.{Replayed}
use Rattle.rerun.specs.Answer.{Stop}
use Rattle.rerun.specs.Replay.{Replay, Outcome, started, refusal, first_rows, row_run}

-- ## What is carried

-- what rows have given, by the words of the effects, and the place of the row after them
pub record Totals : Type 0 where
  pub board : Board
  pub place : ℕ
  pub records : ℕ
  pub rows : ℕ
  pub live : ℕ
  pub exercised : ℕ

-- the totals of n effects, with the next row at this place
abbrev pub totals_at : (n place : ℕ) → Replay → Totals
totals_at n place r =
    record {
      board = board_of n (start_of r.state);
      place = place;
      records = length r.events;
      rows = r.rows;
      live = r.live;
      exercised = r.exercised;
    }

-- the totals in a file
abbrev pub totals_of : List ℕ → Replay → Totals
totals_of s r = totals_at (reading s).settings.count (row_place s r.rows) r

-- the totals as the code carries them, with the array that is lent beside
abbrev pub totals_in : Run → (array : List ℕ) → Totals
totals_in run array =
    record {
      board = board_at run.mark array;
      place = run.place;
      records = run.records;
      rows = run.rows;
      live = run.live;
      exercised = run.exercised;
    }

-- run and array are those after as many first rows of an accepted file as the run counts, none of which was refused
pub record Going (s : List ℕ) (run : Run) (array : List ℕ) : Type 0 where
  pub accepted : number (reading s).answer ≡ 0
  pub wired : Wired (reading s).settings run.plan array
  pub wide : run.width ≡ row_width (reading s).answer
  pub many : run.row_count ≡ row_count_of (reading s).answer
  pub counted : run.rows ≤ row_count_of (reading s).answer
  pub none_refused : (first_rows s run.rows).number ≡ 0
  pub totals : totals_in run array ≡ totals_of s (first_rows s run.rows).replay

-- ## The beginning

-- a run, and the array beside it
pub record Begun : Type 0 where
  pub run : Run
  pub board : List ℕ

-- a run that begins with these settings, and with this number of rows, first row's place and width of a row
pub record Begins (st : Settings) (rows first width : ℕ) (r : Begun) : Type 0 where
  pub wired : Wired st r.run.plan r.board
  pub wide : r.run.width ≡ width
  pub many : r.run.row_count ≡ rows
  pub totals : totals_in r.run r.board ≡ totals_at st.count first started

-- ## One row more

-- the records of row i fit, if it runs
abbrev pub Fits : List ℕ → (i room : ℕ) → Type 0
Fits s i room = (first_rows s (i + 1)).number ≡ 0 → record_length * length (row_run s i).events ≤ room

-- a row is left, and its records fit in so many bytes
pub record RowReady (s : List ℕ) (run : Run) (array : List ℕ) (room : ℕ) : Type 0 where
  pub going : Going s run array
  pub more : run.rows < row_count_of (reading s).answer
  pub fits : Fits s run.rows room

-- the number of records of row i; a refused row gives none
abbrev pub records_of : List ℕ → ℕ → ℕ
records_of s i = granted (first_rows s (i + 1)).number (length (row_run s i).events) (λ n. 0)

-- the lent bytes after row i, whose records go to a place
abbrev pub row_into : List ℕ → (i at : ℕ) → List ℕ → List ℕ
row_into s i at buf = granted (first_rows s (i + 1)).number (sets buf at (bytes (row_run s i).events)) (λ n. buf)

-- what row number run .rows results in; a refused row leaves the run as it was: its place is the row's first byte
pub record RowDone (s : List ℕ) (run : Run) (buf : List ℕ) (r : Turn) (array' buf' : List ℕ) : Type 0 where
  pub number_is : r.number ≡ (first_rows s (run.rows + 1)).number
  pub records_are : r.records ≡ records_of s run.rows
  pub going : Going s r.run array'
  pub rows_are : r.run.rows ≡ granted (first_rows s (run.rows + 1)).number (run.rows + 1) (λ n. run.rows)
  pub laid : buf' ≡ row_into s run.rows 0 buf

-- the run after a row of this hold, whose run resulted in `ran`
abbrev pub run_after : Run → (hold : ℕ) → Struck → Run
run_after run hold ran =
    record {
      plan = run.plan;
      mark = begun ran.mark;
      width = run.width;
      row_count = run.row_count;
      place = run.place + run.width;
      rows = run.rows + 1;
      records = run.records + ran.mark.at / record_length;
      live = run.live + ran.mark.live;
      exercised = run.exercised + hold * one ran.exercised;
    }

-- the sums of the run after a row are at most the scans that can be counted, so every integer of the code can hold them
pub record SmallSums (run : Run) (hold : ℕ) (ran : Struck) : Type 0 where
  pub place : run.place + run.width ≤ most_scans
  pub rows : run.rows ≤ most_scans
  pub records : run.records + ran.mark.at ≤ most_scans
  pub live : run.live + ran.mark.live ≤ most_scans
  pub exercised : run.exercised + hold * one ran.exercised ≤ most_scans

-- ## Some rows

-- how many records the rows from row i to the one before row k have
abbrev pub records_between : List ℕ → (i k : ℕ) → ℕ
records_between s i k = length (first_rows s k).replay.events - length (first_rows s i).replay.events

-- where the records of a row go, after so many records
abbrev pub place_of : (keep : Bool) → (records : ℕ) → ℕ
place_of keep records = cond keep (record_length * records) 0

-- the lent bytes after n rows, from row i on
unfoldable pub rows_into : List ℕ → (keep : Bool) → (i n : ℕ) → List ℕ → List ℕ
rows_into s keep i zero buf = buf
rows_into s keep i (suc n) buf =
    row_into s (i + n) (place_of keep (records_between s i (i + n))) (rows_into s keep i n buf)

-- the room that the rows from row i to the one before another need: that of all their records where they are kept, and else that of any
-- one row
abbrev pub room_of : List ℕ → (i until : ℕ) → (keep : Bool) → ℕ
room_of s i until keep = cond keep (record_length * records_between s i until) most_row_bytes

pub record RowsReady (s : List ℕ) (run : Run) (until : ℕ) (array : List ℕ) (room : ℕ) (keep : Bool) : Type 0 where
  pub going : Going s run array
  pub onward : run.rows ≤ until
  pub within : until ≤ row_count_of (reading s).answer
  pub fits : room_of s run.rows until keep ≤ room

-- what the rows before `until`, up to a refused one, result in
pub record RowsDone (s : List ℕ) (run : Run) (until : ℕ) (keep : Bool) (buf : List ℕ) (r : Turn) (array' buf' : List ℕ) : Type 0 where
  pub number_is : r.number ≡ (first_rows s until).number
  pub records_are : r.records ≡ 0
  pub going : Going s r.run array'
  pub rows_are : r.run.rows ≡ (first_rows s until).replay.rows
  pub laid : buf' ≡ rows_into s keep run.rows (until - run.rows) buf

-- ## The answer

-- the answer for rows that all ran
abbrev pub counts_in : Run → Replayed
counts_in run =
    record {
      number = 0;
      place = 0;
      records = run.records;
      rows = run.rows;
      scans = run.mark.scans_done;
      live = run.live;
      exercised = run.exercised;
    }

-- the answer of a replay that ended with this turn
abbrev pub answer_of : Turn → Replayed
answer_of t = granted t.number (counts_in t.run) (refusal t.run.place)

-- where a replay stops: its refusal number and place alone
abbrev pub stop_of : Outcome → Stop
stop_of o = record { number = o.number; place = o.place }
