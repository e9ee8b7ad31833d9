-- A whole recording, replayed from a fresh state: row after row, each a held run. Document 01, "One session, whole" and, for
-- refusal number 9, "Refusal numbers".
use Rattle.std.specs.Prelude.{ℕ, zero, suc, ◌+◌, List, [], ◌∷◌, ◌++◌, get_or, length, take}
use Rattle.effects.specs.declared.Event.{Event}
use Rattle.settings.specs.declared.Settings.{Settings}
use Rattle.settings.specs.declared.Row.{Row}
use Rattle.settings.specs.Refusals.{granted}
use Rattle.block.specs.declared.State.{State}
use Rattle.block.specs.State.{fresh}
use Rattle.block.specs.Scan.{scans_number}
use Rattle.block.specs.Held.{Stepped, run}
use Rattle.recording.specs.Answers.{number, place, first_row, row_width}
use Rattle.settings.specs.Zeros.{no_row}
use Rattle.recording.specs.Reader.{reading}
use Rattle.recording.specs.Steps.{rows_of}
use Rattle.rerun.specs.declared.Replayed.{Replayed}

-- what the rows so far have given; the state has the scans done
pub record Replay : Type 0 where
  pub state : State
  pub rows : ℕ
  pub events : List Event
  pub live : ℕ
  pub exercised : ℕ

abbrev pub started : Replay
started = record { state = fresh; rows = 0; events = []; live = 0; exercised = 0 }

-- what the rows have given with one row more, whose run gave `ran`
abbrev pub joined : Replay → Stepped → Replay
joined r ran =
    record {
      state = ran.state;
      rows = r.rows + 1;
      events = r.events ++ ran.events;
      live = r.live + ran.live;
      exercised = r.exercised + ran.exercised;
    }

abbrev pub after_row : Settings → Row → Replay → Replay
after_row st row r = joined r (run st row r.state)

-- what a replay results in: 0 and 0 where every row was replayed, or the refusal number and its place; and what the rows before
-- it have given
pub record Outcome : Type 0 where
  pub number : ℕ
  pub place : ℕ
  pub replay : Replay

abbrev pub whole : Replay → Outcome
whole r = record { number = 0; place = 0; replay = r }

abbrev pub refused_at : ℕ → Replay → ℕ → Outcome
refused_at at r n = record { number = n; place = at; replay = r }

-- the rows from `at` on, each `width` bytes: refusal number 9 at the first byte of the row whose scans cannot be counted. Settings, rows
-- and state are valid here, so no other refusal number of a held run can occur (`a_row_is_refused_by_9_alone`, proofs/Theorems)
abbrev pub rows_from : Settings → (width at : ℕ) → List Row → Replay → Outcome
rows_from st width at [] r = whole r
rows_from st width at (row ∷ rows) r =
    granted (scans_number r.state.scans_done row.hold) (rows_from st width (at + width) rows (after_row st row r)) (refused_at at r)

-- these rows of a file, replayed from its first row's place
abbrev pub replay_rows : List ℕ → List Row → Outcome
replay_rows s rows = rows_from (reading s).settings (row_width (reading s).answer) (first_row (reading s).answer) rows started

-- an accepted file: all its rows; a refused one: the reader's refusal number and place, and nothing has run
unfoldable pub replay : List ℕ → Outcome
replay s = granted (number (reading s).answer) (replay_rows s (rows_of s)) (refused_at (place (reading s).answer) started)

-- ## The answer to a whole file

-- what all rows have given, in numbers
abbrev pub counts : Replay → Replayed
counts r =
    record {
      number = 0;
      place = 0;
      records = length r.events;
      rows = r.rows;
      scans = r.state.scans_done;
      live = r.live;
      exercised = r.exercised;
    }

-- a refusal gives its refusal number, a place, and zeros; what the rows before refusal number 9 have given is in the listing alone
abbrev pub refusal : (place number : ℕ) → Replayed
refusal place number = record { number = number; place = place; records = 0; rows = 0; scans = 0; live = 0; exercised = 0 }

abbrev pub answered : Outcome → Replayed
answered o = granted o.number (counts o.replay) (refusal o.place)

-- ## Row by row

-- what the first i rows of an accepted file result in
unfoldable pub first_rows : List ℕ → ℕ → Outcome
first_rows s i = replay_rows s (take i (rows_of s))

-- row i, from 0, and its held run from the state that the rows before it left
abbrev pub row_of : List ℕ → ℕ → Row
row_of s i = get_or (rows_of s) i no_row

unfoldable pub row_run : List ℕ → ℕ → Stepped
row_run s i = run (reading s).settings (row_of s i) (first_rows s i).replay.state

-- the events of the first i rows, joined
abbrev pub events_of : List ℕ → ℕ → List Event
events_of s zero = []
events_of s (suc i) = events_of s i ++ (row_run s i).events

-- the sum of the holds of all rows
abbrev pub sum_of_holds : List Row → ℕ
sum_of_holds [] = 0
sum_of_holds (row ∷ rows) = row.hold + sum_of_holds rows
