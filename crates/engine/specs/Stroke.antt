-- What a scan and a stroke of the words ask for, and what they give. No entry point's contract cites this page.
use Rattle.std.specs.Prelude.{◌≡◌, ℕ, ◌+◌, ◌*◌, ◌<◌, ◌≤◌, Bool, true, List, length}
use Rattle.std.proofs.lemmas.List.Edits.{sets}
use Rattle.rules.specs.Limits.{most_hold, most_period, most_scans}
use Rattle.effects.specs.Records.{record_length, bytes}
use Rattle.rules.specs.declared.Seen.{Seen}
use Rattle.rules.specs.Signals.{Signals}
use Rattle.rounds.specs.Steps.{Run, held}
use Rattle.planes.specs.declared.Asked.{Asked}
use Rattle.planes.specs.declared.Planes.{Planes}
use Rattle.planes.specs.Planes.{planes_after, changed_of}
use Rattle.engine.specs.declared.Mark.{Mark}
use Rattle.cells.specs.declared.Plan.{Plan}
use Rattle.engine.specs.declared.Task.{Task}
use Rattle.cells.specs.Array.{array_length, associations_in, delays_in, Same}
use Rattle.boards.specs.Table.{Settled, Within, Steady, joined}
use Rattle.boards.specs.Board.{Board, entries_of, scanned, signals_in, run_of, board_of, Right}
use Rattle.engine.specs.Marks.{board_at}

-- if the scan before has changed no state, the next one changes none, where nothing is due
abbrev pub Calm : Asked → Planes → (still : Bool) → Type 0
Calm w p still = still ≡ true → changed_of p (planes_after w 0 p) ≡ 0

-- ## A scan

-- the board after a scan, from a mark and its array
abbrev pub scanned_by : Plan → Seen → Asked → Mark → (array : List ℕ) → Board
scanned_by plan seen w x array =
    scanned plan.count (associations_in array) (delays_in array) plan.period seen w (board_at x array)

-- the records of a scan, from a mark and its array
abbrev pub entries_by : Plan → Seen → Asked → Mark → (array : List ℕ) → List (List ℕ)
entries_by plan seen w x array =
    entries_of plan.count (associations_in array) (delays_in array) plan.period seen w (board_at x array)

pub record ScanReady (plan : Plan) (seen : Seen) (w : Asked) (x : Mark) (array : List ℕ) (room : ℕ) : Type 0 where
  pub few : plan.count ≤ 16
  pub long : length array ≡ array_length
  pub countable : x.scans_done < most_scans
  pub short : x.live < most_hold
  pub settled : Settled plan.count (board_at x array).table
  pub within : Within plan.count x.planes
  pub within_then : Within plan.count (scanned_by plan seen w x array).table.planes
  pub steady : Steady plan.count x.planes (scanned_by plan seen w x array).table.planes
  pub fits : x.at + record_length * length (entries_by plan seen w x array) ≤ room

pub record ScanDone (plan : Plan) (seen : Seen) (w : Asked) (x : Mark) (array buf : List ℕ) (r : Mark) (array' buf' : List ℕ) : Type 0 where
  pub board : board_at r array' ≡ scanned_by plan seen w x array
  pub laid : buf' ≡ sets buf x.at (joined (entries_by plan seen w x array))
  pub same : Same array array'

-- ## A stroke

-- what the effects see of a task
abbrev pub seen_by : Plan → Task → (array : List ℕ) → List Signals
seen_by plan task array =
    signals_in plan.count (associations_in array) (delays_in array) plan.period task.seen task.asked

-- the held run of a task
abbrev pub held_by : Plan → Task → Mark → (array : List ℕ) → Run
held_by plan task x array = held (seen_by plan task array) task.hold (run_of plan.count (board_at x array))

pub record StrokeReady (plan : Plan) (task : Task) (x : Mark) (array : List ℕ) (room : ℕ) : Type 0 where
  pub few : plan.count ≤ 16
  pub long : length array ≡ array_length
  pub short : task.hold ≤ most_hold
  pub some : 0 < plan.period
  pub quick : plan.period ≤ most_period
  pub countable : x.scans_done + task.hold ≤ most_scans
  pub right : Right plan.count (associations_in array) (delays_in array) plan.period task.seen task.asked (board_at x array)
  pub fits : record_length * length (held_by plan task x array).events ≤ room

pub record StrokeDone (plan : Plan) (task : Task) (x : Mark) (array buf : List ℕ) (r : Mark) (array' buf' : List ℕ) : Type 0 where
  pub board : board_at r array' ≡ board_of plan.count (held_by plan task x array)
  pub laid : buf' ≡ sets buf 0 (bytes (held_by plan task x array).events)
  pub same : Same array array'
