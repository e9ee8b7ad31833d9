-- What a row gives to the words of effects. No entry point's contract cites this page.
use Rattle.std.specs.Prelude.{ℕ, ◌+◌, ◌*◌, ◌≤◌, ◌≡◌, Bool, cond, List, length}
use Rattle.std.specs.Int.Bits.{bit_and}
use Rattle.std.proofs.lemmas.List.Edits.{sets}
use Rattle.bits.specs.Words.{word_of}
use Rattle.effects.specs.Records.{record_length, bytes}
use Rattle.effects.specs.Scan.{effect_word, latent_word, any_exercised}
use Rattle.rounds.specs.Steps.{Run, held}
use Rattle.rules.specs.declared.Seen.{Seen}
use Rattle.planes.specs.declared.Asked.{Asked}
use Rattle.engine.specs.declared.Mark.{Mark}
use Rattle.cells.specs.declared.Plan.{Plan}
use Rattle.engine.specs.declared.Task.{Task}
use Rattle.boards.specs.Table.{watches}
use Rattle.boards.specs.Board.{Board, board_of, run_of, Shown}
use Rattle.engine.specs.Marks.{board_at}
use Rattle.settings.specs.declared.Row.{Row}
use Rattle.settings.specs.declared.Settings.{Settings}
use Rattle.settings.specs.declared.Words.{Words}
use Rattle.rules.specs.Limits.{most_scans}
use Rattle.settings.specs.Right.{known_of, settings_number, row_number}
use Rattle.settings.specs.Causes.{seen_of}
use Rattle.settings.specs.Signals.{forces_count, signals}
use Rattle.plans.specs.Plans.{Wired}
use Rattle.wiring.specs.declared.Struck.{Struck}

-- ## A row

-- what is seen of the causes that any effect watches; the others reach no effect
abbrev pub watched_of : Plan → Words → Seen
watched_of plan w =
    let seen = seen_of plan.options w in
    record { tripped = bit_and seen.tripped plan.watched; bad = bit_and seen.bad plan.watched }

-- what the rules are asked in a row, where this is seen of the causes
unfoldable pub asked_by : Plan → (associations : List ℕ) → Seen → Words → Asked
asked_by plan associations seen w =
    record {
      force_trip = cond (forces_count plan.options w) w.force_trip 0;
      force_normal = cond (forces_count plan.options w) w.force_normal 0;
      bad_trip = word_of (watches associations seen.bad) plan.count;
      active = word_of (watches associations seen.tripped) plan.count;
      require_reset = w.require_reset;
      reset_permit = w.reset_permit;
      start_permit = w.start_permit;
      reset = w.reset;
      with_delay = plan.with_delay;
    }

-- what the row asks of a stroke
abbrev pub task_of : Plan → (associations : List ℕ) → Row → Task
task_of plan associations row =
    let seen = watched_of plan row.words in
    record { hold = row.hold; seen = seen; asked = asked_by plan associations seen row.words }

-- ## A held run

-- what a held run results in: its board, the two words of its last scan, and whether it exercises an effect
pub record Stroked : Type 0 where
  pub board : Board
  pub effect : ℕ
  pub latent : ℕ
  pub exercised : Bool

-- the result that the code gives, with the array
abbrev pub stroked_at : Struck → (array : List ℕ) → Stroked
stroked_at r array =
    record { board = board_at r.mark array; effect = r.effect; latent = r.latent; exercised = r.exercised }

-- the result of the run of slots
abbrev pub stroked_by : Settings → Words → Run → Stroked
stroked_by st w r =
    record {
      board = board_of st.count r;
      effect = effect_word st.count r.slots;
      latent = latent_word (signals st w);
      exercised = any_exercised (signals st w);
    }

-- the held run of what the effects see
abbrev pub held_of : Settings → Row → Mark → (array : List ℕ) → Run
held_of st row x array = held (signals st row.words) row.hold (run_of st.count (board_at x array))

-- the row can run with these settings, and its records fit in so many bytes
pub record Runs (st : Settings) (plan : Plan) (row : Row) (x : Mark) (array : List ℕ) (room : ℕ) : Type 0 where
  pub settings : settings_number st ≡ 0
  pub wired : Wired st plan array
  pub row_right : row_number (known_of st) row ≡ 0
  pub countable : x.scans_done + row.hold ≤ most_scans
  pub shown : Shown st.count (board_at x array).table
  pub fits : record_length * length (held_of st row x array).events ≤ room

-- the row can run with some settings
pub record Runnable (plan : Plan) (row : Row) (x : Mark) (array : List ℕ) (room : ℕ) : Type 0 where
  pub st : Settings
  pub runs : Runs st plan row x array room

-- what the run results in, with these settings
pub record Ran (st : Settings) (plan : Plan) (row : Row) (x : Mark) (array buf : List ℕ) (r : Struck) (array' buf' : List ℕ) : Type 0 where
  pub stroked : stroked_at r array' ≡ stroked_by st row.words (held_of st row x array)
  pub laid : buf' ≡ sets buf 0 (bytes (held_of st row x array).events)
  pub wired : Wired st plan array'

-- what the run results in, with any settings with which the row can run
abbrev pub RunsBy : Plan → Row → Mark → (array buf : List ℕ) → Struck → (array' buf' : List ℕ) → Type 0
RunsBy plan row x array buf r array' buf' =
    (st : Settings) → Runs st plan row x array (length buf) → Ran st plan row x array buf r array' buf'
