-- A state as the code of a run carries it, and what a held run gives where the state is carried so. No entry point's
-- contract cites this page.
use Rattle.std.specs.Prelude.{ℕ, ◌*◌, ◌≤◌, ◌≡◌, List, length}
use Rattle.std.proofs.lemmas.List.Edits.{sets}
use Rattle.bits.specs.Words.{one}
use Rattle.effects.specs.Records.{record_length, bytes}
use Rattle.rounds.specs.Steps.{Run, start}
use Rattle.engine.specs.declared.Mark.{Mark}
use Rattle.cells.specs.declared.Plan.{Plan}
use Rattle.cells.specs.Array.{array_length, associations_in, delays_in}
use Rattle.boards.specs.Table.{table_of, slots_of}
use Rattle.boards.specs.Board.{Board, board_of}
use Rattle.engine.specs.Marks.{board_at, begun}
use Rattle.settings.specs.declared.Row.{Row}
use Rattle.settings.specs.declared.Settings.{Settings}
use Rattle.wiring.specs.declared.Struck.{Struck}
use Rattle.plans.specs.Plans.{associations_of, delays_of, Wired}
use Rattle.block.specs.declared.State.{State}
use Rattle.block.specs.Answer.{Scanned}
use Rattle.block.specs.Answer.{Held}
use Rattle.block.specs.Scan.{input_number}
use Rattle.block.specs.Held.{Stepped, run}

-- the run that starts at a state
abbrev pub start_of : State → Run
start_of x = start x.scans_done x.next x.slots

-- the state that a board shows
abbrev pub reached_by : ℕ → Board → State
reached_by n b = record { scans_done = b.scans_done; next = b.next; slots = slots_of n b.table }

-- the run over lists that single scans have reached
abbrev pub run_of : Stepped → Run
run_of r = record { scans_done = r.state.scans_done; next = r.state.next; slots = r.state.slots; events = r.events; live = r.live }

-- a mark, and the array beside it
pub record Loaded : Type 0 where
  pub mark : Mark
  pub board : List ℕ

-- what a stroke starts with, at a state
pub record LoadedAs (st : Settings) (x : State) (r : Loaded) : Type 0 where
  pub board_is : board_at r.mark r.board ≡ board_of st.count (start_of x)
  pub associations_are : associations_in r.board ≡ associations_of st
  pub delays_are : delays_in r.board ≡ delays_of st
  pub long : length r.board ≡ array_length

-- ## Where the state is kept as words

-- the state that the words and the array show
abbrev pub kept_state : Settings → Mark → (array : List ℕ) → State
kept_state st x array = reached_by st.count (board_at x array)

-- single scans from the state that the words and the array show
abbrev pub kept_run : Settings → Row → Mark → (array : List ℕ) → Stepped
kept_run st row x array = run st row (kept_state st x array)

-- the row can run with these settings, and its records fit in so many bytes
pub record Runs (st : Settings) (plan : Plan) (row : Row) (x : Mark) (array : List ℕ) (room : ℕ) : Type 0 where
  pub wired : Wired st plan array
  pub shown : (board_at x array).table ≡ table_of st.count (slots_of st.count (board_at x array).table)
  pub input : input_number st (kept_state st x array) row ≡ 0
  pub fits : record_length * length (kept_run st row x array).events ≤ room

-- the row can run with some settings
pub record Runnable (plan : Plan) (row : Row) (x : Mark) (array : List ℕ) (room : ℕ) : Type 0 where
  pub st : Settings
  pub runs : Runs st plan row x array room

-- what the run results in, with these settings: the words of the state that single scans reach, their records, their live scans,
-- whether they exercise an effect, and the effect and latent words of the last
pub record Ran (st : Settings) (plan : Plan) (row : Row) (x : Mark) (array buf : List ℕ) (r : Struck) (array' buf' : List ℕ) : Type 0 where
  pub board : board_at (begun r.mark) array' ≡ board_of st.count (start_of (kept_run st row x array).state)
  pub records : r.mark.at ≡ record_length * length (kept_run st row x array).events
  pub live : r.mark.live ≡ (kept_run st row x array).live
  pub exercised : row.hold * one r.exercised ≡ (kept_run st row x array).exercised
  pub effect : r.effect ≡ (kept_run st row x array).effect
  pub latent : r.latent ≡ (kept_run st row x array).latent
  pub laid : buf' ≡ sets buf 0 (bytes (kept_run st row x array).events)
  pub wired : Wired st plan array'

-- what the run results in, with any settings with which the row can run
abbrev pub RunsBy : Plan → Row → Mark → (array buf : List ℕ) → Struck → (array' buf' : List ℕ) → Type 0
RunsBy plan row x array buf r array' buf' =
    (st : Settings) → Runs st plan row x array (length buf) → Ran st plan row x array buf r array' buf'

-- the part of a held run's answer that a scan answers
abbrev pub scanned_by : Held → Scanned
scanned_by h =
    record {
      number = h.number;
      place = h.place;
      state = h.state;
      effect = h.effect;
      latent = h.latent;
      records = h.records;
    }
