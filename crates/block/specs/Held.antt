-- A held run of the block: its scans, one by one. Document 01, "Held runs and their two counts" and "Refusal numbers".
use Rattle.std.specs.Prelude.{ℕ, zero, suc, ◌+◌, ◌*◌, List, [], ◌++◌, length}
use Rattle.bits.specs.Words.{one}
use Rattle.effects.specs.declared.Event.{Event}
use Rattle.effects.specs.Records.{record_length}
use Rattle.effects.specs.Scan.{any_moved, any_exercised}
use Rattle.settings.specs.declared.Settings.{Settings}
use Rattle.settings.specs.declared.Words.{Words}
use Rattle.settings.specs.declared.Row.{Row}
use Rattle.settings.specs.Refusals.{or_else, granted, room_number}
use Rattle.settings.specs.Signals.{signals}
use Rattle.block.specs.declared.State.{State}
use Rattle.block.specs.Answer.{Scanned}
use Rattle.block.specs.Answer.{Held}
use Rattle.block.specs.Scan.{input_number, at_front, events, scan_of}

-- the words of the scans after the first: the reset word counts in the first scan and is zero afterwards
abbrev pub later : Words → Words
later w =
    record {
      values = w.values;
      bad = w.bad;
      mask = w.mask;
      require_reset = w.require_reset;
      reset_permit = w.reset_permit;
      start_permit = w.start_permit;
      reset = 0;
      force_permit = w.force_permit;
      force_trip = w.force_trip;
      force_normal = w.force_normal;
    }

-- the words of scan number k + 1 of a hold
abbrev pub words_at : ℕ → Words → Words
words_at zero w = w
words_at (suc k) w = later w

-- what a run has given so far: the state, the words of its last scan, its events, and its live and exercised scans
pub record Stepped : Type 0 where
  pub state : State
  pub effect : ℕ
  pub latent : ℕ
  pub events : List Event
  pub live : ℕ
  pub exercised : ℕ

abbrev pub start : State → Stepped
start x = record { state = x; effect = 0; latent = 0; events = []; live = 0; exercised = 0 }

-- the answer to a single scan that is lent just the room for its records
abbrev pub single : Settings → Words → State → Scanned
single st w x = scan_of st w x (record_length * length (events st w x))

-- one single scan more. It is live if some effect's state after it differs from before, and it counts as exercised if any
-- effect does
abbrev pub step : Settings → Words → Stepped → Stepped
step st w r =
    record {
      state = (single st w r.state).state;
      effect = (single st w r.state).effect;
      latent = (single st w r.state).latent;
      events = r.events ++ events st w r.state;
      live = r.live + one (any_moved (signals st w) r.state.slots);
      exercised = r.exercised + one (any_exercised (signals st w));
    }

-- n single scans of one row
abbrev pub stepped : Settings → Words → ℕ → Stepped → Stepped
stepped st w zero r = r
stepped st w (suc n) r = stepped st (later w) n (step st w r)

-- a held run applies one row for its hold
unfoldable pub run : Settings → Row → State → Stepped
run st row x = stepped st row.words row.hold (start x)

unfoldable pub held_number : Settings → Row → State → (room : ℕ) → ℕ
held_number st row x room = or_else (input_number st x row) (room_number (record_length * length (run st row x).events) room)

abbrev pub refused_held : State → ℕ → Held
refused_held x number =
    record { number = number; place = 0; state = x; effect = 0; latent = 0; records = 0; live = 0; exercised = 0 }

abbrev pub granted_held : Settings → Row → State → Held
granted_held st row x =
    record {
      number = 0;
      place = 0;
      state = (run st row x).state;
      effect = (run st row x).effect;
      latent = (run st row x).latent;
      records = length (run st row x).events;
      live = (run st row x).live;
      exercised = (run st row x).exercised;
    }

-- the answer to a held run, with so much room for its records
unfoldable pub held_of : Settings → Row → State → (room : ℕ) → Held
held_of st row x room = granted (held_number st row x room) (granted_held st row x) (refused_held x)

-- the lent buffer after a held run; a refusal touches no byte
unfoldable pub held_into : Settings → Row → State → List ℕ → List ℕ
held_into st row x out = granted (held_number st row x (length out)) (at_front (run st row x).events out) (λ n. out)
