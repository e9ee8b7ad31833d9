-- A held run over lists of signals and slots, scan by scan, as inner functions promise it. Document 01, "Held runs and their
-- two counts". The held run that users are promised is `run` (block/specs/Held); block/proofs/Stepping shows that both agree.
use Rattle.std.specs.Prelude.{ℕ, zero, suc, ◌+◌, false, List, [], ◌++◌, map}
use Rattle.bits.specs.Words.{one}
use Rattle.rules.specs.Signals.{Signals}
use Rattle.rules.specs.declared.Slot.{Slot}
use Rattle.rules.specs.Rules.{next, moved}
use Rattle.effects.specs.declared.Event.{Event}
use Rattle.effects.specs.Scan.{steps, any_moved, seq_after, events_from}

-- a run: the scans done, the next sequence number, the slots, and what it has given so far: its events and its live scans
pub record Run : Type 0 where
  pub scans_done : ℕ
  pub next : ℕ
  pub slots : List Slot
  pub events : List Event
  pub live : ℕ

-- a run that starts
abbrev pub start : ℕ → ℕ → List Slot → Run
start d q xs = record { scans_done = d; next = q; slots = xs; events = []; live = 0 }

-- one scan more
abbrev pub scan : List Signals → Run → Run
scan ss r =
    record {
      scans_done = r.scans_done + 1;
      next = seq_after r.next ss r.slots;
      slots = steps ss r.slots;
      events = r.events ++ events_from r.next (r.scans_done + 1) 1 ss r.slots;
      live = r.live + one (any_moved ss r.slots);
    }

-- the signals of the scans after the first: the reset counts in the first scan and is zero afterwards
abbrev pub clear : Signals → Signals
clear s =
    record {
      active = s.active;
      bad = s.bad;
      trip = s.trip;
      normal = s.normal;
      require = s.require;
      permit = s.permit;
      start = s.start;
      reset = false;
      delay = s.delay;
      period = s.period;
    }

-- n scans of one row
abbrev pub held : List Signals → ℕ → Run → Run
held ss zero r = r
held ss (suc n) r = held (map clear ss) n (scan ss r)

-- how many of n scans change the state of one effect, where the reset counts in the first scan only
abbrev pub moves : Signals → ℕ → Slot → ℕ
moves s zero x = 0
moves s (suc n) x = one (moved s x) + moves (clear s) n (next s x)
