-- Document 01, "Corner table": P1 to P12, in its order, P12 as document 02, L3, changes it. One cause, one effect, period 100.
use Rattle.std.specs.Prelude.{ℕ, Bool, ◌&&◌, List, [], ◌∷◌, eqb, get_or, replicate}
use Rattle.bits.specs.Lists.{all_from}
use Rattle.rules.specs.declared.EffectState.{EffectState}
use Rattle.rules.specs.declared.EffectState.TheVariants.{Tripped, WaitReset, Ready, WaitStart, Normal, Delayed}
use Rattle.rules.specs.declared.Slot.{Slot}
use Rattle.rules.specs.Rules.{same, no_slot}
use Rattle.effects.specs.Records.{record_length}
use Rattle.settings.specs.declared.Settings.{Settings}
use Rattle.settings.specs.declared.Words.{Words}
use Rattle.settings.specs.Signals.{no_effect}
use Rattle.block.specs.declared.State.{State}
use Rattle.block.specs.Answer.{Scanned}
use Rattle.block.specs.Scan.{scan_of}

-- a row of the table: its number, the options, the delay and the words, the effect before the scan and after it
pub record Corner : Type 0 where
  pub number : ℕ
  pub options : ℕ
  pub delay : ℕ
  pub words : Words
  pub before : Slot
  pub after : Slot

-- the one cause is quiet, and these words are set: require reset, reset permit, start permit and reset
abbrev waiting : (needs_reset may_reset may_start reset : ℕ) → Words
waiting needs_reset may_reset may_start reset =
    record {
      values = 1;
      bad = 0;
      mask = 0;
      require_reset = needs_reset;
      reset_permit = may_reset;
      start_permit = may_start;
      reset = reset;
      force_permit = 0;
      force_trip = 0;
      force_normal = 0;
    }

-- the cause's value, Bad status and mask, and start permit, force permit and force normal; every other word is zero
abbrev causing : (value bad mask may_start may_force forced_normal : ℕ) → Words
causing value bad mask may_start may_force forced_normal =
    record {
      values = value;
      bad = bad;
      mask = mask;
      require_reset = 0;
      reset_permit = 0;
      start_permit = may_start;
      reset = 0;
      force_permit = may_force;
      force_trip = 0;
      force_normal = forced_normal;
    }

abbrev slot : EffectState → (timer first : ℕ) → Slot
slot p t f = record { state = p; timer = t; first_out = f }

abbrev corner : (number options delay : ℕ) → Words → (before after : Slot) → Corner
corner n o d w a b = record { number = n; options = o; delay = d; words = w; before = a; after = b }

-- the table. Where document 01 leaves a first-out or a timer open, it has a value that a valid state allows
abbrev pub corners : List Corner
corners =
    -- Tripped, quiet, no reset required, start permit: Normal
    corner 1 0 0 (waiting 0 0 1 0) (slot Tripped 0 1) (slot Normal 0 0)
    -- Tripped, quiet, no reset required, no start permit: Wait-start
    ∷ corner 2 0 0 (waiting 0 0 0 0) (slot Tripped 0 1) (slot WaitStart 0 1)
    -- Tripped, quiet, reset required, no reset permit: Wait-reset
    ∷ corner 3 0 0 (waiting 1 0 0 0) (slot Tripped 0 1) (slot WaitReset 0 1)
    -- Tripped, quiet, reset required, reset permit: Ready
    ∷ corner 4 0 0 (waiting 1 1 0 0) (slot Tripped 0 1) (slot Ready 0 1)
    -- Ready, reset, reset permit, no start permit: Wait-start
    ∷ corner 5 0 0 (waiting 0 1 0 1) (slot Ready 0 1) (slot WaitStart 0 1)
    -- Ready, reset but no reset permit: Wait-reset
    ∷ corner 6 0 0 (waiting 0 0 0 1) (slot Ready 0 1) (slot WaitReset 0 1)
    -- Wait-reset, require reset 0, reset permit: Ready
    ∷ corner 7 0 0 (waiting 0 1 0 0) (slot WaitReset 0 1) (slot Ready 0 1)
    -- Normal, active, delay 0: Tripped, first-out 1
    ∷ corner 8 0 0 (causing 0 0 0 0 0 0) (slot Normal 0 0) (slot Tripped 0 1)
    -- Delayed, timer 100, quiet: Tripped
    ∷ corner 9 0 500 (causing 1 0 0 0 0 0) (slot Delayed 100 1) (slot Tripped 0 1)
    -- Delayed, timer 101, quiet: Delayed, timer 1
    ∷ corner 10 0 500 (causing 1 0 0 0 0 0) (slot Delayed 101 1) (slot Delayed 1 1)
    -- Delayed, force normal: Normal, first-out 0
    ∷ corner 11 0 500 (causing 1 0 0 0 1 1) (slot Delayed 500 1) (slot Normal 0 0)
    -- Tripped, option bit 0, quiet, a masked cause Bad: Wait-start
    ∷ corner 12 1 0 (causing 1 1 1 0 0 0) (slot Tripped 0 1) (slot WaitStart 0 1)
    -- the same with start permit: Normal
    ∷ corner 12 1 0 (causing 1 1 1 1 0 0) (slot Tripped 0 1) (slot Normal 0 0)
    ∷ []

abbrev settings_of : Corner → Settings
settings_of c =
    record {
      causes = 1;
      options = c.options;
      period = 100;
      count = 1;
      effects = record { association = 1; delay = c.delay } ∷ replicate 15 no_effect;
    }

abbrev state_before : Corner → State
state_before c = record { scans_done = 0; next = 0; slots = c.before ∷ replicate 15 no_slot }

abbrev same_slot : Slot → Slot → Bool
same_slot a b = same a.state b.state && eqb a.timer b.timer && eqb a.first_out b.first_out

-- the scan of a corner, with room for one record: it is accepted, and the effect is then as the table says
abbrev scanned : Corner → Scanned
scanned c = scan_of (settings_of c) c.words (state_before c) record_length

abbrev pub agrees : Corner → Bool
agrees c = eqb (scanned c).number 0 && same_slot (get_or (scanned c).state.slots 0 no_slot) c.after

abbrev pub all_agree : List Corner → Bool
all_agree = all_from (λ i c. agrees c) 0
