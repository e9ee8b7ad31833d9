-- The reason of an effect's state after a scan, found from the forces, the Bad and active causes, the state before and the slot
-- after. Which reason is right stands in Fits. Document 02, L4.
use Rattle.std.specs.Prelude.{ℕ, ◌-◌, cond, List, ltb, get_or}
use Rattle.rules.specs.declared.EffectState.{EffectState}
use Rattle.rules.specs.declared.EffectState.TheVariants.{Tripped, WaitReset, Ready, WaitStart, Normal, Delayed}
use Rattle.rules.specs.declared.Slot.{Slot}
use Rattle.rules.specs.Signals.{Signals}
use Rattle.rules.specs.Rules.{same, next}
use Rattle.effects.specs.declared.Event.{Event}
use Rattle.reasons.specs.declared.Sight.{Sight}
use Rattle.reasons.specs.declared.Signs.{Signs}
use Rattle.reasons.specs.Given.{signs_of, signs_in}
use Rattle.reasons.specs.declared.Missing.{Missing}
use Rattle.reasons.specs.declared.Missing.TheVariants.{ResetPermit, Reset, StartPermit}
use Rattle.reasons.specs.declared.Reason.{Reason}
use Rattle.reasons.specs.declared.Reason.TheVariants.{ForcedTripped, ForcedNormal, Bad, Active, DelayRunning, DelayEnded, Waiting, Cleared, AtRest}

-- ## The numbers of a reason

-- its kind, in document 02's order
abbrev pub kind : Reason → ℕ
kind ForcedTripped = 0
kind ForcedNormal = 1
kind (Bad w) = 2
kind (Active w) = 3
kind (DelayRunning t) = 4
kind DelayEnded = 5
kind (Waiting m) = 6
kind Cleared = 7
kind AtRest = 8

-- the causes that it names, as a word
abbrev pub mask : Reason → ℕ
mask ForcedTripped = 0
mask ForcedNormal = 0
mask (Bad w) = w
mask (Active w) = w
mask (DelayRunning t) = 0
mask DelayEnded = 0
mask (Waiting m) = 0
mask Cleared = 0
mask AtRest = 0

-- the milliseconds left that it names
abbrev pub millis : Reason → ℕ
millis ForcedTripped = 0
millis ForcedNormal = 0
millis (Bad w) = 0
millis (Active w) = 0
millis (DelayRunning t) = t
millis DelayEnded = 0
millis (Waiting m) = 0
millis Cleared = 0
millis AtRest = 0

-- the number of a missing thing
abbrev pub thing : Missing → ℕ
thing ResetPermit = 1
thing Reset = 2
thing StartPermit = 3

-- the missing thing that it names; 0 where nothing is missing
abbrev pub missing : Reason → ℕ
missing ForcedTripped = 0
missing ForcedNormal = 0
missing (Bad w) = 0
missing (Active w) = 0
missing (DelayRunning t) = 0
missing DelayEnded = 0
missing (Waiting m) = thing m
missing Cleared = 0
missing AtRest = 0

-- ## The reason, by what is seen from outside

-- from Delayed
abbrev pub delay_by : EffectState → ℕ → Reason
delay_by to timer = cond (same to Delayed) (DelayRunning timer) DelayEnded

-- from any other state with no active cause; such an effect is never Tripped or Delayed after, and AtRest stands in
abbrev pub quiet_by : EffectState → EffectState → Reason
quiet_by from Tripped = AtRest
quiet_by from WaitReset = Waiting ResetPermit
quiet_by from Ready = Waiting Reset
quiet_by from WaitStart = Waiting StartPermit
quiet_by from Normal = cond (same from Normal) AtRest Cleared
quiet_by from Delayed = AtRest

-- neither forced nor Bad
abbrev pub unforced_by : ℕ → (from to : EffectState) → (timer : ℕ) → Reason
unforced_by active from to timer = cond (same from Delayed) (delay_by to timer) (cond (ltb 0 active) (Active active) (quiet_by from to))

-- by what is read of the row, the state before, and the state and timer after
abbrev pub reason_by : Signs → (from to : EffectState) → (timer : ℕ) → Reason
reason_by r from to timer =
    cond r.trip ForcedTripped (cond r.normal ForcedNormal (cond (ltb 0 r.bad) (Bad r.bad) (unforced_by r.active from to timer)))

-- the reason of the effect's state after the scan
abbrev pub reason_of : Signals → Slot → Reason
reason_of s x = reason_by (signs_of s) x.state (next s x).state (next s x).timer

-- the reason of a record, by what is read of its row and the association words of the effects; where a state changes, the timer is not read
abbrev pub reason_in : Sight → (associations : List ℕ) → Event → Reason
reason_in sight associations e = reason_by (signs_in sight (get_or associations (e.effect - 1) 0) (e.effect - 1)) e.from e.to 0
