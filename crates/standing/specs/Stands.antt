-- How all effects stand after the last scan of a recording whose rows all run, and how records tell it. No entry point's contract cites
-- this page.
use Rattle.std.specs.Prelude.{ℕ, ◌+◌, ◌-◌, ◌<◌, ◌≡◌, cond, List, [], ◌∷◌, leb, length, get_or, set}
use Rattle.rules.specs.declared.EffectState.{EffectState}
use Rattle.rules.specs.declared.Slot.{Slot}
use Rattle.rules.specs.Rules.{no_slot}
use Rattle.effects.specs.declared.Event.{Event}
use Rattle.effects.specs.Records.{StandFrom}
use Rattle.settings.specs.declared.Settings.{Settings}
use Rattle.settings.specs.Signals.{no_effect}
use Rattle.recording.specs.Answers.{row_count_of}
use Rattle.recording.specs.Reader.{reading}
use Rattle.rerun.specs.Replay.{replay, first_rows, row_run}
use Rattle.trace.specs.Effect.{own, told}
use Rattle.trace.specs.States.{state_at}
use Rattle.reasons.specs.declared.Reason.{Reason}
use Rattle.reasons.specs.Given.{signs_in}
use Rattle.reasons.specs.Reasons.{reason_by}
use Rattle.reasoned.specs.Told.{row_sight}
use Rattle.standing.specs.declared.Standing.{Standing}

-- ## States that records tell

-- a slot of which only the state counts
abbrev pub slot_in : EffectState → Slot
slot_in p = record { state = p; timer = 0; first_out = 0 }

-- the slots with the state that an event leads to, if its scan is not after scan number c
abbrev pub told_by : (c : ℕ) → Event → List Slot → List Slot
told_by c e xs = cond (leb e.scan c) (set xs (e.effect - 1) (slot_in e.to)) xs

abbrev pub told_all : (c : ℕ) → List Event → List Slot → List Slot
told_all c [] xs = xs
told_all c (e ∷ es) xs = told_all c es (told_by c e xs)

-- for any events whose n records these are: r are the slots with the states that they lead to
abbrev pub ToldAll : (c : ℕ) → (records : List ℕ) → (n : ℕ) → (xs r : List Slot) → Type 0
ToldAll c records n xs r = (es : List Event) → length es ≡ n → StandFrom records 0 es → r ≡ told_all c es xs

-- ## After the last scan

-- the last row, from 0
abbrev pub last_row : List ℕ → ℕ
last_row s = row_count_of (reading s).answer - 1

-- the state of the effect in slot i, from 0, before the last scan
abbrev pub state_before : List ℕ → (i : ℕ) → EffectState
state_before s i =
    told ((replay s).replay.state.scans_done - 1) (own (1 + i) (row_run s (last_row s)).events) (state_at i (first_rows s (last_row s)).replay.state)

pub record Stands (s : List ℕ) (x : Standing) : Type 0 where
  pub sight_is : x.sight ≡ row_sight s (last_row s)
  pub to_is : x.to ≡ (replay s).replay.state.slots
  pub from_is : (i : ℕ) → i < (reading s).settings.count → (get_or x.from i no_slot).state ≡ state_before s i

-- the reason of the effect in slot i, of effects that stand so
abbrev pub reason_now : Settings → Standing → (i : ℕ) → Reason
reason_now st x i =
    reason_by (signs_in x.sight (get_or st.effects i no_effect).association i) (get_or x.from i no_slot).state (get_or x.to i no_slot).state (get_or x.to i no_slot).timer
