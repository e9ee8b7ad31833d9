-- The sums of a recording, and how they are counted: by stretches, event after event. Document 02, L1. Entry points' contracts cite the
-- first section alone.
use Rattle.std.specs.Prelude.{ℕ, zero, suc, ◌+◌, ◌*◌, ◌-◌, ◌≤◌, ◌<◌, ◌≡◌, List, [], ◌∷◌, get_or, length, set, replicate}
use Rattle.bits.specs.Words.{one}
use Rattle.rules.specs.declared.EffectState.TheVariants.{Tripped}
use Rattle.rules.specs.Limits.{most_effects}
use Rattle.rules.specs.Rules.{code, most_code, same}
use Rattle.sums.specs.Sums.{most_sum}
use Rattle.effects.specs.declared.Event.{Event}
use Rattle.effects.specs.Records.{StandFrom}

-- ## The sums of a recording, and of a report

-- an effect has a sum for each of the six states, at the place of the state's code, and behind them one for its changes into Tripped
abbrev pub trip_place : ℕ
trip_place = 6

abbrev pub sums_of_effect : ℕ
sums_of_effect = trip_place + 1

-- those of sixteen effects, and the exercised scans behind them
abbrev pub exercised_sum : ℕ
exercised_sum = sums_of_effect * most_effects

abbrev pub sum_count : ℕ
sum_count = exercised_sum + 1

-- the place of a sum: the effect in slot i, from 0, in the state of a code, and its changes into Tripped
abbrev pub state_sum : (i code : ℕ) → ℕ
state_sum i c = sums_of_effect * i + c

abbrev pub trip_sum : (i : ℕ) → ℕ
trip_sum i = sums_of_effect * i + trip_place

-- ## The count

-- the sums so far, and the stretch that is open for each slot: since when at the slot's place, and the code of its state sixteen places on
pub record Count : Type 0 where
  pub sums : List ℕ
  pub stretches : List ℕ

abbrev pub count_of : (sums stretches : List ℕ) → Count
count_of a b = record { sums = a; stretches = b }

abbrev pub stretch_cells : ℕ
stretch_cells = 2 * most_effects

-- every effect stands in Tripped from the beginning, and the code of Tripped is 0
abbrev pub none : Count
none = count_of (replicate sum_count 0) (replicate stretch_cells 0)

abbrev pub since_of : Count → (i : ℕ) → ℕ
since_of t i = get_or t.stretches i 0

abbrev pub code_in : Count → (i : ℕ) → ℕ
code_in t i = get_or t.stretches (most_effects + i) 0

-- ## A stretch ends

-- a sum grows
abbrev pub raised : List ℕ → (k more : ℕ) → List ℕ
raised sums k more = set sums k (get_or sums k 0 + more)

-- the sums where the stretch of slot i ends with scan number c: the sum of its state grows by its length
abbrev pub closed_at : (i c : ℕ) → Count → List ℕ
closed_at i c t = raised t.sums (state_sum i (code_in t i)) (c - since_of t i)

-- a stretch can be closed: its slot and state are such, and the sum fits
pub record Closable (i c : ℕ) (t : Count) : Type 0 where
  pub slot_fits : i < most_effects
  pub code_fits : code_in t i ≤ most_code
  pub sum_fits : get_or t.sums (state_sum i (code_in t i)) 0 + (c - since_of t i) ≤ most_sum

-- the sums where the stretches of the first n slots end with scan number c
abbrev pub closed_to : (n c : ℕ) → Count → List ℕ
closed_to zero c t = t.sums
closed_to (suc i) c t = closed_at i c (count_of (closed_to i c t) t.stretches)

-- they can be closed, one after the other
abbrev pub AllClosable : (n c : ℕ) → Count → Type 0
AllClosable n c t = (i : ℕ) → i < n → Closable i c (count_of (closed_to i c t) t.stretches)

-- ## One event more

abbrev pub slot_of : Event → ℕ
slot_of e = e.effect - 1

-- an event closes the stretch of its effect with the scan before, and opens the next
abbrev pub count_event : Event → Count → Count
count_event e t =
    record {
      sums = raised (closed_at (slot_of e) (e.scan - 1) t) (trip_sum (slot_of e)) (one (same e.to Tripped));
      stretches = set (set t.stretches (slot_of e) (e.scan - 1)) (most_effects + slot_of e) (code e.to);
    }

abbrev pub counted : List Event → Count → Count
counted [] t = t
counted (e ∷ es) t = counted es (count_event e t)

-- an event can be counted: it is one of an effect, whose stretch can be closed, and the sum of its changes into Tripped fits
pub record Countable (e : Event) (t : Count) : Type 0 where
  pub least : 1 ≤ e.effect
  pub closable : Closable (slot_of e) (e.scan - 1) t
  pub trips_fit : get_or t.sums (trip_sum (slot_of e)) 0 + 1 ≤ most_sum

abbrev pub AllCountable : List Event → Count → Type 0
AllCountable [] t = Unit {0}
AllCountable (e ∷ es) t = Countable e t × AllCountable es (count_event e t)

-- n records stand at the front: those of some events that can be counted
abbrev pub Waiting : List ℕ → (n : ℕ) → Count → Type 0
Waiting records n t = (es : List Event) × (length es ≡ n) × StandFrom records 0 es × AllCountable es t

-- the events whose n records these are were counted
abbrev pub CountedAll : List ℕ → (n : ℕ) → Count → Count → Type 0
CountedAll records n t u = (es : List Event) → length es ≡ n → StandFrom records 0 es → u ≡ counted es t
