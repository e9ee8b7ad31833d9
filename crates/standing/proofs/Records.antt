-- The states that records tell: what is left of them in a loop, and the state of each effect after all of them.
use mathlib.Core.Path.{◌≡◌, refl, ap, ◌∙◌}
use mathlib.Core.Bool.{Bool, true, false, cond}
use mathlib.Core.List.{List, [], ◌∷◌, ◌++◌}
use Prim.Native.Nat.{ℕ, ◌+◌, ◌*◌, ◌-◌, ◌≤◌, ◌<◌}
use native.Mathlib.Omega.{arith}
use borrow.Author.Tests.{eqb-true, eqb-false}
use lib.Dec.{eqb, leb}
use lib.ListN.{length, drop, get_or, set, drop_of_length-le, length-set}
use lib.Seq.{get_or-set_same, get_or-set_other}
use Rattle.rules.specs.declared.EffectState.{EffectState}
use Rattle.rules.specs.declared.Slot.{Slot}
use Rattle.rules.specs.Limits.{most_effects}
use Rattle.rules.specs.Rules.{no_slot}
use Rattle.effects.specs.declared.Event.{Event}
use Rattle.effects.specs.Records.{record_length, Numbered, StandFrom, StandsAt}
use Rattle.effects.proofs.Records.{no_event, left_first, nth, one_event}
use Rattle.trace.specs.Effect.{only_if, change_of, own, told}
use Rattle.standing.specs.Stands.{slot_in, told_by, told_all}

-- ## In a loop

-- the event that was read, of any whose records these are
pub read_is : (records : List ℕ) (n i : ℕ) (e : Event) → StandsAt records (record_length * i) e → i < n
    → (es : List Event) → length es ≡ n → StandFrom records 0 es → e ≡ get_or es i no_event
read_is records n i e stands less es h all = one_event records (record_length * i) e _ stands (nth records es n i h all less)

module _ (c : ℕ) (es : List Event) (i : ℕ) (xs : List Slot) where
  pub left_told : i < length es → told_all c (drop i es) xs ≡ told_all c (drop (i + 1) es) (told_by c (get_or es i no_event) xs)
  left_told more = ap (λ (l : List Event). told_all c l xs) (left_first es i more)

  pub none_left : length es ≤ i → told_all c (drop i es) xs ≡ xs
  none_left h = ap (λ (l : List Event). told_all c l xs) (drop_of_length-le es {i = i} h)

-- ## Each effect

length_told_by : (b : Bool) (k : ℕ) (v : Slot) (xs : List Slot) → length (cond b (set xs k v) xs) ≡ length xs
length_told_by true k v xs = length-set xs k v
length_told_by false k v xs = refl

-- an event tells the state of its own effect
module _ (e : Event) (i : ℕ) (xs : List Slot) where
  abbrev k : ℕ
  k = e.effect - 1

  abbrev p : EffectState
  p = (get_or xs i no_slot).state

  its_own : e.effect ≡ 1 + i → i < length xs → (b : Bool) → (get_or (cond b (set xs k (slot_in e.to)) xs) i no_slot).state ≡ cond b e.to p
  its_own own l true =
      let place : i ≡ k = omega (arith, own) in
      ap (λ (j : ℕ). (get_or (set xs k (slot_in e.to)) j no_slot).state) place ∙ ap (λ (x : Slot). x.state) (get_or-set_same xs k (slot_in e.to) no_slot (omega (arith, place)))
  its_own own l false = refl

  -- and of no other
  no_other : (e.effect ≡ 1 + i → ⊥) → 1 ≤ e.effect → (b : Bool) → (get_or (cond b (set xs k (slot_in e.to)) xs) i no_slot).state ≡ p
  no_other other least true = ap (λ (x : Slot). x.state) (get_or-set_other xs k i (slot_in e.to) no_slot (λ z. other (omega (arith, z, least))))
  no_other other least false = refl

pub told_state : (c i : ℕ) (es : List Event) (xs : List Slot) → Numbered most_effects es → i < length xs
    → (get_or (told_all c es xs) i no_slot).state ≡ told c (own (1 + i) es) (get_or xs i no_slot).state
told_state c i [] xs h l = refl
told_state c i (e ∷ es) xs h l =
    told_state c i es (told_by c e xs) h.2 (omega (arith, l, length_told_by (leb e.scan c) (e.effect - 1) (slot_in e.to) xs))
    ∙ go (eqb e.effect (1 + i)) refl
  where
    go : (b : Bool) → eqb e.effect (1 + i) ≡ b
        → told c (own (1 + i) es) (get_or (told_by c e xs) i no_slot).state ≡ told c (only_if b (change_of e) ++ own (1 + i) es) (get_or xs i no_slot).state
    go true own-effect = ap (told c (own (1 + i) es)) (its_own e i xs (eqb-true e.effect (1 + i) own-effect) l (leb e.scan c))
    go false other = ap (told c (own (1 + i) es)) (no_other e i xs (eqb-false e.effect (1 + i) other) h.0 (leb e.scan c))
