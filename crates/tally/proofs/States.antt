-- Counting keeps every open stretch in a state: where the code of each is a state's before, it is after. So a caller of `count_events` may take
-- the codes that it leaves for states (`EffectState::of_code`).
use mathlib.Core.Path.{◌≡◌, refl, ◌∙◌}
use mathlib.Core.Bool.{Bool, true, false}
use mathlib.Core.List.{List, [], ◌∷◌}
use Prim.Native.Nat.{ℕ, ◌+◌, ◌-◌, ◌≤◌, ◌<◌}
use native.Mathlib.Omega.{arith}
use borrow.Author.Tests.{eqb-true, eqb-false}
use lib.Dec.{eqb}
use lib.ListN.{length, set, length-set}
use lib.Seq.{get_or-set_same, get_or-set_other}
use Rattle.rules.specs.Limits.{most_effects}
use Rattle.rules.specs.Rules.{code, most_code}
use Rattle.rules.proofs.States.{code_at_most}
use Rattle.effects.specs.declared.Event.{Event}
use Rattle.tally.specs.Tally.{Count, stretch_cells, code_in, slot_of, count_event, counted, Countable, AllCountable}

-- a stretch is open for each slot, and its code is a state's
pub record InStates (t : Count) : Type 0 where
  pub long : length t.stretches ≡ stretch_cells
  pub coded : (i : ℕ) → i < most_effects → code_in t i ≤ most_code

module _ (e : Event) (t : Count) (can : Countable e t) (is : InStates t) where
  abbrev j : ℕ
  j = slot_of e

  abbrev opened : List ℕ
  opened = set t.stretches j (e.scan - 1)

  as_long : length opened ≡ stretch_cells
  as_long = length-set t.stretches j (e.scan - 1) ∙ is.long

  mine : code_in (count_event e t) j ≤ most_code
  mine =
      rw (get_or-set_same opened (most_effects + j) (code e.to) 0 (omega (arith, as_long, can.closable.slot_fits)))
      (code_at_most e.to)

  other : (i : ℕ) → i < most_effects → (i ≡ j → ⊥) → code_in (count_event e t) i ≤ most_code
  other i h n =
      let k = most_effects + i in
      rw (get_or-set_other opened (most_effects + j) k (code e.to) 0 (λ z. n (omega (arith, z))), get_or-set_other t.stretches j k (e.scan - 1) 0 (λ z. omega (arith, z, can.closable.slot_fits)))
      (is.coded i h)

  each : (i : ℕ) → i < most_effects → code_in (count_event e t) i ≤ most_code
  each i h = go (eqb i j) refl
    where
      go : (b : Bool) → eqb i j ≡ b → code_in (count_event e t) i ≤ most_code
      go true b = rw (eqb-true i j b) mine
      go false b = other i h (eqb-false i j b)

  one_more : InStates (count_event e t)
  one_more = record { long = length-set opened (most_effects + j) (code e.to) ∙ as_long; coded = each }

pub states_stay : (es : List Event) (t : Count) → AllCountable es t → InStates t → InStates (counted es t)
states_stay [] t can is = is
states_stay (e ∷ es) t can is = states_stay es (count_event e t) can.1 (one_more e t can.0 is)
