-- Valid settings in parts, as the sections of a file show them: each slot of the effects is one of the count, or empty.
use mathlib.Core.Path.{◌≡◌, refl, ap, ap₂, ◌∙◌}
use mathlib.Core.Bool.{Bool, true, false, ◌&&◌}
use mathlib.Core.List.{List, [], ◌∷◌, ◌++◌}
use Prim.Native.Nat.{ℕ, zero, suc, ◌+◌, ◌-◌, ◌≤◌}
use native.Mathlib.Omega.{arith}
use borrow.Author.Tests.{ltb-true, ltb-false, eqb-true, leb-true, lt-ltb, le-ltb, le-leb}
use lib.Dec.{leb, ltb, eqb}
use lib.ListN.{length, take, replicate}
use lib.Seq.{take-nil, length-take-le}
use Rattle.bits.specs.Lists.{all_from}
use Rattle.settings.specs.declared.Effect.{Effect}
use Rattle.settings.specs.declared.Known.{Known}
use Rattle.settings.specs.declared.Settings.{Settings}
use Rattle.settings.specs.Right.{known_of, block_ok, block_number, effect_ok, effect_number, count_ok, slot_ok, effects_number, settings_number}
use Rattle.settings.specs.Signals.{no_effect}
use Rattle.settings.proofs.Refusals.{or_else_none, unless_none}
use Rattle.layout.specs.Entries.{block_check}
use Rattle.recording.specs.Encode.{All, block_of, effects_of}
use Rattle.bits.proofs.Lists.{and_left, and_right}

-- ## The slots: effects, and nothing after them

module _ (k : Known) where
  empty_slot : (e : Effect) → (eqb e.association 0 && eqb e.delay 0) ≡ true → e ≡ no_effect
  empty_slot e h =
      let c = eqb-true e.association 0 (and_left (eqb e.association 0) (eqb e.delay 0) h) in
      let d = eqb-true e.delay 0 (and_right (eqb e.association 0) (eqb e.delay 0) h) in
      λ i. record { association = c i; delay = d i }

  abbrev Split : ℕ → List Effect → Type 0
  Split n es = All (effect_number k.causes) (take n es) × (es ≡ take n es ++ replicate (length es - n) no_effect)

  one-slot : (e : Effect) (es : List Effect) (i : ℕ) (b : Bool) → ltb i k.count ≡ b → slot_ok k i e ≡ true → Split (k.count - (i + 1)) es → Split (k.count - i) (e ∷ es)
  one-slot e es i true q h t =
      let m = k.count - (i + 1) in
      let lt = ltb-true i k.count q in
      let step : k.count - i ≡ suc m = omega (arith, lt) in
      let left : suc (length es) - suc m ≡ length es - m = omega arith in
      let ok : effect_ok k.causes e ≡ true = rw q at h in
      rw (step, left, ok) ((refl, t.0), ap {B = List Effect} (λ l. e ∷ l) t.1)
  one-slot e es i false q h t =
      let ge = ltb-false i k.count q in
      let now : k.count - i ≡ 0 = omega (arith, ge) in
      let next : k.count - (i + 1) ≡ 0 = omega (arith, ge) in
      let none : e ≡ no_effect = empty_slot e (rw q at h) in
      let rest : es ≡ replicate (length es - 0) no_effect = rw next at t.1 in
      let whole : suc (length es) - 0 ≡ suc (length es - 0) = omega arith in
      rw (now, whole) (tt, ap₂ {B = List Effect} (λ (x : Effect) (l : List Effect). x ∷ l) none rest)

  slots_split : (es : List Effect) (i : ℕ) → all_from (slot_ok k) i es ≡ true → Split (k.count - i) es
  slots_split [] i h =
      let z : 0 - (k.count - i) ≡ 0 = omega arith in
      rw (take-nil (k.count - i), z) (tt, refl)
  slots_split (e ∷ es) i h =
      one-slot e es i (ltb i k.count) refl (and_left (slot_ok k i e) (all_from (slot_ok k) (i + 1) es) h)
      (slots_split es (i + 1) (and_right (slot_ok k i e) (all_from (slot_ok k) (i + 1) es) h))

  none_after : (m i : ℕ) → k.count ≤ i → all_from (slot_ok k) i (replicate m no_effect) ≡ true
  none_after zero i h = refl
  none_after (suc m) i h = rw (le-ltb i k.count h) (none_after m (i + 1) (omega arith))

  slots_join : (xs : List Effect) (m i : ℕ) → i + length xs ≡ k.count → All (effect_number k.causes) xs → all_from (slot_ok k) i (xs ++ replicate m no_effect) ≡ true
  slots_join [] m i e h = none_after m i (omega (arith, e))
  slots_join (x ∷ xs) m i e h =
      let ok : effect_ok k.causes x ≡ true = unless_none (effect_ok k.causes x) 2 h.0 in
      rw (lt-ltb i k.count (omega (arith, e)), ok) (slots_join xs m (i + 1) (omega (arith, e)) h.1)

-- ## Settings that nothing refuses, in parts and back

pub record Parts (st : Settings) : Type 0 where
  pub block : block_check (block_of st) ≡ 0
  pub least : 1 ≤ st.count
  pub most : st.count ≤ 16
  pub effects : All (effect_number st.causes) (effects_of st)
  pub slots : st.effects ≡ effects_of st ++ replicate (16 - st.count) no_effect

module _ (st : Settings) (sixteen : length st.effects ≡ 16) where
  pub in_parts : settings_number st ≡ 0 → Parts st
  unfolding settings_number
  in_parts h =
      let n = st.count in
      let both = or_else_none (block_number st.causes st.options st.period) (effects_number st) h in
      let tests = unless_none (count_ok n && all_from (slot_ok (known_of st)) 0 st.effects) 2 both.1 in
      let count = and_left (count_ok n) (all_from (slot_ok (known_of st)) 0 st.effects) tests in
      let s = slots_split (known_of st) st.effects 0 (and_right (count_ok n) (all_from (slot_ok (known_of st)) 0 st.effects) tests) in
      let same : n - 0 ≡ n = omega arith in
      record {
        block = both.0;
        least = leb-true 1 n (and_left (leb 1 n) (leb n 16) count);
        most = leb-true n 16 (and_right (leb 1 n) (leb n 16) count);
        effects = rw same at s.0;
        slots = rw (same, sixteen) at s.1;
      }

  pub of_parts : Parts st → settings_number st ≡ 0
  unfolding settings_number
  of_parts p =
      let n = st.count in
      let len : length (effects_of st) ≡ n = length-take-le n st.effects (omega (arith, sixteen, p.most)) in
      let s : all_from (slot_ok (known_of st)) 0 st.effects ≡ true =
      ap (all_from (slot_ok (known_of st)) 0) p.slots ∙ slots_join (known_of st) (effects_of st) (16 - n) 0 (omega (arith, len)) p.effects
      in
      rw (unless_none (block_ok st.causes st.options st.period) 1 p.block, le-leb 1 n p.least, le-leb n 16 p.most, s)
