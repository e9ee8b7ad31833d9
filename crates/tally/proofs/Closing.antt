-- The stretches that are open at the end: what closing them adds to each sum, and that they can be closed.
use mathlib.Core.Path.{◌≡◌, refl, ap, sym, ◌∙◌}
use mathlib.Core.Bool.{Bool, true, false, cond, ◌&&◌}
use mathlib.Core.List.{List}
use Prim.Native.Nat.{ℕ, zero, suc, ◌+◌, ◌-◌, ◌≤◌, ◌<◌}
use native.Mathlib.Omega.{arith}
use borrow.Author.Tests.{lt-ltb, le-ltb, ltb-true, ltb-false, eqb-true, eqb-false}
use lib.Dec.{eqb, ltb}
use lib.ListN.{length, get_or, length-set}
use lib.Seq.{get_or-set_same, get_or-set_other}
use Rattle.rules.specs.Limits.{most_effects, most_scans}
use Rattle.rules.specs.Rules.{code, most_code}
use Rattle.effects.specs.declared.Event.{Event}
use Rattle.tally.specs.Tally.{Count, sums_of_effect, exercised_sum, sum_count, state_sum, since_of, code_in, closed_to, AllClosable}
use Rattle.tally.proofs.Tallied.{code_few, open_after, Tallied, Bounded}

-- what the open stretches of the first n slots have of sum j of slot i, after c scans
abbrev pub open_part : (n c : ℕ) → Count → (i j : ℕ) → ℕ
open_part n c t i j = cond (ltb i n && eqb (code_in t i) j) (c - since_of t i) 0

module _ (c : ℕ) (t : Count) (i j : ℕ) where
  part_by : (n : ℕ) (a b : Bool) → ltb i n ≡ a → eqb (code_in t i) j ≡ b → open_part n c t i j ≡ cond (a && b) (c - since_of t i) 0
  part_by n a b e f = λ k. cond (e k && f k) (c - since_of t i) 0

  part_none : (n : ℕ) → n ≤ i → open_part n c t i j ≡ 0
  part_none n h = part_by n false (eqb (code_in t i) j) (le-ltb i n h) refl

  -- another slot more has nothing of it
  part_still : (m : ℕ) → (i ≡ m → ⊥) → open_part (suc m) c t i j ≡ open_part m c t i j
  part_still m d = go (ltb i m) refl (ltb m i) refl
    where
      go : (a : Bool) → ltb i m ≡ a → (b : Bool) → ltb m i ≡ b → open_part (suc m) c t i j ≡ open_part m c t i j
      go true e b f = ap (λ (x : Bool). cond (x && eqb (code_in t i) j) (c - since_of t i) 0) (lt-ltb i (suc m) (omega (arith, ltb-true i m e)) ∙ sym e)
      go false e true f = part_none (suc m) (omega (arith, ltb-true m i f)) ∙ sym (part_none m (ltb-false i m e))
      go false e false f = absurd (d (omega (arith, ltb-false m i f, ltb-false i m e)))

module _ {es : List Event} {t : Count} (is : Tallied es t) (c : ℕ) where
  few : (i : ℕ) → i < most_effects → code_in t i ≤ most_code
  few i h = omega (arith, is.states i h, code_few (open_after i es).state)

  pub length-closed : (n : ℕ) → length (closed_to n c t) ≡ sum_count
  length-closed zero = is.sums_long
  length-closed (suc n) = length-set (closed_to n c t) (state_sum n (code_in t n)) _ ∙ length-closed n

  -- ## Each sum

  -- what closing the first n stretches has made of sum j of slot i
  abbrev Closed : (n i j : ℕ) → Type 0
  Closed n i j = get_or (closed_to n c t) (state_sum i j) 0 ≡ get_or t.sums (state_sum i j) 0 + open_part n c t i j

  module _ (m : ℕ) (h : m < most_effects) where
    -- the sum that grows, and what it grows to
    abbrev grows : ℕ
    grows = state_sum m (code_in t m)

    abbrev to : ℕ
    to = get_or (closed_to m c t) grows 0 + (c - since_of t m)

    -- one slot more: a sum of that slot, or of another
    own_slot : (j : ℕ) → Closed m m j → (b : Bool) → eqb (code_in t m) j ≡ b → Closed (suc m) m j
    own_slot j before true e =
        let there : state_sum m j ≡ grows = ap (state_sum m) (sym (eqb-true (code_in t m) j e)) in
        omega (
          arith,
          ap (λ (k : ℕ). get_or (closed_to (suc m) c t) k 0) there ∙ get_or-set_same (closed_to m c t) grows to 0 (omega (arith, few m h, length-closed m)),
          ap (λ (k : ℕ). get_or (closed_to m c t) k 0) there,
          before,
          part_none c t m j m (omega arith),
          part_by c t m j (suc m) true true (lt-ltb m (suc m) (omega arith)) e,
        )
    own_slot j before false e =
        omega (
          arith,
          get_or-set_other (closed_to m c t) grows (state_sum m j) to 0 (λ z. eqb-false (code_in t m) j e (omega (arith, z))),
          before,
          part_none c t m j m (omega arith),
          part_by c t m j (suc m) true false (lt-ltb m (suc m) (omega arith)) e,
        )

    one_slot_more : ((i j : ℕ) → j < sums_of_effect → Closed m i j) → (i j : ℕ) → j < sums_of_effect → (b : Bool) → eqb i m ≡ b → Closed (suc m) i j
    one_slot_more before i j l true e = rw (eqb-true i m e) (own_slot j (before m j l) (eqb (code_in t m) j) refl)
    one_slot_more before i j l false e =
        let d = eqb-false i m e in
        omega (
          arith,
          get_or-set_other (closed_to m c t) grows (state_sum i j) to 0 (λ z. d (omega (arith, z, few m h))),
          before i j l,
          part_still c t i j m d,
        )

  pub closed_at : (n : ℕ) → n ≤ most_effects → (i j : ℕ) → j < sums_of_effect → Closed n i j
  closed_at zero l i j h = omega (arith, part_none c t i j 0 (omega arith))
  closed_at (suc m) l i j h = one_slot_more m (omega arith) (closed_at m (omega arith)) i j h (eqb i m) refl

  -- that of the exercised scans is as it was
  pub exercised_still : (n : ℕ) → n ≤ most_effects → get_or (closed_to n c t) exercised_sum 0 ≡ 0
  exercised_still zero l = is.exercised
  exercised_still (suc m) l =
      get_or-set_other (closed_to m c t) (state_sum m (code_in t m)) exercised_sum _ 0 (λ z. omega (arith, z, few m (omega arith))) ∙ exercised_still m (omega arith)

  -- ## They can be closed

  pub all_closable : Bounded es → c ≤ most_scans → (n : ℕ) → n ≤ most_effects → AllClosable n c t
  all_closable b most n l i h =
      let s : i < most_effects = omega arith in
      let q = (open_after i es).state in
      let k = code_in t i in
      let there : get_or t.sums (state_sum i k) 0 ≡ get_or t.sums (state_sum i (code q)) 0 = ap (λ (m : ℕ). get_or t.sums (state_sum i m) 0) (is.states i s) in
      record {
        slot_fits = s;
        code_fits = few i s;
        sum_fits = omega (arith, closed_at i (omega arith) i k (omega (arith, few i s)), part_none c t i k i (omega arith), there, is.stood i q s, b.stood i q, most);
      }
