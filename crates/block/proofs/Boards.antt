-- A valid state as words of its effects, and back: slots past the effects are those of no effect.
use mathlib.Core.Path.{◌≡◌, refl, ap, sym, ◌∙◌}
use mathlib.Core.Bool.{Bool, true, false, cond, ◌&&◌}
use Prim.Native.Nat.{ℕ, zero, suc, ◌+◌, ◌-◌, ◌^◌, ◌≤◌, ◌<◌}
use native.Mathlib.Nat.{zero-add}
use native.Mathlib.Omega.{arith}
use borrow.Author.Tests.{eqb-true, ltb-true, ltb-false, le-ltb, lt-ltb}
use lib.Bits.{bit_and, and_le_r}
use lib.Dec.{eqb, ltb}
use lib.ListN.{drop, get_or, length, replicate, length-drop, length-replicate, get_or-replicate}
use lib.Seq.{ext_get_or, get_or-drop, get_or-append-add}
use Rattle.bits.specs.Lists.{tabulate}
use Rattle.bits.proofs.Lists.{and_left, and_right, all-at, length-tabulate}
use Rattle.bits.proofs.Words.{bit_word_of}
use Rattle.rules.specs.declared.EffectState.TheVariants.{Tripped, Normal, Delayed}
use Rattle.rules.specs.declared.Slot.{Slot}
use Rattle.rules.specs.Rules.{no_slot, same}
use Rattle.rules.proofs.States.{same_eq}
use Rattle.planes.specs.Planes.{planes_of}
use Rattle.boards.specs.Table.{Narrow, Settled, padded as padded_by, table_of, slots_of}
use Rattle.boards.proofs.Rest.{filled-long}
use Rattle.boards.proofs.Slots.{Padded, back}
use Rattle.boards.proofs.Step.{padded_at}
use Rattle.settings.specs.declared.Settings.{Settings}
use Rattle.settings.specs.Right.{settings_number}
use Rattle.settings.specs.Signals.{no_effect}
use Rattle.settings.proofs.Right.{count_few, association_lt}
use Rattle.block.specs.declared.State.{State}
use Rattle.slots.specs.Slots.{timer_right, first_right, slot_right, slot_unused, slot_ok}
use Rattle.block.specs.State.{state_number}
use Rattle.block.proofs.RightStates.{slots_right}

-- an unused slot is the slot of no effect
unused : (x : Slot) → slot_unused x ≡ true → x ≡ no_slot
unused x e =
    let both = and_left (same x.state Tripped && eqb x.timer 0) (eqb x.first_out 0) e in
    let p = same_eq x.state Tripped (and_left (same x.state Tripped) (eqb x.timer 0) both) in
    let t = eqb-true x.timer 0 (and_right (same x.state Tripped) (eqb x.timer 0) both) in
    let f = eqb-true x.first_out 0 (and_right (same x.state Tripped && eqb x.timer 0) (eqb x.first_out 0) e) in
    λ i. record { state = p i; timer = t i; first_out = f i }

-- in a valid slot the timer is 0 except in Delayed, and the first-out is 0 in Normal
timer_none : (delay : ℕ) (z : Slot) → timer_right delay z ≡ true → same z.state Delayed ≡ false → z.timer ≡ 0
timer_none delay z t e = eqb-true z.timer 0 (rw e at t)

first-none : (association : ℕ) (z : Slot) → first_right association z ≡ true → same z.state Normal ≡ true → z.first_out ≡ 0
first-none association z t e = eqb-true z.first_out 0 (rw e at t)

-- the first-out of a valid slot lies inside the association word, so it has 16 bits
first-lt : (association : ℕ) (z : Slot) → association < 65536 → first_right association z ≡ true → z.first_out < 2 ^ 16
first-lt association z h t = go (same z.state Normal) t
  where
    go : (b : Bool) → cond b (eqb z.first_out 0) (eqb (bit_and z.first_out association) z.first_out) ≡ true → z.first_out < 2 ^ 16
    go true e = omega (arith, eqb-true z.first_out 0 e)
    go false e = omega (arith, eqb-true (bit_and z.first_out association) z.first_out e, and_le_r z.first_out association)

zeros_at : (n i : ℕ) → ◌≡◌ {A = ℕ} (get_or (replicate n 0) i 0) 0
zeros_at zero i = refl
zeros_at (suc n) zero = refl
zeros_at (suc n) (suc i) = zeros_at n i

-- a list that is filled with values of 16 bits, and 0 past the effects, has 16 bits throughout
padded_narrow : (n : ℕ) (f : ℕ → ℕ) → ((i : ℕ) → i < n → f i < 2 ^ 16) → Narrow (padded_by n f)
padded_narrow n f h i = go (ltb i n) refl
  where
    past : n ≤ i → get_or (padded_by n f) i 0 ≡ 0
    past l =
        let e : i ≡ length (tabulate f n) + (i - n) = omega (arith, length-tabulate f n) in
        ap (λ (k : ℕ). get_or (padded_by n f) k 0) e ∙ get_or-append-add (tabulate f n) (drop n (replicate 16 0)) (i - n) 0
        ∙ get_or-drop n (replicate 16 0) (i - n) 0 ∙ zeros_at 16 (n + (i - n))

    go : (b : Bool) → ltb i n ≡ b → get_or (padded_by n f) i 0 < 2 ^ 16
    go true e = let k = ltb-true i n e in omega (arith, padded_at n f i k, h i k)
    go false e = omega (arith, past (ltb-false i n e))

module _ (st : Settings) (x : State) (right : state_number st x ≡ 0) (long : length x.slots ≡ 16) where
  past : (i : ℕ) → st.count ≤ i → i < 16 → get_or x.slots i no_slot ≡ no_slot
  past i h k =
      unused (get_or x.slots i no_slot)
      (rw (zero-add, le-ltb i st.count h) at (all-at (slot_ok st) 0 x.slots no_slot (slots_right st x right) i (rw long k)))

  pub padded : Padded st.count x.slots
  padded = (
    long,
    ext_get_or no_slot _ _ (rw (length-drop, length-drop, length-replicate, long))
        (λ i k.
        let l : i < 16 - st.count = rw (length-drop, long) at k in
        get_or-drop st.count x.slots i no_slot ∙ past (st.count + i) (omega arith) (omega arith)
        ∙ sym (get_or-drop st.count (replicate 16 no_slot) i no_slot ∙ get_or-replicate 16 (st.count + i) no_slot no_slot (omega arith))),
  )

  -- the slot of each effect of a valid state is valid
  slot-right : settings_number st ≡ 0 → (i : ℕ) → i < st.count → slot_right (get_or st.effects i no_effect) (get_or x.slots i no_slot) ≡ true
  slot-right settings i k =
      rw (zero-add, lt-ltb i st.count k) at (all-at (slot_ok st) 0 x.slots no_slot (slots_right st x right) i (rw long (omega (arith, k, count_few st settings))))

  pub settled : settings_number st ≡ 0 → Settled st.count (table_of st.count x.slots)
  unfolding table_of planes_of
  settled settings =
      let n = st.count in
      let z : ℕ → Slot = λ i. get_or x.slots i no_slot in
      record {
        still = record {
          long = filled-long (λ i. (z i).timer) n (replicate 16 0);
          none = λ i k e. padded_at n (λ j. (z j).timer) i k
              ∙ timer_none (get_or st.effects i no_effect).delay (z i) (and_left (timer_right (get_or st.effects i no_effect).delay (z i)) _ (slot-right settings i k))
              (sym (bit_word_of (λ j. same (z j).state Delayed) n i k) ∙ e);
        };
        blank = record {
          long = filled-long (λ i. (z i).first_out) n (replicate 16 0);
          none = λ i k e. padded_at n (λ j. (z j).first_out) i k
              ∙ first-none (get_or st.effects i no_effect).association (z i) (and_right (timer_right (get_or st.effects i no_effect).delay (z i)) _ (slot-right settings i k))
              (sym (bit_word_of (λ j. same (z j).state Normal) n i k) ∙ e);
        };
        narrow = padded_narrow n (λ i. (z i).first_out)
            (λ i k. first-lt (get_or st.effects i no_effect).association (z i) (association_lt st settings i k)
            (and_right (timer_right (get_or st.effects i no_effect).delay (z i)) _ (slot-right settings i k)));
      }

  -- the words show the state's slots
  pub shows : settings_number st ≡ 0 → slots_of st.count (table_of st.count x.slots) ≡ x.slots
  shows settings = back st.count (count_few st settings) x.slots padded
