-- A fresh state is valid, and a scan of a valid state gives a valid state, so refusal number 8 never occurs in a replay. What the rules
-- do is computed for every answer to what they ask; timers and first-outs are arithmetic beside it.
use mathlib.Core.Path.{◌≡◌, refl}
use mathlib.Core.Bool.{Bool, true, false, cond, not, ◌&&◌, ◌||◌, false≢true}
use mathlib.Core.List.{List}
use Prim.Native.Nat.{ℕ, ◌-◌, ◌≤◌, ◌<◌}
use native.Mathlib.Nat.{zero-add}
use native.Mathlib.Omega.{arith}
use borrow.Author.Tests.{leb-true, leb-false, ltb-true, ltb-false, le-leb, eq-eqb, lt-ltb, not-true}
use lib.Bits.{bit_and, bit_or}
use lib.Dec.{leb, ltb, eqb}
use lib.ListN.{length, get_or}
use Rattle.bits.specs.Lists.{all_from}
use Rattle.bits.proofs.Lists.{and_left, and_right, both as both_true, all-at, all_pass, all_replicate, length-tabulate, get_or-tabulate}
use Rattle.bits.proofs.Words.{and-or, and_inside}
use Rattle.rules.specs.declared.EffectState.{EffectState}
use Rattle.rules.specs.declared.EffectState.TheVariants.{Normal, Delayed}
use Rattle.rules.specs.Signals.{Signals, Asks}
use Rattle.rules.specs.declared.Slot.{Slot}
use Rattle.rules.specs.Rules.{same, rule, asks, after as state_after, next, first_out_word, no_slot, no_signals}
use Rattle.rules.proofs.Answers.{both, all_states, every, every-at}
use Rattle.effects.specs.Scan.{steps}
use Rattle.effects.proofs.Laws.{step-at, step_past, length-steps}
use Rattle.settings.specs.declared.Settings.{Settings}
use Rattle.settings.specs.declared.Words.{Words}
use Rattle.rules.specs.Limits.{most_scans}
use Rattle.settings.specs.Right.{settings_number}
use Rattle.settings.specs.Causes.{seen_of}
use Rattle.settings.specs.Signals.{signals, signals_of, no_effect}
use Rattle.settings.proofs.Refusals.{unless_none}
use Rattle.block.specs.declared.State.{State}
use Rattle.slots.specs.Slots.{timer_right, first_right, slot_right, slot_unused, slot_ok}
use Rattle.block.specs.State.{state_ok, state_number, fresh}
use Rattle.block.specs.Scan.{after}

-- ## One effect

-- an effect that is Delayed after a scan was Delayed with a timer that is not due, or has a delay
delayed_test : Asks → Bool → EffectState → Bool
delayed_test a due p = not (same (rule a due p) Delayed) || cond (same p Delayed) (not due) a.delayed

delayed_all : every delayed_test ≡ true
unfolding both all_states every delayed_test
delayed_all = refl

from-test : (b c : Bool) → (not b || c) ≡ true → b ≡ true → c ≡ true
from-test true c e f = e
from-test false c e f = absurd (false≢true f)

module _ (s : Signals) (x : Slot) where
  delayed_from : same (state_after s x) Delayed ≡ true → cond (same x.state Delayed) (not (leb x.timer s.period)) (ltb 0 s.delay) ≡ true
  unfolding delayed_test
  delayed_from = from-test _ _ (every-at delayed_test delayed_all (asks s) (leb x.timer s.period) x.state)

  -- a scan keeps a timer in its range
  pub timer_keeps : timer_right s.delay x ≡ true → timer_right s.delay (next s x) ≡ true
  timer_keeps r = go (same (state_after s x) Delayed) (same x.state Delayed) r delayed_from
    where
      go : (b c : Bool) → cond c (leb 1 x.timer && leb x.timer s.delay) (eqb x.timer 0) ≡ true
          → (b ≡ true → cond c (not (leb x.timer s.period)) (ltb 0 s.delay) ≡ true)
          → cond b (leb 1 (cond b (cond c (x.timer - s.period) s.delay) 0) && leb (cond b (cond c (x.timer - s.period) s.delay) 0) s.delay) (eqb (cond b (cond c (x.timer - s.period) s.delay) 0) 0) ≡ true
      go false c r h = refl
      go true true r h =
          let over = leb-false x.timer s.period (not-true _ (h refl)) in
          let most = leb-true x.timer s.delay (and_right (leb 1 x.timer) _ r) in
          both_true (leb 1 (x.timer - s.period)) (leb (x.timer - s.period) s.delay) (le-leb 1 (x.timer - s.period) (omega arith)) (le-leb (x.timer - s.period) s.delay (omega arith))
      go true false r h =
          let some = ltb-true 0 s.delay (h refl) in
          both_true (leb 1 s.delay) (leb s.delay s.delay) (le-leb 1 s.delay (omega arith)) (le-leb s.delay s.delay (omega arith))

  -- a scan keeps a first-out inside the association word
  pub first_keeps : (association : ℕ) → bit_and (first_out_word s) association ≡ first_out_word s → first_right association x ≡ true → first_right association (next s x) ≡ true
  first_keeps a inside r = go (same (state_after s x) Normal) (same x.state Normal) r
    where
      go : (b c : Bool) → cond c (eqb x.first_out 0) (eqb (bit_and x.first_out a) x.first_out) ≡ true
          → cond b (eqb (cond b 0 (cond c (first_out_word s) x.first_out)) 0) (eqb (bit_and (cond b 0 (cond c (first_out_word s) x.first_out)) a) (cond b 0 (cond c (first_out_word s) x.first_out))) ≡ true
      go true c r = refl
      go false true r = eq-eqb _ _ inside
      go false false r = r

-- ## All slots

-- what an effect sees agrees with its settings
module _ (st : Settings) (w : Words) (i : ℕ) where
  -- the word that a first-out takes lies inside the association word
  first_inside : bit_and (first_out_word (signals_of st w i)) (get_or st.effects i no_effect).association ≡ first_out_word (signals_of st w i)
  unfolding signals_of
  first_inside =
      let seen = seen_of st.options w in
      let a = (get_or st.effects i no_effect).association in
      rw (← and-or a seen.tripped seen.bad) (and_inside a (bit_or seen.tripped seen.bad))

  pub slot_keeps : (x : Slot) → slot_right (get_or st.effects i no_effect) x ≡ true → slot_right (get_or st.effects i no_effect) (next (signals_of st w i) x) ≡ true
  unfolding signals_of
  slot_keeps x r =
      both_true _ _ (timer_keeps (signals_of st w i) x (and_left _ _ r)) (first_keeps (signals_of st w i) x _ first_inside (and_right (timer_right (get_or st.effects i no_effect).delay x) _ r))

-- the parts of a valid state
module _ (st : Settings) (x : State) (right : state_number st x ≡ 0) where
  state-ok : state_ok st x ≡ true
  unfolding state_number
  state-ok = unless_none _ 7 right

  pub slots_right : all_from (slot_ok st) 0 x.slots ≡ true
  slots_right = and_right (leb x.scans_done most_scans) _ state-ok

-- a valid state has done no more scans than can be counted
pub right_state_few : (st : Settings) (x : State) → state_number st x ≡ 0 → x.scans_done ≤ most_scans
unfolding state_number
right_state_few st x e = leb-true x.scans_done most_scans (and_left _ _ (unless_none (state_ok st x) 7 e))

pub right_state : (st : Settings) (x : State) → x.scans_done ≤ most_scans → all_from (slot_ok st) 0 x.slots ≡ true → state_number st x ≡ 0
unfolding state_number
right_state st x h a = rw (le-leb x.scans_done most_scans h, a)

module _ (st : Settings) (w : Words) (right : settings_number st ≡ 0) (xs : List Slot) (rights : all_from (slot_ok st) 0 xs ≡ true) where
  slot_at : (i : ℕ) → i < length xs → slot_ok st i (get_or xs i no_slot) ≡ true
  slot_at i k = rw zero-add at (all-at (slot_ok st) 0 xs no_slot rights i k)

  below : (i : ℕ) → i < length xs → i < st.count → slot_ok st i (get_or (steps (signals st w) xs) i no_slot) ≡ true
  below i k h =
      rw (step-at (signals st w) xs i no_signals no_slot (rw length-tabulate h) k, get_or-tabulate (signals_of st w) st.count i no_signals h, lt-ltb i st.count h)
      (slot_keeps st w i (get_or xs i no_slot) (rw (lt-ltb i st.count h) at (slot_at i k)))

  past : (i : ℕ) → i < length xs → st.count ≤ i → slot_ok st i (get_or (steps (signals st w) xs) i no_slot) ≡ true
  past i k h = rw (step_past (signals st w) xs i no_slot (rw length-tabulate h)) (slot_at i k)

  pub steps_right : all_from (slot_ok st) 0 (steps (signals st w) xs) ≡ true
  steps_right =
      all_pass (slot_ok st) 0 (steps (signals st w) xs) no_slot
      (λ i k. let k' : i < length xs = rw length-steps at k in rw zero-add (either i k' (ltb i st.count) refl))
    where
      either : (i : ℕ) → i < length xs → (b : Bool) → ltb i st.count ≡ b → slot_ok st i (get_or (steps (signals st w) xs) i no_slot) ≡ true
      either i k true e = below i k (ltb-true i st.count e)
      either i k false e = past i k (ltb-false i st.count e)

-- ## The two theorems

unused_right : (st : Settings) (i : ℕ) → slot_ok st i no_slot ≡ true
unused_right st i = go (ltb i st.count)
  where
    go : (b : Bool) → cond b (slot_right (get_or st.effects i no_effect) no_slot) (slot_unused no_slot) ≡ true
    go true = refl
    go false = refl

-- a fresh state is valid, whatever the settings
pub fresh_right : (st : Settings) → state_number st fresh ≡ 0
fresh_right st = right_state st fresh (omega arith) (all_replicate (slot_ok st) 0 16 no_slot (unused_right st))

-- a scan of a valid state gives a valid state
pub scan_keeps_right : (st : Settings) (w : Words) (x : State) → settings_number st ≡ 0 → state_number st x ≡ 0 → x.scans_done < most_scans
    → state_number st (after st w x) ≡ 0
unfolding after
scan_keeps_right st w x right ok h =
    right_state st (after st w x) (omega arith) (steps_right st w right x.slots (slots_right st x ok))
