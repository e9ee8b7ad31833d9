-- The reason of an effect after the last scan of a hold: what is read of the row is the same in every scan, so the row, the state before that
-- scan and the slot after it tell the reason.
use mathlib.Core.Path.{◌≡◌, refl, ap, sym, ◌∙◌}
use Prim.Native.Nat.{ℕ, zero, suc, ◌*◌, ◌≤◌, ◌<◌}
use native.Mathlib.Omega.{arith}
use lib.ListN.{length, get_or}
use Rattle.bits.proofs.Lists.{length-tabulate, get_or-tabulate}
use Rattle.rules.specs.Signals.{Signals}
use Rattle.rules.specs.Rules.{no_slot, no_signals, next}
use Rattle.effects.specs.Records.{record_length}
use Rattle.effects.proofs.Laws.{step-at, length-steps}
use Rattle.settings.specs.declared.Settings.{Settings}
use Rattle.settings.specs.declared.Words.{Words}
use Rattle.settings.specs.Refusals.{granted}
use Rattle.settings.specs.Signals.{signals, signals_of}
use Rattle.block.specs.declared.State.{State}
use Rattle.block.specs.Answer.{Scanned}
use Rattle.block.specs.Scan.{after, events, scan_number, scan_of, granted_scan, refused_scan}
use Rattle.block.specs.Held.{later, words_at, Stepped, single, step, stepped}
use Rattle.block.proofs.Stepping.{later_again}
use Rattle.trace.specs.States.{state_at}
use Rattle.trace.proofs.Scans.{Accepts, accepted_single}
use Rattle.reasons.specs.Given.{signs_of}
use Rattle.reasons.specs.Reasons.{reason_by}
use Rattle.reasoned.specs.Reasoned.{reason_at, scan_reasons, hold_reasons}
use Rattle.reasoned.specs.Told.{reason_last}
use Rattle.reasoned.proofs.Told.{signs_later}

module _ (st : Settings) where
  -- ## The last single scan

  -- it comes after all others
  pub stepped_last : (n : ℕ) (w : Words) (r : Stepped) → stepped st w (suc n) r ≡ step st (words_at n w) (stepped st w n r)
  stepped_last zero w r = refl
  stepped_last (suc n) w r =
      stepped_last n (later w) (step st w r)
      ∙ ap (λ (v : Words). step st v (stepped st (later w) n (step st w r))) (later_again n w)

  -- and its reasons are those of the hold
  pub reasons_at_last : (n : ℕ) (w : Words) (r : Stepped) → hold_reasons st w n r.state ≡ scan_reasons st (words_at n w) (stepped st w n r).state
  reasons_at_last zero w r = refl
  reasons_at_last (suc n) w r =
      reasons_at_last n (later w) (step st w r)
      ∙ ap (λ (v : Words). scan_reasons st v (stepped st (later w) n (step st w r)).state) (later_again n w)

  -- what is read of the row is that of the row as given
  signs_at : (n : ℕ) (w : Words) (i : ℕ) → signs_of (signals_of st (words_at n w) i) ≡ signs_of (signals_of st w i)
  signs_at zero w i = refl
  signs_at (suc n) w i = signs_later st w i

  -- ## The slots

  -- a scan keeps their number
  slots_kept : (w : Words) (x : State) (k : ℕ) → length (granted k (granted_scan st w x) (refused_scan x)).state.slots ≡ length x.slots
  unfolding after
  slots_kept w x zero = length-steps (signals st w) x.slots
  slots_kept w x (suc k) = refl

  single_keeps : (w : Words) (x : State) → length (single st w x).state.slots ≡ length x.slots
  unfolding scan_of
  single_keeps w x = slots_kept w x (scan_number st w x (record_length * length (events st w x)))

  pub stepped_keeps : (n : ℕ) (w : Words) (r : Stepped) → length (stepped st w n r).state.slots ≡ length r.state.slots
  stepped_keeps zero w r = refl
  stepped_keeps (suc n) w r = stepped_keeps n (later w) (step st w r) ∙ single_keeps w r.state

  -- the slot of an effect after an accepted scan
  slot-after : (w : Words) (x : State) (i : ℕ) → (single st w x).number ≡ 0 → i < st.count → st.count ≤ length x.slots
      → get_or (single st w x).state.slots i no_slot ≡ next (signals_of st w i) (get_or x.slots i no_slot)
  unfolding after
  slot-after w x i ok h k =
      ap (λ (a : Scanned). get_or a.state.slots i no_slot) (accepted_single st w x ok)
      ∙ step-at (signals st w) x.slots i no_signals no_slot (omega (arith, h, length-tabulate (signals_of st w) st.count)) (omega (arith, h, k))
      ∙ ap (λ (s : Signals). next s (get_or x.slots i no_slot)) (get_or-tabulate (signals_of st w) st.count i no_signals h)

  -- ## The reason

  pub last-told : (n : ℕ) (w : Words) (r : Stepped) (i : ℕ) → Accepts st w (suc n) r → i < st.count → st.count ≤ length r.state.slots
      → reason_at st (words_at n w) (stepped st w n r).state i
      ≡ reason_last st w i (state_at i (stepped st w n r).state) (get_or (stepped st w (suc n) r).state.slots i no_slot)
  last-told n w r i ok h k =
      let x = (stepped st w n r).state in
      let y : get_or (stepped st w (suc n) r).state.slots i no_slot ≡ next (signals_of st (words_at n w) i) (get_or x.slots i no_slot) =
      ap (λ (t : Stepped). get_or t.state.slots i no_slot) (stepped_last n w r)
      ∙ slot-after (words_at n w) x i (ok n (omega arith)) h (omega (arith, k, stepped_keeps n w r))
      in
      (λ j. reason_by (signs_at n w i j) (state_at i x) (sym y j).state (sym y j).timer)
