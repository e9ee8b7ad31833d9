-- Each event of a hold has the reason that the row as given tells of the record's two states: forces, Bad and active are the row's in every
-- scan, and where a state changes the timer is not read.
use mathlib.Core.Path.{◌≡◌, refl, ap, ap₂, sym, ◌∙◌}
use mathlib.Core.Bool.{Bool, true, false, cond}
use mathlib.Core.List.{List, [], ◌∷◌, ◌++◌, map, append_assoc, append-nil}
use Prim.Native.Nat.{ℕ, zero, suc, ◌+◌, ◌<◌}
use native.Mathlib.Nat.{add-zero}
use native.Mathlib.Omega.{arith}
use lib.ListN.{length, get_or}
use Rattle.bits.proofs.Lists.{length-tabulate, get_or-tabulate}
use Rattle.rules.specs.Signals.{Signals}
use Rattle.rules.specs.declared.Slot.{Slot}
use Rattle.rules.specs.Rules.{moved, after, no_signals}
use Rattle.effects.specs.Scan.{events_from, only, event, wrapped}
use Rattle.settings.specs.declared.Settings.{Settings}
use Rattle.settings.specs.declared.Words.{Words}
use Rattle.settings.specs.Signals.{signals, signals_of}
use Rattle.block.specs.declared.State.{State}
use Rattle.block.specs.Scan.{events}
use Rattle.block.specs.Held.{later, Stepped, single, step, stepped}
use Rattle.trace.proofs.Changes.{map-append}
use Rattle.reasons.specs.declared.Reason.{Reason}
use Rattle.reasons.specs.declared.Signs.{Signs}
use Rattle.reasons.specs.Given.{signs_of}
use Rattle.reasons.specs.Reasons.{reason_by, reason_of}
use Rattle.reasons.proofs.Changed.{change_reads_no_timer}
use Rattle.reasoned.specs.Reasoned.{Reasoned, only_if, reasoned_from, reasoned_scan, reasoned_hold}
use Rattle.reasoned.specs.Told.{with_reason}

-- ## One scan

-- the event of one effect, if its state changes
one_told : (signs : ℕ → Signs) (q c j : ℕ) (s : Signals) (x : Slot) → signs j ≡ signs_of s
    → only_if (moved s x) (record { event = event q c j s x; reason = reason_of s x }) ≡ map (with_reason signs) (only (moved s x) (event q c j s x))
one_told signs q c j s x e = go (moved s x) refl
  where
    go : (b : Bool) → moved s x ≡ b
        → only_if b (record { event = event q c j s x; reason = reason_of s x }) ≡ map (with_reason signs) (only b (event q c j s x))
    go true h =
        ap (λ (r : Reason). record { event = event q c j s x; reason = r } ∷ [])
        (change_reads_no_timer (signs_of s) x.state (after s x) _ h ∙ ap (λ (v : Signs). reason_by v x.state (after s x) 0) (sym e))
    go false h = refl

-- of the effects from number j on
from_told : (signs : ℕ → Signs) (q c j : ℕ) (ss : List Signals) (xs : List Slot) → ((k : ℕ) → k < length ss → signs (j + k) ≡ signs_of (get_or ss k no_signals))
    → reasoned_from q c j ss xs ≡ map (with_reason signs) (events_from q c j ss xs)
from_told signs q c j [] xs e = refl
from_told signs q c j (s ∷ ss) [] e = refl
from_told signs q c j (s ∷ ss) (x ∷ xs) e =
    let rest = cond (moved s x) (wrapped q) q in
    ap₂ (λ (a b : List Reasoned). a ++ b)
    (one_told signs q c j s x (ap signs (sym (add-zero j)) ∙ e 0 (omega arith)))
    (from_told signs rest c (suc j) ss xs (λ k h. let n : suc j + k ≡ j + suc k = omega arith in ap signs n ∙ e (suc k) (omega (arith, h))))
    ∙ sym (map-append (with_reason signs) (only (moved s x) (event q c j s x)) (events_from rest c (suc j) ss xs))

module _ (st : Settings) where
  -- what is read of the row is the same in the scans after the first
  pub signs_later : (w : Words) (i : ℕ) → signs_of (signals_of st (later w) i) ≡ signs_of (signals_of st w i)
  unfolding signals_of
  signs_later w i = refl

  scan_told : (signs : ℕ → Signs) (w : Words) (x : State) → ((i : ℕ) → signs (1 + i) ≡ signs_of (signals_of st w i))
      → reasoned_scan st w x ≡ map (with_reason signs) (events st w x)
  unfolding reasoned_scan events
  scan_told signs w x e =
      from_told signs x.next (x.scans_done + 1) 1 (signals st w) x.slots
      (λ k h. e k ∙ ap signs_of (sym (get_or-tabulate (signals_of st w) st.count k no_signals (omega (arith, h, length-tabulate (signals_of st w) st.count)))))

  -- ## A hold

  pub hold_told : (signs : ℕ → Signs) (n : ℕ) (w : Words) (r : Stepped) → ((i : ℕ) → signs (1 + i) ≡ signs_of (signals_of st w i))
      → map (with_reason signs) (stepped st w n r).events ≡ map (with_reason signs) r.events ++ reasoned_hold st w n r.state
  hold_told signs zero w r e = sym (append-nil _)
  hold_told signs (suc n) w r e =
      let x = r.state in
      let before = map (with_reason signs) r.events in
      let rest = reasoned_hold st (later w) n (single st w x).state in
      hold_told signs n (later w) (step st w r) (λ i. e i ∙ sym (signs_later w i))
      ∙ ap (λ (l : List Reasoned). l ++ rest)
      (map-append (with_reason signs) r.events (events st w x) ∙ ap (λ (l : List Reasoned). before ++ l) (sym (scan_told signs w x e)))
      ∙ append_assoc before (reasoned_scan st w x) rest
