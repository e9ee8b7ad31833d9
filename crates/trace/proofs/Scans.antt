-- The events of scans are the changes of each effect's states: of one scan, of a hold.
use mathlib.Core.Path.{◌≡◌, refl, ap, ap₂, sym, ◌∙◌}
use mathlib.Core.Bool.{Bool, true, false, cond}
use mathlib.Core.List.{List, [], ◌∷◌, ◌++◌, append_assoc, append-nil}
use Prim.Native.Nat.{ℕ, zero, suc, ◌+◌, ◌*◌, ◌<◌}
use native.Mathlib.Nat.{not-suc-le-zero}
use native.Mathlib.Omega.{arith}
use borrow.Author.Tests.{eq-eqb, ne_eqb}
use lib.ListN.{length, get_or}
use Rattle.rules.specs.Signals.{Signals}
use Rattle.rules.specs.declared.Slot.{Slot}
use Rattle.rules.specs.declared.EffectState.{EffectState}
use Rattle.rules.specs.Rules.{moved, no_slot}
use Rattle.effects.specs.declared.Event.{Event}
use Rattle.effects.specs.Scan.{steps, events_from, only, event, wrapped}
use Rattle.settings.specs.declared.Settings.{Settings}
use Rattle.settings.specs.declared.Words.{Words}
use Rattle.settings.specs.Signals.{signals}
use Rattle.settings.specs.Refusals.{granted}
use Rattle.block.specs.declared.State.{State}
use Rattle.block.specs.Answer.{Scanned}
use Rattle.block.specs.Scan.{after, events, scan_number, scan_of, granted_scan, refused_scan}
use Rattle.block.specs.Held.{later, words_at, Stepped, single, step, stepped}
use Rattle.trace.specs.Effect.{Change, only_if, change_of, own, change, changes, last_of}
use Rattle.trace.specs.States.{state_at, states_at, states_of}
use Rattle.trace.proofs.Changes.{own-append, no_change}

-- ## One scan

-- an event of one effect is none of another's
not_own : (i : ℕ) (b : Bool) (e : Event) → (e.effect ≡ i → ⊥) → own i (only b e) ≡ []
not_own i true e h = rw (ne_eqb e.effect i h)
not_own i false e h = refl

is-own : (i : ℕ) (b : Bool) (e : Event) → e.effect ≡ i → own i (only b e) ≡ only_if b (change_of e)
is-own i true e h = rw (eq-eqb e.effect i h)
is-own i false e h = refl

-- the events of the effects from j on have none of an effect before them
none_before : (q c j i : ℕ) (ss : List Signals) (xs : List Slot) → i < j → own i (events_from q c j ss xs) ≡ []
none_before q c j i [] xs h = refl
none_before q c j i (s ∷ ss) [] h = refl
none_before q c j i (s ∷ ss) (x ∷ xs) h =
    own-append i (only (moved s x) (event q c j s x)) (events_from (cond (moved s x) (wrapped q) q) c (suc j) ss xs)
    ∙ ap₂ (λ (a b : List Change). a ++ b) (not_own i (moved s x) (event q c j s x) (λ e. omega (arith, e))) (none_before (cond (moved s x) (wrapped q) q) c (suc j) i ss xs (omega arith))

abbrev state_in : ℕ → List Slot → EffectState
state_in i xs = (get_or xs i no_slot).state

-- an effect's event is its change
pub one_scan : (q c j i : ℕ) (ss : List Signals) (xs : List Slot)
    → own (j + i) (events_from q c j ss xs) ≡ change c (state_in i xs) (state_in i (steps ss xs))
one_scan q c j i [] xs = sym (no_change c (state_in i xs))
one_scan q c j i (s ∷ ss) [] = sym (no_change c (state_in i []))
one_scan q c j zero (s ∷ ss) (x ∷ xs) =
    own-append (j + 0) (only (moved s x) (event q c j s x)) (events_from (cond (moved s x) (wrapped q) q) c (suc j) ss xs)
    ∙ ap₂ (λ (a b : List Change). a ++ b) (is-own (j + 0) (moved s x) (event q c j s x) (omega arith)) (none_before (cond (moved s x) (wrapped q) q) c (suc j) (j + 0) ss xs (omega arith))
    ∙ append-nil _
one_scan q c j (suc i) (s ∷ ss) (x ∷ xs) =
    let n : j + suc i ≡ suc j + i = omega arith in
    own-append (j + suc i) (only (moved s x) (event q c j s x)) (events_from (cond (moved s x) (wrapped q) q) c (suc j) ss xs)
    ∙ ap₂ (λ (a b : List Change). a ++ b) (not_own (j + suc i) (moved s x) (event q c j s x) (λ e. omega (arith, e)))
    (ap (λ (k : ℕ). own k (events_from (cond (moved s x) (wrapped q) q) c (suc j) ss xs)) n ∙ one_scan (cond (moved s x) (wrapped q) q) c (suc j) i ss xs)

-- ## A hold

-- each of n single scans of a row, lent the room for its records, is accepted
abbrev pub Accepts : Settings → Words → ℕ → Stepped → Type 0
Accepts st w n r = (k : ℕ) → k < n → (single st (words_at k w) (stepped st w k r).state).number ≡ 0

-- what is not refused is granted
granted_zero : (a : Scanned) (x : State) (k : ℕ) → (granted k a (refused_scan x)).number ≡ 0 → granted k a (refused_scan x) ≡ a
granted_zero a x zero e = refl
granted_zero a x (suc k) e = absurd (omega (arith, e))

module _ (st : Settings) where
  pub accepted_single : (w : Words) (x : State) → (single st w x).number ≡ 0 → single st w x ≡ granted_scan st w x
  unfolding scan_of
  accepted_single w x = granted_zero (granted_scan st w x) x (scan_number st w x (12 * length (events st w x)))

  later_again : (k : ℕ) (w : Words) → words_at k (later w) ≡ later w
  later_again zero w = refl
  later_again (suc k) w = refl

  module _ (n : ℕ) (w : Words) (r : Stepped) (ok : Accepts st w (suc n) r) where
    -- the first of them gives the state after its scan, and the others follow
    first_state : (single st w r.state).state ≡ after st w r.state
    first_state = ap (λ (a : Scanned). a.state) (accepted_single w r.state (ok 0 (omega arith)))

    first_done : (single st w r.state).state.scans_done ≡ r.state.scans_done + 1
    unfolding after
    first_done = ap (λ (y : State). y.scans_done) first_state

    then_later : Accepts st (later w) n (step st w r)
    then_later k h = rw (later_again k w) (ok (suc k) (omega arith))

  -- the events of each effect are the changes of its states
  pub held_changes : (i n : ℕ) (w : Words) (r : Stepped) → Accepts st w n r
      → own (1 + i) (stepped st w n r).events ≡ own (1 + i) r.events ++ changes r.state.scans_done (state_at i r.state) (states_at i (states_of st w n r.state))
  unfolding events after
  held_changes i zero w r ok = sym (append-nil _)
  held_changes i (suc n) w r ok =
      let x = r.state in
      let y = (single st w x).state in
      let before = own (1 + i) r.events in
      let rest = states_at i (states_of st (later w) n y) in
      held_changes i n (later w) (step st w r) (then_later n w r ok)
      ∙ ap₂ (λ (a b : List Change). a ++ b)
      (own-append (1 + i) r.events (events st w x)
      ∙ ap (λ (l : List Change). before ++ l)
      (one_scan x.next (x.scans_done + 1) 1 i (signals st w) x.slots
      ∙ ap (λ (z : State). change (x.scans_done + 1) (state_at i x) (state_at i z)) (sym (first_state n w r ok))))
      (ap (λ (c : ℕ). changes c (state_at i y) rest) (first_done n w r ok))
      ∙ append_assoc before (change (x.scans_done + 1) (state_at i x) (state_at i y)) (changes (x.scans_done + 1) (state_at i y) rest)

  -- ## The states of a hold

  -- there is one for each scan
  pub length-states : (n : ℕ) (w : Words) (x : State) → length (states_of st w n x) ≡ n
  length-states zero w x = refl
  length-states (suc n) w x = ap suc (length-states n (later w) (single st w x).state)

  -- and it is where the scans so far have come to
  pub states_are : (n k : ℕ) (w : Words) (r : Stepped) (d : State) → k < n → get_or (states_of st w n r.state) k d ≡ (stepped st w (suc k) r).state
  states_are zero k w r d h = absurd (not-suc-le-zero h)
  states_are (suc n) zero w r d h = refl
  states_are (suc n) (suc k) w r d h = states_are n k (later w) (step st w r) d (omega arith)

  -- the last is where the run ends
  pub last_state : (i n : ℕ) (w : Words) (r : Stepped) → last_of (state_at i r.state) (states_at i (states_of st w n r.state)) ≡ state_at i (stepped st w n r).state
  last_state i zero w r = refl
  last_state i (suc n) w r = last_state i n (later w) (step st w r)

  -- the scans done
  pub done_after : (n : ℕ) (w : Words) (r : Stepped) → Accepts st w n r → (stepped st w n r).state.scans_done ≡ r.state.scans_done + n
  done_after zero w r ok = omega arith
  done_after (suc n) w r ok = omega (arith, done_after n (later w) (step st w r) (then_later n w r ok), first_done n w r ok)
