-- One scan, effect by effect; many scans, by their last; and what makes a scan live or exercised.
use mathlib.Core.Path.{◌≡◌, refl, ap, ap₂, subst, sym, ◌∙◌}
use mathlib.Core.Bool.{Bool, true, false, not, ◌||◌}
use mathlib.Core.List.{List, [], ◌∷◌, ◌++◌, append-nil}
use Prim.Native.Nat.{ℕ, zero, suc, ◌+◌, ◌*◌, ◌^◌, ◌≤◌, ◌<◌}
use native.Mathlib.Nat.{add-zero}
use native.Mathlib.Omega.{arith}
use borrow.Author.Tests.{le-leb}
use lib.ListN.{length, get_or, drop}
use lib.Seq.{drop-length}
use Rattle.bits.specs.Words.{bit_of, one}
use Rattle.bits.proofs.Lists.{length-tabulate, get_or-tabulate}
use Rattle.bits.proofs.Words.{word_of_lt, bit_word_of}
use Rattle.rules.specs.Signals.{Signals}
use Rattle.rules.specs.declared.EffectState.{EffectState}
use Rattle.rules.specs.declared.Slot.{Slot}
use Rattle.rules.specs.Rules.{no_slot, no_signals, same, next, moved, is_latent, is_exercised}
use Rattle.rules.proofs.States.{same_eq, same_refl}
use Rattle.effects.specs.Records.{bytes}
use Rattle.effects.specs.Scan.{steps, any_moved, any_exercised, latent_word}
use Rattle.effects.proofs.Records.{bytes_append}
use Rattle.effects.proofs.Laws.{step-at, step_past}
use Rattle.settings.specs.declared.Known.{Known}
use Rattle.settings.specs.declared.Settings.{Settings}
use Rattle.settings.specs.declared.Words.{Words}
use Rattle.rules.specs.Limits.{most_hold, most_scans}
use Rattle.settings.specs.Right.{known_of, settings_number, words_number, row_number}
use Rattle.settings.specs.Signals.{signals, signals_of}
use Rattle.settings.proofs.Answers.{granted_in_room}
use Rattle.block.specs.declared.State.{State}
use Rattle.block.specs.Answer.{Scanned}
use Rattle.block.specs.State.{state_number}
use Rattle.block.specs.Scan.{input_number, at_front, once, after, events, scan_number, granted_scan, refused_scan, scan_of, scan_into}
use Rattle.block.specs.Held.{later, words_at, Stepped, single, step, stepped}
use Rattle.block.proofs.Theorems.{right_input_is_accepted}
use Rattle.block.proofs.Later.{once_right}
use Rattle.block.proofs.Stepping.{later_again, scan_accepted}
use Rattle.demands.specs.Demands.{slot, OneScanMore}

module _ (st : Settings) (w : Words) where
  abbrev ss : List Signals
  ss = signals st w

  count : length ss ≡ st.count
  count = length-tabulate (signals_of st w) st.count

  -- what is kept of effect i after the scan
  pub slot-after : (x : State) (i : ℕ) → i < st.count → i < length x.slots → get_or (after st w x).slots i no_slot ≡ next (signals_of st w i) (get_or x.slots i no_slot)
  unfolding after
  slot-after x i h k =
      step-at ss x.slots i no_signals no_slot (omega (arith, count)) k
      ∙ ap (λ (s : Signals). next s (get_or x.slots i no_slot)) (get_or-tabulate (signals_of st w) st.count i no_signals h)

  pub slot_past : (x : State) (i : ℕ) → st.count ≤ i → get_or (after st w x).slots i no_slot ≡ get_or x.slots i no_slot
  unfolding after
  slot_past x i h = step_past ss x.slots i no_slot (omega (arith, count))

  -- the bit of effect i in the latent word
  pub latent_bit : (i : ℕ) → i < st.count → bit_of (latent_word ss) i ≡ is_latent (signals_of st w i)
  latent_bit i h = bit_word_of (λ j. is_latent (get_or ss j no_signals)) (length ss) i (omega (arith, count)) ∙ ap is_latent (get_or-tabulate (signals_of st w) st.count i no_signals h)

  pub latent_inside : latent_word ss < 2 ^ st.count
  latent_inside = subst (λ (n : ℕ). latent_word ss < 2 ^ n) count (word_of_lt (λ j. is_latent (get_or ss j no_signals)) (length ss))

-- a scan of valid input, with room for its records, is granted
pub scan_granted : (st : Settings) (w : Words) (x : State) (out : List ℕ) → settings_number st ≡ 0 → state_number st x ≡ 0 → words_number (known_of st) w ≡ 0
    → x.scans_done + 1 ≤ most_scans → 12 * length (events st w x) ≤ length out
    → (scan_of st w x (length out) ≡ granted_scan st w x) × (scan_into st w x out ≡ at_front (events st w x) out)
unfolding scan_of scan_into scan_number
scan_granted st w x out right state words scans fits =
    let due = 12 * length (events st w x) in
    let none = right_input_is_accepted st (once w) x right state (once_right (known_of st) w words) scans in (
      sym (granted_in_room (input_number st x (once w)) due (length out) 0 (sym none) (granted_scan st w x) (refused_scan x) refl fits),
      sym (granted_in_room (input_number st x (once w)) due (length out) 0 (sym none) (at_front (events st w x) out) (λ n. out) refl fits),
    )

-- ## Many scans

-- valid words with a hold of 1 to 1,000,000 are a valid row
pub row_accepted : (k : Known) (w : Words) (hold : ℕ) → words_number k w ≡ 0 → 1 ≤ hold → hold ≤ most_hold → row_number k (record { hold = hold; words = w }) ≡ 0
unfolding row_number
row_accepted k w hold words some most = rw (le-leb 1 hold some, le-leb hold most_hold most, words)

-- one scan more is a scan of the state that those before it left
pub one_more : (st : Settings) (k : ℕ) (w : Words) (r : Stepped) → stepped st w (suc k) r ≡ step st (words_at k w) (stepped st w k r)
one_more st zero w r = refl
one_more st (suc k) w r = one_more st k (later w) (step st w r) ∙ ap (λ (v : Words). step st v (stepped st w (suc k) r)) (later_again k w)

-- ## What is live, and what is exercised

or-true : (a : Bool) → (a || true) ≡ true
or-true true = refl
or-true false = refl

-- an effect whose state differs has moved, and one whose state is the same has not
has_moved : (s : Signals) (x : Slot) → ((next s x).state ≡ x.state → ⊥) → moved s x ≡ true
has_moved s x h = go (same (next s x).state x.state) refl
  where
    go : (b : Bool) → same (next s x).state x.state ≡ b → not b ≡ true
    go true e = absurd (h (same_eq (next s x).state x.state e))
    go false e = refl

not_moved : (s : Signals) (x : Slot) → (next s x).state ≡ x.state → moved s x ≡ false
not_moved s x h = ap (λ (p : EffectState). not (same p x.state)) h ∙ ap not (same_refl x.state)

any-moved : (ss : List Signals) (xs : List Slot) (i : ℕ) → ((get_or (steps ss xs) i no_slot).state ≡ (get_or xs i no_slot).state → ⊥) → any_moved ss xs ≡ true
any-moved [] xs i h = absurd (h refl)
any-moved (s ∷ ss) [] i h = absurd (h refl)
any-moved (s ∷ ss) (x ∷ xs) zero h = ap (λ (b : Bool). b || any_moved ss xs) (has_moved s x h)
any-moved (s ∷ ss) (x ∷ xs) (suc i) h = ap (λ (b : Bool). moved s x || b) (any-moved ss xs i h) ∙ or-true (moved s x)

none_moved : (ss : List Signals) (xs : List Slot) → ((i : ℕ) → i < length ss → (get_or (steps ss xs) i no_slot).state ≡ (get_or xs i no_slot).state) → any_moved ss xs ≡ false
none_moved [] xs h = refl
none_moved (s ∷ ss) [] h = refl
none_moved (s ∷ ss) (x ∷ xs) h = ap₂ (λ (a b : Bool). a || b) (not_moved s x (h 0 (omega arith))) (none_moved ss xs (λ i l. h (suc i) (omega (arith, l))))

any-exercised : (ss : List Signals) (i : ℕ) → i < length ss → is_exercised (get_or ss i no_signals) ≡ true → any_exercised ss ≡ true
any-exercised [] i l h = absurd (omega (arith, l))
any-exercised (s ∷ ss) zero l h = ap (λ (b : Bool). b || any_exercised ss) h
any-exercised (s ∷ ss) (suc i) l h = ap (λ (b : Bool). is_exercised s || b) (any-exercised ss i (omega (arith, l)) h) ∙ or-true (is_exercised s)

none_exercised : (ss : List Signals) → ((i : ℕ) → i < length ss → is_exercised (get_or ss i no_signals) ≡ false) → any_exercised ss ≡ false
none_exercised [] h = refl
none_exercised (s ∷ ss) h = ap₂ (λ (a b : Bool). a || b) (h 0 (omega arith)) (none_exercised ss (λ i l. h (suc i) (omega (arith, l))))

module _ (st : Settings) (w : Words) where
  seen : (i : ℕ) → i < st.count → get_or (signals st w) i no_signals ≡ signals_of st w i
  seen i h = get_or-tabulate (signals_of st w) st.count i no_signals h

  pub exercised_yes : (i : ℕ) → i < st.count → is_exercised (signals_of st w i) ≡ true → any_exercised (signals st w) ≡ true
  exercised_yes i h some = any-exercised (signals st w) i (omega (arith, count st w, h)) (ap is_exercised (seen i h) ∙ some)

  pub exercised_no : ((i : ℕ) → i < st.count → is_exercised (signals_of st w i) ≡ false) → any_exercised (signals st w) ≡ false
  exercised_no none =
      none_exercised (signals st w) (λ i l. let h : i < st.count = omega (arith, count st w, l) in ap is_exercised (seen i h) ∙ none i h)

  live_yes : (x : State) (i : ℕ) → ((slot (after st w x) i).state ≡ (slot x i).state → ⊥) → any_moved (signals st w) x.slots ≡ true
  unfolding after
  live_yes x i h = any-moved (signals st w) x.slots i h

  live_no : (x : State) → ((i : ℕ) → i < st.count → (slot (after st w x) i).state ≡ (slot x i).state) → any_moved (signals st w) x.slots ≡ false
  unfolding after
  live_no x h = none_moved (signals st w) x.slots (λ i l. h i (omega (arith, count st w, l)))

  -- ## A single scan of valid input

  pub scan_more : (y : Stepped) → settings_number st ≡ 0 → state_number st y.state ≡ 0 → words_number (known_of st) w ≡ 0 → y.state.scans_done + 1 ≤ most_scans
      → OneScanMore st w y (single st w y.state) (step st w y)
  scan_more y right state words scans =
      let x = y.state in
      let es = events st w x in
      let e : single st w x ≡ granted_scan st w x = scan_accepted st right w x (12 * length es) words state scans (omega arith) in
      let was : (single st w x).state ≡ after st w x = ap (λ (a : Scanned). a.state) e in
      record {
        accepted = ap (λ (a : Scanned). a.number) e;
        state = refl;
        words = (refl, refl);
        records = λ out l.
            let long : length out ≡ 12 * length es = l ∙ ap (λ (a : Scanned). 12 * a.records) e in
            let none : drop (12 * length es) out ≡ [] = rw (← long) (drop-length out) in
            bytes_append y.events es
            ∙ ap (λ (l : List ℕ). bytes y.events ++ l)
            (sym ((scan_granted st w x out right state words scans (omega (arith, long))).1 ∙ ap (λ (l : List ℕ). bytes es ++ l) none ∙ append-nil (bytes es)));
        live = λ i h other. ap (λ (b : Bool). y.live + one b) (live_yes x i (λ q. other (ap (λ (z : State). (slot z i).state) was ∙ q)));
        not_live = λ h.
            ap (λ (b : Bool). y.live + one b) (live_no x (λ i l. ap (λ (z : State). (slot z i).state) (sym was) ∙ h i l)) ∙ add-zero y.live;
      }
