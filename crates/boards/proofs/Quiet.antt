-- Scans that are not live, by words, are those of the slots.
use mathlib.Core.Path.{◌≡◌, refl, ap, ap₂, sym, ◌∙◌}
use mathlib.Core.Bool.{Bool, true, false, not, cond, ◌||◌, or_assoc, or-false, not-not}
use mathlib.Core.List.{List, [], ◌∷◌, ◌++◌}
use Prim.Native.Nat.{ℕ, zero, suc, ◌+◌, ◌-◌, ◌*◌, ◌/◌, ◌^◌, min, ◌<◌, ◌≤◌}
use native.Mathlib.Nat.{le_of_suc-le-suc, not-suc-le-zero, le_trans, lt_of_lt_of_le, div-mul-le_self, le-div_iff_mul-le}
use native.Mathlib.Omega.{arith}
use lib.Dec.{leb, eqb}
use lib.Pow.{pow_pos}
use borrow.Author.Tests.{eq-eqb, ne_eqb, eqb-true, eqb-false, leb-true, leb-false}
use lib.ListN.{get_or, length}
use Rattle.bits.specs.Lists.{tabulate}
use Rattle.bits.specs.Words.{bit_of, word_of}
use Rattle.bits.proofs.Lists.{length-tabulate, get_or-tabulate}
use Rattle.bits.proofs.Words.{bit_word_of}
use Rattle.rules.specs.Limits.{most_hold, most_period}
use Rattle.rules.specs.declared.EffectState.TheVariants.{Delayed}
use Rattle.rules.specs.declared.Slot.{Slot}
use Rattle.rules.specs.declared.Seen.{Seen}
use Rattle.rules.specs.Signals.{Signals}
use Rattle.rules.specs.Rules.{no_slot, same, asks, next, moved}
use Rattle.effects.specs.Scan.{any_moved}
use Rattle.rounds.specs.Stroke.{quiet, advance, quiets, advances}
use Rattle.planes.specs.declared.Asked.{Asked}
use Rattle.planes.specs.declared.Planes.{Planes}
use Rattle.planes.specs.Planes.{planes_of, planes_after, changed_of, asked_of}
use Rattle.boards.specs.Table.{table_of, due_at, low_to, quiets_by, table_later, padded}
use Rattle.planes.proofs.ByWord.{changed_word, planes_of_ext}
use Rattle.boards.proofs.Low.{low_to_ext, uncapped}
use Rattle.boards.proofs.Step.{Sees, planes_step, table_path, padded_at, padded_ext, refilled}

-- ## Some effect below n

unfoldable pub any_to : (ℕ → Bool) → ℕ → Bool
any_to f zero = false
any_to f (suc n) = any_to f n || f n

pub none-set : (f : ℕ → Bool) (n : ℕ) → eqb (word_of f n) 0 ≡ not (any_to f n)
unfolding any_to word_of
none-set f zero = refl
none-set f (suc n) = go (any_to f n) (f n) (none-set f n)
  where
    go : (a b : Bool) → eqb (word_of f n) 0 ≡ not a → eqb (word_of f n + cond b (2 ^ n) 0) 0 ≡ not (a || b)
    go true b e = ne_eqb (word_of f n + cond b (2 ^ n) 0) 0 (λ z. eqb-false (word_of f n) 0 e (omega arith))
    go false true e = ne_eqb (word_of f n + 2 ^ n) 0 (λ z. absurd (omega (arith, pow_pos n)))
    go false false e = let h = eqb-true (word_of f n) 0 e in eq-eqb (word_of f n + 0) 0 (omega arith)

-- ## The recursions on lists, with one element more at the end

quiets_snoc : (m : ℕ) (ss : List Signals) (s : Signals) (xs : List Slot) → length ss < length xs
    → quiets m (ss ++ (s ∷ [])) xs ≡ quiet (quiets m ss xs) s (get_or xs (length ss) no_slot)
quiets_snoc m [] s [] h = absurd (not-suc-le-zero h)
quiets_snoc m [] s (x ∷ xs) h = refl
quiets_snoc m (r ∷ ss) s [] h = absurd (not-suc-le-zero h)
quiets_snoc m (r ∷ ss) s (x ∷ xs) h = quiets_snoc (quiet m r x) ss s xs (le_of_suc-le-suc h)

moved_snoc : (ss : List Signals) (s : Signals) (xs : List Slot) → length ss < length xs
    → any_moved (ss ++ (s ∷ [])) xs ≡ (any_moved ss xs || moved s (get_or xs (length ss) no_slot))
moved_snoc [] s [] h = absurd (not-suc-le-zero h)
moved_snoc [] s (x ∷ xs) h = or-false (moved s x)
moved_snoc (r ∷ ss) s [] h = absurd (not-suc-le-zero h)
moved_snoc (r ∷ ss) s (x ∷ xs) h =
    ap (λ (b : Bool). moved r x || b) (moved_snoc ss s xs (le_of_suc-le-suc h)) ∙ sym (or_assoc (moved r x) (any_moved ss xs) _)

advances_at : (k : ℕ) (ss : List Signals) (xs : List Slot) (i : ℕ) (d : Signals) → i < length ss → i < length xs
    → get_or (advances k ss xs) i no_slot ≡ advance k (get_or ss i d) (get_or xs i no_slot)
advances_at k [] xs i d h u = absurd (not-suc-le-zero h)
advances_at k (s ∷ ss) [] i d h u = absurd (not-suc-le-zero u)
advances_at k (s ∷ ss) (x ∷ xs) zero d h u = refl
advances_at k (s ∷ ss) (x ∷ xs) (suc i) d h u = advances_at k ss xs i d (le_of_suc-le-suc h) (le_of_suc-le-suc u)

-- the least quotient is the quotient of the least
min_div : (m a b p : ℕ) → 0 < p → min (min m ((a - 1) / p)) ((b - 1) / p) ≡ min m ((min a b - 1) / p)
min_div m a b p h = go (leb a b) refl
  where
    mono : (c d : ℕ) → c ≤ d → c / p ≤ d / p
    mono c d k = (le-div_iff_mul-le h).1 (le_trans (div-mul-le_self c p) k)

    go : (t : Bool) → leb a b ≡ t → min (min m ((a - 1) / p)) ((b - 1) / p) ≡ min m ((min a b - 1) / p)
    go true e =
        let k = leb-true a b e in
        let l : min a b ≡ a = omega arith in
        rw l (omega (arith, mono (a - 1) (b - 1) (omega arith)))
    go false e =
        let k = leb-false a b e in
        let l : min a b ≡ b = omega arith in
        rw l (omega (arith, mono (b - 1) (a - 1) (omega arith)))

-- one turn: a, some effect before it moved; b, this effect moves; d, it is in Delayed
turn : (m p l t : ℕ) → 0 < p → (a b d : Bool)
    → cond b 0 (cond d (min (cond a 0 (min m ((l - 1) / p))) ((t - 1) / p)) (cond a 0 (min m ((l - 1) / p))))
    ≡ cond (a || b) 0 (min m ((cond d (min l t) l - 1) / p))
turn m p l t h true true d = refl
turn m p l t h true false true = omega arith
turn m p l t h true false false = refl
turn m p l t h false true d = refl
turn m p l t h false false true = min_div m l t p h
turn m p l t h false false false = refl

-- the scans that are skipped are at most those left
pub quiets_by_le : (m n period : ℕ) (w : Asked) (p : Planes) (timers : List ℕ) → quiets_by m n period w p timers ≤ m
unfolding quiets_by
quiets_by_le m n period w p timers =
    least (eqb (changed_of p (planes_after w (word_of (due_at timers period) n) p)) 0) m
    ((low_to (bit_of p.delayed) (λ i. get_or timers i 0) n - 1) / period)
  where
    least : (c : Bool) (m l : ℕ) → cond c (min m l) 0 ≤ m
    least true m l = omega arith
    least false m l = omega arith

pub quiets_few : (q m n period : ℕ) (w : Asked) (p : Planes) (timers : List ℕ) → q ≡ quiets_by m n period w p timers → q ≤ m
quiets_few q m n period w p timers e = omega (arith, e, quiets_by_le m n period w p timers)

module _ (n : ℕ) (few : n ≤ 16) (s : ℕ → Signals) (xs : List Slot) (long : length xs ≡ 16) where
  abbrev x : ℕ → Slot
  x i = get_or xs i no_slot

  any_upto : (m : ℕ) → m ≤ 16 → any_moved (tabulate s m) xs ≡ any_to (λ i. moved (s i) (x i)) m
  unfolding tabulate any_to
  any_upto zero h = refl
  any_upto (suc m) h =
      moved_snoc (tabulate s m) (s m) xs (rw (length-tabulate, long) h)
      ∙ ap₂ (λ (a : Bool) (k : ℕ). a || moved (s m) (get_or xs k no_slot)) (any_upto m (omega arith)) (length-tabulate s m)

  -- the scan is live if and only if the word of the changed effects is not 0
  pub live_word : not (eqb (changed_of (planes_of n (λ i. (x i).state)) (planes_of n (λ i. (next (s i) (x i)).state))) 0) ≡ any_moved (tabulate s n) xs
  live_word = rw (changed_word n few, none-set) (not-not _ ∙ sym (any_upto n few))

  module _ (associations delays : List ℕ) (period : ℕ) (seen : Seen) (sees : Sees associations delays period seen s) where
    module _ (m : ℕ) (pos : 0 < period) (short : period ≤ most_period) (most : m ≤ most_hold) where
      abbrev before : ℕ → ℕ
      before j = cond (any_to (λ i. moved (s i) (x i)) j) 0 (min m ((low_to (λ i. same (x i).state Delayed) (λ i. (x i).timer) j - 1) / period))

      to : (j : ℕ) → j ≤ 16 → quiets m (tabulate s j) xs ≡ before j
      unfolding tabulate any_to low_to
      to zero h = sym (uncapped m period most pos short)
      to (suc j) h =
          quiets_snoc m (tabulate s j) (s j) xs (rw (length-tabulate, long) h)
          ∙ ap (λ (k : ℕ). quiet (quiets m (tabulate s j) xs) (s j) (get_or xs k no_slot)) (length-tabulate s j)
          ∙ ap (λ (q : ℕ). quiet q (s j) (x j)) (to j (omega arith))
          ∙ ap (λ (p : ℕ). cond (moved (s j) (x j)) 0 (cond (same (x j).state Delayed) (min (before j) (((x j).timer - 1) / p)) (before j))) (sees.time j)
          ∙ turn m period (low_to (λ i. same (x i).state Delayed) (λ i. (x i).timer) j) (x j).timer pos (any_to (λ i. moved (s i) (x i)) j) (moved (s j) (x j)) (same (x j).state Delayed)

      not_cond : (b : Bool) (k : ℕ) → cond (not b) k 0 ≡ cond b 0 k
      not_cond true k = refl
      not_cond false k = refl

      low_word : low_to (bit_of (word_of (λ i. same (x i).state Delayed) n)) (λ i. get_or (padded n (λ j. (x j).timer)) i 0) n
          ≡ low_to (λ i. same (x i).state Delayed) (λ i. (x i).timer) n
      low_word =
          low_to_ext _ _ _ _ n (λ i w. bit_word_of (λ j. same (x j).state Delayed) n i w) (λ i w. padded_at n (λ j. (x j).timer) i w)

      pub quiets_word : quiets_by m n period (asked_of n (λ i. asks (s i))) (table_of n xs).planes (table_of n xs).timers ≡ quiets m (tabulate s n) xs
      unfolding quiets_by table_of planes_of
      quiets_word =
          rw (planes_step n few associations delays period seen s sees xs long, changed_word n few, none-set, low_word)
          (not_cond (any_to (λ i. moved (s i) (x i)) n) _ ∙ sym (to n few))

    -- ## The slots after scans that are not live

    later : (k i : ℕ) → i < n → get_or (advances k (tabulate s n) xs) i no_slot ≡ advance k (s i) (x i)
    later k i w =
        advances_at k (tabulate s n) xs i (s 0) (rw length-tabulate w) (rw long (lt_of_lt_of_le w few))
        ∙ ap (λ (t : Signals). advance k t (x i)) (get_or-tabulate s n i (s 0) w)

    pub later_word : (k : ℕ) → table_later k n period (table_of n xs) ≡ table_of n (advances k (tabulate s n) xs)
    unfolding table_later table_of
    later_word k =
        table_path
        (planes_of_ext n _ _ (λ i w. sym (ap (λ (z : Slot). z.state) (later k i w))))
        (refilled n (λ j. (x j).timer) _ _ (λ i w.
        ap (λ (t : ℕ). t - k * period) (padded_at n (λ j. (x j).timer) i w) ∙ ap (λ (p : ℕ). (x i).timer - k * p) (sym (sees.time i))
        ∙ sym (ap (λ (z : Slot). z.timer) (later k i w))))
        (padded_ext n _ _ (λ i w. sym (ap (λ (z : Slot). z.first_out) (later k i w))))
