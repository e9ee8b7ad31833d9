-- The parts of the array: how long they are, and what a store of a list at the start of one leaves of each.
use mathlib.Core.Path.{◌≡◌, refl, ap, sym, ◌∙◌}
use mathlib.Core.List.{List, [], ◌∷◌, ◌++◌, append_assoc}
use Prim.Native.Nat.{ℕ, zero, suc, ◌+◌, ◌-◌, ◌≤◌}
use native.Mathlib.Nat.{le_of_suc-le-suc, not-suc-le-zero}
use native.Mathlib.Omega.{arith}
use lib.ListN.{take, drop, set, length, length-drop}
use lib.Seq.{sets, sets-eq, length-sets, length-take-le, drop_at, drop-drop, drop-set-lt, drop-set-add, take-set-le}
use Rattle.bits.specs.Lists.{tabulate}
use Rattle.bits.proofs.Lists.{length-tabulate}
use Rattle.cells.specs.Array.{part, part_length, array_length, associations_at, delays_at, timers_at, firsts_at, timers_in, firsts_in, Same}

pub length_part : (o : ℕ) (xs : List ℕ) → o + part_length ≤ length xs → length (part o xs) ≡ part_length
unfolding part
length_part o xs h = length-take-le part_length (drop o xs) (omega (arith, length-drop o xs))

-- ## The part itself

-- the first n entries after a list has replaced the first ones
front : (l xs : List ℕ) (n : ℕ) → length l ≤ n → n ≤ length xs → take n (l ++ drop (length l) xs) ≡ l ++ drop (length l) (take n xs)
front [] xs n h g = refl
front (v ∷ l) xs zero h g = absurd (not-suc-le-zero h)
front (v ∷ l) [] (suc n) h g = absurd (not-suc-le-zero g)
front (v ∷ l) (x ∷ xs) (suc n) h g = ap (λ (r : List ℕ). v ∷ r) (front l xs n (le_of_suc-le-suc h) (le_of_suc-le-suc g))

part_put : (o : ℕ) (xs l : List ℕ) → o + part_length ≤ length xs → length l ≤ part_length → part o (sets xs o l) ≡ l ++ drop (length l) (part o xs)
unfolding part
part_put o xs l h few =
    ap (λ (r : List ℕ). take part_length (drop o r)) (sets-eq l xs o (omega arith))
    ∙ ap (λ (r : List ℕ). take part_length (drop o r)) (append_assoc (take o xs) l (drop (o + length l) xs))
    ∙ ap (take part_length) (drop_at (take o xs) (l ++ drop (o + length l) xs) o (length-take-le o xs (omega arith)))
    ∙ ap (λ (r : List ℕ). take part_length (l ++ r)) (sym (drop-drop (length l) o xs))
    ∙ front l (drop o xs) part_length few (omega (arith, length-drop o xs))

-- the part after its first n entries are filled
pub part_filled : (o : ℕ) (f : ℕ → ℕ) (n : ℕ) (xs : List ℕ) → o + part_length ≤ length xs → n ≤ part_length
    → part o (sets xs o (tabulate f n)) ≡ tabulate f n ++ drop n (part o xs)
part_filled o f n xs h few =
    part_put o xs (tabulate f n) h (omega (arith, length-tabulate f n))
    ∙ ap (λ (m : ℕ). tabulate f n ++ drop m (part o xs)) (length-tabulate f n)

-- ## The other parts

-- a store leaves the parts before it
pub part_before : (p o : ℕ) (xs l : List ℕ) → p + part_length ≤ o → part p (sets xs o l) ≡ part p xs
unfolding part
part_before p o xs [] h = refl
part_before p o xs (v ∷ l) h =
    let e : p + (o - p) ≡ o = omega arith in
    part_before p (suc o) (set xs o v) l (omega arith)
    ∙ ap (λ (m : ℕ). take part_length (drop p (set xs m v))) (sym e)
    ∙ ap (take part_length) (drop-set-add p xs (o - p) v)
    ∙ take-set-le part_length (drop p xs) (o - p) v (omega arith)

-- a store leaves the parts after it
pub part_after : (p o : ℕ) (xs l : List ℕ) → o + length l ≤ p → part p (sets xs o l) ≡ part p xs
unfolding part
part_after p o xs [] h = refl
part_after p o xs (v ∷ l) h = part_after p (suc o) (set xs o v) l (omega arith) ∙ ap (take part_length) (drop-set-lt p xs o v (omega arith))

-- a store of timers or first-outs leaves what the settings gave
pub same_put : (o : ℕ) (xs l : List ℕ) → timers_at ≤ o → length xs ≡ array_length → Same xs (sets xs o l)
same_put o xs l h long =
    record {
      associations = part_before associations_at o xs l (omega arith);
      delays = part_before delays_at o xs l (omega arith);
      long = length-sets xs o l ∙ long;
    }

-- two changes that each leave what the settings gave leave it together
pub same_then : {xs ys zs : List ℕ} → Same xs ys → Same ys zs → Same xs zs
same_then a b = record { associations = b.associations ∙ a.associations; delays = b.delays ∙ a.delays; long = b.long }

-- ## The first n timers are filled

module _ (f : ℕ → ℕ) (n : ℕ) (xs : List ℕ) {ys : List ℕ} (e : ys ≡ sets xs timers_at (tabulate f n)) (few : n ≤ part_length) (long : length xs ≡ array_length) where
  pub timers_filled : timers_in ys ≡ tabulate f n ++ drop n (timers_in xs)
  timers_filled = ap timers_in e ∙ part_filled timers_at f n xs (omega arith) few

  pub firsts_kept : firsts_in ys ≡ firsts_in xs
  firsts_kept = ap firsts_in e ∙ part_after firsts_at timers_at xs (tabulate f n) (omega (arith, length-tabulate f n))

  pub timers_same : Same xs ys
  timers_same = rw e (same_put timers_at xs (tabulate f n) (omega arith) long)
