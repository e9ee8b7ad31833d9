-- Sums of 64 bits, one by one.
use mathlib.Core.Path.{◌≡◌, refl, ap, ap₂, sym, ◌∙◌}
use mathlib.Core.Bool.{Bool, true, ◌&&◌}
use mathlib.Core.List.{List, [], ◌∷◌, ◌++◌}
use Prim.Native.Nat.{ℕ, suc, ◌+◌, ◌≤◌, ◌<◌}
use native.Mathlib.Nat.{add-zero}
use native.Mathlib.Omega.{arith}
use borrow.Author.Tests.{le-leb, leb-true}
use lib.Dec.{leb}
use lib.ListN.{length, get_or, drop}
use lib.Seq.{get_or-append-add, get_or-drop}
use Rattle.std.specs.List.{list_all, zip}
use Rattle.bits.specs.Lists.{tabulate, all_from}
use Rattle.bits.proofs.Lists.{length-tabulate, all-at, all_pass}
use Rattle.sums.specs.Sums.{most_sum, in_range}

-- that every pair of a term and what is added to it passes says the same as that the sums are in range
range_from : (f : ℕ → ℕ) (i : ℕ) (xs ys : List ℕ) → length xs ≡ length ys → ((k : ℕ) → f (i + k) ≡ get_or ys k 0)
    → list_all (λ (p : ℕ × ℕ). leb (p.0 + p.1) most_sum) (zip xs ys) ≡ all_from (λ k x. leb (x + f k) most_sum) i xs
range_from f i [] ys e is = refl
range_from f i (x ∷ xs) [] e is = absurd (omega (arith, e))
range_from f i (x ∷ xs) (y ∷ ys) e is =
    let here : f i ≡ y = ap f (omega arith) ∙ is 0 in
    let later : (k : ℕ) → f (i + 1 + k) ≡ get_or ys k 0 = λ k. ap f (omega arith) ∙ is (suc k) in
    ap₂ (λ (m : ℕ) (b : Bool). leb (x + m) most_sum && b) (sym here) (range_from f (i + 1) xs ys (omega (arith, e)) later)

pub range_of_pairs : (xs ys : List ℕ) → length xs ≡ length ys
    → list_all (λ (p : ℕ × ℕ). leb (p.0 + p.1) most_sum) (zip xs ys) ≡ in_range (λ k. get_or ys k 0) xs
range_of_pairs xs ys e = range_from (λ k. get_or ys k 0) 0 xs ys e (λ k. ap (λ (n : ℕ). get_or ys n 0) (omega arith))

-- each sum of those that are in range is
pub sum_fits : (f : ℕ → ℕ) (xs : List ℕ) (k : ℕ) → in_range f xs ≡ true → k < length xs → get_or xs k 0 + f k ≤ most_sum
sum_fits f xs k e h =
    let z : 0 + k ≡ k = omega arith in
    rw z at (leb-true (get_or xs k 0 + f (0 + k)) most_sum (all-at (λ i x. leb (x + f i) most_sum) 0 xs 0 e k h))

-- and sums are in range if each is
pub in_range_if : (f : ℕ → ℕ) (xs : List ℕ) → ((k : ℕ) → k < length xs → get_or xs k 0 + f k ≤ most_sum) → in_range f xs ≡ true
in_range_if f xs h =
    all_pass (λ k x. leb (x + f k) most_sum) 0 xs 0
    (λ k l. let z : 0 + k ≡ k = omega arith in rw z (le-leb (get_or xs k 0 + f k) most_sum (h k l)))

-- the first of what has not been filled
pub unfilled : (f : ℕ → ℕ) (l : List ℕ) (k : ℕ) → get_or (tabulate f k ++ drop k l) k 0 ≡ get_or l k 0
unfilled f l k =
    ap (λ (n : ℕ). get_or (tabulate f k ++ drop k l) n 0) (sym (add-zero k) ∙ ap (λ (n : ℕ). n + 0) (sym (length-tabulate f k)))
    ∙ get_or-append-add (tabulate f k) (drop k l) 0 0
    ∙ get_or-drop k l 0 0
    ∙ ap (λ (n : ℕ). get_or l n 0) (add-zero k)
