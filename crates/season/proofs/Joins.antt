-- A recording's sums and a report's: 11, or the sums of both.
use mathlib.Core.Path.{◌≡◌, refl, ap, ap₂}
use mathlib.Core.Bool.{Bool, true, false, ◌&&◌}
use mathlib.Core.List.{List, [], ◌∷◌}
use Prim.Native.Nat.{ℕ, suc, ◌+◌, ◌<◌}
use native.Mathlib.Nat.{zero-add}
use native.Mathlib.Omega.{arith}
use lib.Dec.{leb}
use lib.ListN.{length, get_or}
use Rattle.bits.specs.Lists.{all_from}
use Rattle.bits.proofs.Lists.{tabulate_ext}
use Rattle.settings.specs.Refusals.{unless, granted}
use Rattle.sums.specs.Sums.{most_sum, in_range, summed}
use Rattle.tally.specs.Tally.{sum_count}
use Rattle.season.specs.declared.Report.{Report}
use Rattle.season.specs.Rows.{refused_at, grown_to, joined_by, joined}

module _ (r : Report) (n : ℕ) (more : List ℕ) where
  abbrev fit : Bool
  fit = in_range (λ k. get_or more k 0) r.sums

  pub refused_sums : fit ≡ false → refused_at r 11 0 ≡ joined r n more
  unfolding joined
  refused_sums e = rw e

  pub joined_sums : fit ≡ true → (sums : List ℕ) → sums ≡ summed (λ k. get_or more k 0) sum_count r.sums
      → grown_to n sums ≡ joined r n more
  unfolding joined
  joined_sums e sums p = rw e (ap (grown_to n) p)

-- what is added may be given in another way
all_alike : (f g : ℕ → ℕ) (i : ℕ) (xs : List ℕ) → ((k : ℕ) → k < length xs → f (i + k) ≡ g (i + k))
    → all_from (λ k x. leb (x + f k) most_sum) i xs ≡ all_from (λ k x. leb (x + g k) most_sum) i xs
all_alike f g i [] h = refl
all_alike f g i (x ∷ xs) h =
    let z : i + 0 ≡ i = omega arith in
    ap₂ (λ (u v : Bool). u && v) (ap (λ (n : ℕ). leb (x + n) most_sum) (rw z at (h 0 (omega arith))))
    (all_alike f g (i + 1) xs (λ k l. let n : i + 1 + k ≡ i + suc k = omega arith in rw n (h (suc k) (omega arith))))

pub joined-alike : (r : Report) (n : ℕ) (f g : ℕ → ℕ) → length r.sums ≡ sum_count → ((k : ℕ) → k < sum_count → f k ≡ g k) → joined_by r n f ≡ joined_by r n g
joined-alike r n f g l p =
    let u : in_range f r.sums ≡ in_range g r.sums = all_alike f g 0 r.sums (λ k h. rw zero-add (p k (omega arith))) in
    let x : summed f sum_count r.sums ≡ summed g sum_count r.sums = tabulate_ext _ _ sum_count (λ k h. ap (λ (v : ℕ). get_or r.sums k 0 + v) (p k h)) in
    λ j. granted (unless (u j) 11) (grown_to n (x j)) (λ k. refused_at r k 0)
