-- A cause that no effect watches may be left out, of what an effect sees and of whether any sees one.
use mathlib.Core.Path.{◌≡◌, refl, ap, ap₂, sym, ◌∙◌}
use mathlib.Core.Bool.{Bool, true, false, ◌&&◌, ◌||◌}
use mathlib.Core.Logic.{⊎_elim}
use Prim.Native.Nat.{ℕ, zero, suc, ◌^◌, ◌<◌}
use native.Mathlib.Nat.{eq-or-lt_of_le, le_of_suc-le-suc, not-suc-le-zero, lt_of_le_of_lt}
use lib.Bits.{bit_and, and_le_l, and_comm, and_zero_r}
use lib.Dec.{ltb}
use Rattle.bits.specs.Words.{bit_of}
use Rattle.bits.proofs.Words.{bit-and, bit-or, same_bits, and-or, some_or}
use Rattle.boards.proofs.Quiet.{any_to}
use Rattle.plans.specs.Plans.{union_to}

or-first : (a b : Bool) → a ≡ true → (a || b) ≡ true
or-first a b e = rw e

or_second : (a b : Bool) → b ≡ true → (a || b) ≡ true
or_second true b e = refl
or_second false b e = e

-- a bit of one of n words is a bit of their union
pub in-union : (f : ℕ → ℕ) (n i j : ℕ) → i < n → bit_of (f i) j ≡ true → bit_of (union_to f n) j ≡ true
unfolding union_to
in-union f zero i j h e = absurd (not-suc-le-zero h)
in-union f (suc n) i j h e = bit-or (union_to f n) (f n) j ∙ ⊎_elim last (λ k. or-first _ _ (in-union f n i j k e)) (eq-or-lt_of_le (le_of_suc-le-suc h))
  where
    last : i ≡ n → (bit_of (union_to f n) j || bit_of (f n) j) ≡ true
    last k = or_second (bit_of (union_to f n) j) (bit_of (f n) j) (rw k at e)

-- a mask that has all bits of a hides nothing of a
pub and_watched : (a t u : ℕ) → a < 2 ^ 16 → ((j : ℕ) → bit_of a j ≡ true → bit_of u j ≡ true) → bit_and a (bit_and t u) ≡ bit_and a t
and_watched a t u h all =
    same_bits _ _ 16 (lt_of_le_of_lt (and_le_l a (bit_and t u)) h) (lt_of_le_of_lt (and_le_l a t) h)
    (λ j k. bit-and a (bit_and t u) j ∙ ap (λ (x : Bool). bit_of a j && x) (bit-and t u j) ∙ go (bit_of a j) (bit_of t j) (bit_of u j) (all j) ∙ sym (bit-and a t j))
  where
    go : (x y z : Bool) → (x ≡ true → z ≡ true) → (x && (y && z)) ≡ (x && y)
    go true true z e = e refl
    go true false z e = refl
    go false y z e = refl

-- one of the causes is in the union of n words if and only if it is in one of them
pub some_watched : (f : ℕ → ℕ) (causes n : ℕ) → ltb 0 (bit_and causes (union_to f n)) ≡ any_to (λ i. ltb 0 (bit_and (f i) causes)) n
unfolding union_to any_to
some_watched f causes zero = ap (ltb 0) (and_zero_r causes)
some_watched f causes (suc n) =
    ap (ltb 0) (and-or causes (union_to f n) (f n)) ∙ some_or (bit_and causes (union_to f n)) (bit_and causes (f n))
    ∙ ap₂ ◌||◌ (some_watched f causes n) (ap (ltb 0) (and_comm causes (f n)))
