-- The lowest set bit of a word: what `trailing_zeros` gives, and what `w & (w - 1)` clears.
use mathlib.Core.Path.{◌≡◌, refl, ap, ap₂, sym, ◌∙◌, subst}
use mathlib.Core.Bool.{Bool, true, false, not, ◌&&◌, and-true, and_self}
use Prim.Native.Nat.{ℕ, zero, suc, ◌+◌, ◌-◌, ◌*◌, ◌/◌, ◌%◌, ◌^◌, ◌<◌}
use native.Mathlib.Nat.{mod-lt, zero-lt-suc, not-suc-le-zero, le_of_suc-le-suc, div-one, div-add-mod', div-lt_iff_lt-mul, pow-suc}
use native.Mathlib.Numerals.{one-add}
use native.Mathlib.Omega.{arith}
use lib.Arith.{digits_div, digits_mod}
use lib.Dec.{eqb, eqb-suc-suc, eqb-suc-zero, lit<}
use lib.Pow.{shr-shr}
use lib.Bits.{bit_and}
use lib.Count.{count_trailing_zeros, under}
use Rattle.bits.specs.Words.{bit_of}
use Rattle.bits.proofs.Words.{bit-and}

pub bit_zero : (w : ℕ) → bit_of w 0 ≡ eqb (w % 2) 1
bit_zero w = ap (λ (x : ℕ). eqb (x % 2) 1) (div-one w)

pub bit_suc : (w i : ℕ) → bit_of w (suc i) ≡ bit_of (w / 2) i
bit_suc w i = ap (λ (x : ℕ). eqb (x % 2) 1) (sym (shr-shr w 1 i ∙ ap (λ (k : ℕ). w / 2 ^ k) (one-add i)))

-- the lowest set bit of w, of k bits, is bit n
pub record Lowest (k w n : ℕ) : Type 0 where
  pub inside : n < k
  pub is_set : bit_of w n ≡ true
  pub under_it : (i : ℕ) → i < n → bit_of w i ≡ false
  pub cleared : (i : ℕ) → bit_of (bit_and w (w - 1)) i ≡ (bit_of w i && not (eqb i n))

-- the lowest set bit of an odd word is bit 0; that of an even word is one above that of its half
odd : (k w : ℕ) → w % 2 ≡ 1 → Lowest (suc k) w 0
odd k w e = record {
  inside = omega arith;
  is_set = bit_zero w ∙ ap (λ (x : ℕ). eqb x 1) e;
  under_it = λ i h. absurd (not-suc-le-zero h);
  cleared = at;
}
  where
    whole : w / 2 * 2 + 1 ≡ w
    whole = subst (λ (x : ℕ). w / 2 * 2 + x ≡ w) e (div-add-mod' w 2)

    less : w - 1 ≡ w / 2 * 2 + 0
    less = omega (arith, whole)

    at : (i : ℕ) → bit_of (bit_and w (w - 1)) i ≡ (bit_of w i && not (eqb i 0))
    at zero =
        bit-and w (w - 1) 0
        ∙ ap₂ ◌&&◌ (bit_zero w ∙ ap (λ (x : ℕ). eqb x 1) e) (bit_zero (w - 1) ∙ ap (λ (x : ℕ). eqb x 1) (ap (λ (x : ℕ). x % 2) less ∙ digits_mod (w / 2) (lit< tt)))
        ∙ sym (ap (λ (b : Bool). b && false) (bit_zero w ∙ ap (λ (x : ℕ). eqb x 1) e))
    at (suc i) =
        bit-and w (w - 1) (suc i)
        ∙ ap₂ ◌&&◌ (bit_suc w i) (bit_suc (w - 1) i ∙ ap (λ (x : ℕ). bit_of x i) (ap (λ (x : ℕ). x / 2) less ∙ digits_div (w / 2) (lit< tt)))
        ∙ and_self (bit_of (w / 2) i) ∙ sym (bit_suc w i) ∙ sym (and-true (bit_of w (suc i)))
        ∙ ap (λ (b : Bool). bit_of w (suc i) && not b) (sym (eqb-suc-zero i))

even : (k w n : ℕ) → w % 2 ≡ 0 → 0 < w / 2 → Lowest k (w / 2) n → Lowest (suc k) w (suc n)
even k w n e h r = record {
  inside = omega (arith, r.inside);
  is_set = bit_suc w n ∙ r.is_set;
  under_it = lower;
  cleared = at;
}
  where
    none : bit_of w 0 ≡ false
    none = bit_zero w ∙ ap (λ (x : ℕ). eqb x 1) e

    lower : (i : ℕ) → i < suc n → bit_of w i ≡ false
    lower zero u = none
    lower (suc i) u = bit_suc w i ∙ r.under_it i (le_of_suc-le-suc u)

    whole : w / 2 * 2 + 0 ≡ w
    whole = subst (λ (x : ℕ). w / 2 * 2 + x ≡ w) e (div-add-mod' w 2)

    less : w - 1 ≡ (w / 2 - 1) * 2 + 1
    less = omega (arith, whole, h)

    at : (i : ℕ) → bit_of (bit_and w (w - 1)) i ≡ (bit_of w i && not (eqb i (suc n)))
    at zero = bit-and w (w - 1) 0 ∙ ap (λ (b : Bool). b && bit_of (w - 1) 0) none ∙ sym (ap (λ (b : Bool). b && not (eqb 0 (suc n))) none)
    at (suc i) =
        bit-and w (w - 1) (suc i)
        ∙ ap₂ ◌&&◌ (bit_suc w i) (bit_suc (w - 1) i ∙ ap (λ (x : ℕ). bit_of x i) (ap (λ (x : ℕ). x / 2) less ∙ digits_div (w / 2 - 1) (lit< tt)))
        ∙ sym (bit-and (w / 2) (w / 2 - 1) i) ∙ r.cleared i
        ∙ ap₂ (λ (a b : Bool). a && not b) (sym (bit_suc w i)) (sym (eqb-suc-suc i n))

pub lowest : (k w : ℕ) → 0 < w → w < 2 ^ k → Lowest k w (count_trailing_zeros k w)
unfolding count_trailing_zeros
lowest zero w h l = absurd (omega arith)
lowest (suc k) w h l =
    go (w % 2) refl (λ p. lowest k (w / 2) p ((div-lt_iff_lt-mul (zero-lt-suc 1)).1 (subst (λ (x : ℕ). w < x) (pow-suc 2 k) l)))
  where
    go : (d : ℕ) → w % 2 ≡ d → (0 < w / 2 → Lowest k (w / 2) (count_trailing_zeros k (w / 2))) → Lowest (suc k) w (under d (count_trailing_zeros k (w / 2)))
    go zero e r =
        let p : 0 < w / 2 = omega (arith, div-add-mod' w 2, e) in
        even k w (count_trailing_zeros k (w / 2)) e p (r p)
    go (suc zero) e r = odd k w e
    go (suc (suc d)) e r = absurd (omega (arith, mod-lt w (zero-lt-suc 1), e))
