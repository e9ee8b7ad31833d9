-- Laws of decimal text: how it is made of its own front, how long it is, and that it belongs to one number only.
use mathlib.Core.Path.{◌≡◌, refl, sym, ap, ◌∙◌}
use mathlib.Core.Bool.{Bool, true, false, cond}
use mathlib.Core.List.{List, [], ◌∷◌, ◌++◌}
use Prim.Native.Nat.{ℕ, zero, suc, ◌+◌, ◌-◌, ◌*◌, ◌/◌, ◌%◌, ◌^◌, ◌≤◌, ◌<◌}
use native.Mathlib.Nat.{not-suc-le-zero, pow-suc}
use native.Mathlib.Omega.{arith}
use borrow.Author.Tests.{lt-ltb, le-ltb, ltb-true, ltb-false}
use lib.Dec.{ltb}
use lib.ListN.{length, length-append}
use Rattle.bits.specs.Decimal.{digit, at_most, decimal}

-- ## One digit, or those of n / 10 and the last

-- any two numbers of digits that are enough give the same text
enough : (j k n : ℕ) → n < j → n < k → at_most j n ≡ at_most k n
unfolding at_most
enough zero k n h g = absurd (not-suc-le-zero h)
enough (suc j) zero n h g = absurd (not-suc-le-zero g)
enough (suc j) (suc k) n h g = go (ltb n 10) refl (enough j k (n / 10))
  where
    go : (b : Bool) → ltb n 10 ≡ b → (n / 10 < j → n / 10 < k → at_most j (n / 10) ≡ at_most k (n / 10))
        → cond b (digit n ∷ []) (at_most j (n / 10) ++ (digit (n % 10) ∷ [])) ≡ cond b (digit n ∷ []) (at_most k (n / 10) ++ (digit (n % 10) ∷ []))
    go true e r = refl
    go false e r =
        let large = ltb-false n 10 e in
        ap (λ (l : List ℕ). l ++ (digit (n % 10) ∷ [])) (r (omega arith) (omega arith))

pub decimal_one : (n : ℕ) → n < 10 → decimal n ≡ digit n ∷ []
unfolding decimal at_most
decimal_one n h = rw (lt-ltb n 10 h)

pub decimal_more : (n : ℕ) → 10 ≤ n → decimal n ≡ decimal (n / 10) ++ (digit (n % 10) ∷ [])
unfolding decimal at_most
decimal_more n h =
    rw (le-ltb n 10 h) (ap (λ (l : List ℕ). l ++ (digit (n % 10) ∷ [])) (enough n (suc (n / 10)) (n / 10) (omega arith) (omega arith)))

pub length-one : (n : ℕ) → n < 10 → length (decimal n) ≡ 1
length-one n h = ap length (decimal_one n h)

pub length_more : (n : ℕ) → 10 ≤ n → length (decimal n) ≡ length (decimal (n / 10)) + 1
length_more n h = ap length (decimal_more n h) ∙ length-append (decimal (n / 10)) (digit (n % 10) ∷ [])

-- ## How long a decimal is

-- k + 1 digits are enough below 10 ^ (k + 1)
pub length-decimal : (k n : ℕ) → n < 10 ^ suc k → length (decimal n) ≤ suc k
length-decimal zero n h = omega (arith, length-one n h)
length-decimal (suc k) n h = go (ltb n 10) refl (length-decimal k (n / 10))
  where
    go : (b : Bool) → ltb n 10 ≡ b → (n / 10 < 10 ^ suc k → length (decimal (n / 10)) ≤ suc k) → length (decimal n) ≤ suc (suc k)
    go true e r = omega (arith, length-one n (ltb-true n 10 e))
    go false e r =
        let less : n / 10 < 10 ^ suc k = omega (arith, pow-suc 10 (suc k)) in
        omega (arith, length_more n (ltb-false n 10 e), r less)

pub length_of_32_bits : (n : ℕ) → n < 2 ^ 32 → length (decimal n) ≤ 10
length_of_32_bits n h = length-decimal 9 n (omega arith)

pub length_of_64_bits : (n : ℕ) → n < 2 ^ 64 → length (decimal n) ≤ 20
length_of_64_bits n h = length-decimal 19 n (omega arith)

-- ## Digits only

abbrev pub Digits : List ℕ → Type 0
Digits [] = Unit {0}
Digits (d ∷ ds) = (48 ≤ d) × (d < 58) × Digits ds

digits-then : (ds : List ℕ) (d : ℕ) → d < 10 → Digits ds → Digits (ds ++ (digit d ∷ []))
digits-then [] d h a = (omega arith, omega arith, tt)
digits-then (e ∷ ds) d h a = (a.0, a.1, digits-then ds d h a.2)

digits_within : (k n : ℕ) → n < k → Digits (decimal n)
digits_within zero n h = absurd (not-suc-le-zero h)
digits_within (suc k) n h = go (ltb n 10) refl (digits_within k (n / 10))
  where
    go : (b : Bool) → ltb n 10 ≡ b → (n / 10 < k → Digits (decimal (n / 10))) → Digits (decimal n)
    go true e r = rw (decimal_one n (ltb-true n 10 e)) (omega arith, omega (arith, ltb-true n 10 e), tt)
    go false e r =
        let large = ltb-false n 10 e in
        rw (decimal_more n large) (digits-then (decimal (n / 10)) (n % 10) (omega arith) (r (omega arith)))

pub digits_only : (n : ℕ) → Digits (decimal n)
digits_only n = digits_within (suc n) n (omega arith)

-- ## A decimal belongs to one number only

-- the number that the digits spell, behind digits that spell m
abbrev pub value_from : ℕ → List ℕ → ℕ
value_from m [] = m
value_from m (d ∷ ds) = value_from (m * 10 + (d - 48)) ds

value_last : (m : ℕ) (ds : List ℕ) (d : ℕ) → value_from m (ds ++ (digit d ∷ [])) ≡ value_from m ds * 10 + d
value_last m [] d = omega arith
value_last m (e ∷ ds) d = value_last (m * 10 + (e - 48)) ds d

value-within : (k n : ℕ) → n < k → value_from 0 (decimal n) ≡ n
value-within zero n h = absurd (not-suc-le-zero h)
value-within (suc k) n h = go (ltb n 10) refl (value-within k (n / 10))
  where
    go : (b : Bool) → ltb n 10 ≡ b → (n / 10 < k → value_from 0 (decimal (n / 10)) ≡ n / 10) → value_from 0 (decimal n) ≡ n
    go true e r = ap (value_from 0) (decimal_one n (ltb-true n 10 e)) ∙ omega arith
    go false e r =
        let large = ltb-false n 10 e in
        ap (value_from 0) (decimal_more n large) ∙ value_last 0 (decimal (n / 10)) (n % 10) ∙ omega (arith, r (omega arith))

-- reading a decimal gives the number, so no two numbers have the same text
pub value_decimal : (n : ℕ) → value_from 0 (decimal n) ≡ n
value_decimal n = value-within (suc n) n (omega arith)

pub decimal_injective : (m n : ℕ) → decimal m ≡ decimal n → m ≡ n
decimal_injective m n e = sym (value_decimal m) ∙ ap (value_from 0) e ∙ value_decimal n
