-- The least value of those that pass a test.
use mathlib.Core.Path.{◌≡◌, refl, ap, sym, ◌∙◌}
use mathlib.Core.Bool.{Bool, true, false, cond, ◌&&◌}
use Prim.Native.Nat.{ℕ, zero, suc, ◌+◌, ◌-◌, ◌/◌, ◌^◌, min, ◌<◌, ◌≤◌}
use native.Mathlib.Nat.{le-div_iff_mul-le, le_trans, mul-le-mul}
use native.Mathlib.Numerals.{add-one}
use native.Mathlib.Omega.{arith}
use lib.Bits.{bit_and}
use lib.Count.{count_trailing_zeros}
use lib.Dec.{leb}
use borrow.Author.Tests.{lt-leb}
use Rattle.bits.specs.Words.{bit_of, word_of}
use Rattle.bits.proofs.Words.{bit_none}
use Rattle.rules.specs.Limits.{most_hold, most_period}
use Rattle.boards.specs.Table.{low_to}
use Rattle.boards.proofs.Bits.{Rests, Done, again, before-it, is_set}

low_to_more : (f : ℕ → Bool) (t : ℕ → ℕ) (n : ℕ) → low_to f t (n + 1) ≡ cond (f n) (min (low_to f t n) (t n)) (low_to f t n)
unfolding low_to
low_to_more f t n = rw add-one

pub low_to_ext : (f g : ℕ → Bool) (t u : ℕ → ℕ) (m : ℕ) → ((i : ℕ) → i < m → f i ≡ g i) → ((i : ℕ) → i < m → t i ≡ u i) → low_to f t m ≡ low_to g u m
unfolding low_to
low_to_ext f g t u zero h k = refl
low_to_ext f g t u (suc m) h k =
    let e = low_to_ext f g t u m (λ i w. h i (omega arith)) (λ i w. k i (omega arith)) in
    rw (h m (omega arith), k m (omega arith), e)

-- ## No timer

-- a timer of the largest u32 does not run out within a hold
pub uncapped : (m period : ℕ) → m ≤ most_hold → 0 < period → period ≤ most_period → min m (4294967294 / period) ≡ m
uncapped m period most pos short =
    let h : m ≤ 4294967294 / period = (le-div_iff_mul-le pos).1 (le_trans (mul-le-mul most short) (omega arith)) in
    omega arith

no_least : (t : ℕ → ℕ) (n : ℕ) → low_to (bit_of 0) t n ≡ 4294967295
unfolding low_to
no_least t zero = refl
no_least t (suc n) = rw (bit_none n) (no_least t n)

-- where no effect is in Delayed, no timer is the least: every scan that is left is skipped
pub none_low : (m period delayed n : ℕ) (t : ℕ → ℕ) → m ≤ most_hold → 0 < period → period ≤ most_period → delayed ≡ 0
    → min m ((low_to (bit_of delayed) t n - 1) / period) ≡ m
none_low m period delayed n t most pos short e = rw (e, no_least t n) (uncapped m period most pos short)

-- ## No timer is due

-- one effect more: where its timer is above the period, or it is not in the word, it is not due
none_more : (b : Bool) (due low t period bit : ℕ) → period < cond b (min low t) low → (period < low → due ≡ 0) → due + cond (b && leb t period) bit 0 ≡ 0
none_more true due low t period bit h g =
    let z = g (omega arith) in
    rw (lt-leb t period (omega arith)) (omega (arith, z))
none_more false due low t period bit h g =
    let z = g h in
    omega (arith, z)

-- where the least timer is above the period, no effect is due
pub none-due : (f : ℕ → Bool) (t : ℕ → ℕ) (period n : ℕ) → period < low_to f t n → word_of (λ i. f i && leb (t i) period) n ≡ 0
unfolding low_to word_of
none-due f t period zero h = refl
none-due f t period (suc n) h = none_more (f n) (word_of (λ i. f i && leb (t i) period) n) (low_to f t n) (t n) period (2 ^ n) h (none-due f t period n)

-- ## The least at the set bits of a word

module _ (n delayed : ℕ) (t : ℕ → ℕ) where
  abbrev up_to : ℕ → ℕ
  up_to = low_to (bit_of delayed) t

  pub low_rest : n ≤ 16 → delayed < 2 ^ n → Rests n delayed up_to
  low_rest few inside = record { few = few; inside = inside; same = λ j h e. low_to_more (bit_of delayed) t j ∙ ap (λ (b : Bool). cond b (min (up_to j) (t j)) (up_to j)) e }

  pub lowered : {low rest : ℕ} → Done n delayed up_to low rest → 0 < rest → Done n delayed up_to (min low (t (count_trailing_zeros 16 rest))) (bit_and rest (rest - 1))
  lowered {low} {rest} d more =
      again d more
      (ap (λ (l : ℕ). min l (t (count_trailing_zeros 16 rest))) (before-it d more)
      ∙ sym (low_to_more (bit_of delayed) t (count_trailing_zeros 16 rest)
      ∙ ap (λ (b : Bool). cond b (min (up_to (count_trailing_zeros 16 rest)) (t (count_trailing_zeros 16 rest))) (up_to (count_trailing_zeros 16 rest))) (is_set d more)))
