-- The quick test of a row holds exactly if its refusal number is 0: no bit of it is barred exactly if every word is within its bound,
-- and its last 32 bits have as many ones as the two force words together.
use mathlib.Core.Path.{◌≡◌, refl, sym, ap, ap₂, ◌∙◌}
use mathlib.Core.Bool.{Bool, true, false, not, ◌&&◌, ◌||◌}
use mathlib.Core.List.{List}
use Prim.Native.Nat.{ℕ, zero, suc, ◌+◌, ◌*◌, ◌-◌, ◌/◌, ◌%◌, ◌^◌, ◌≤◌, ◌<◌}
use native.Mathlib.Nat.{add_assoc, div-eq_of_lt, mod-lt, zero-mul, zero-add, add-zero}
use native.Mathlib.Omega.{arith}
use borrow.Author.Tests.{ltb-true, ltb-false, leb-true, leb-false, lt-ltb, le-ltb, ne_eqb}
use lib.Bits.{bit_and, bit_or, and_block, and_high, and_zero_r, and_le_r, or_zero_l, or_add_and}
use lib.Count.{ones, ones_cat}
use lib.Dec.{eqb, eqb-suc-zero, leb, ltb}
use lib.Arith.{digits_div}
use lib.Pow.{pow_mono, pow_pos, shr_mod, split}
use Rattle.bits.specs.Numbers.{Bytes, num_at}
use Rattle.bits.specs.Words.{bit_of}
use Rattle.bits.proofs.Numbers.{num_lt, num_parts}
use Rattle.settings.specs.declared.Known.{Known}
use Rattle.rules.specs.Limits.{most_hold}
use Rattle.settings.specs.Refusals.{unless, or_else}
use Rattle.settings.specs.Right.{words_ok, apart, several, words_number, row_number}
use Rattle.layout.specs.declared.quick.Bars.{Bars}
use Rattle.layout.specs.declared.Kind.TheVariants.{Rows}
use Rattle.layout.specs.Entries.{words_at, row_at}
use Rattle.layout.specs.Sections.{width_of}
use Rattle.layout.specs.Barred.{absent_of, four_of, bars_of}
use Rattle.layout.proofs.Within.{row_there}

-- ## Words that share no bit

or-none : (a b : ℕ) → eqb (bit_or a b) 0 ≡ (eqb a 0 && eqb b 0)
or-none zero b = rw or_zero_l
or-none (suc a) b = rw eqb-suc-zero (ne_eqb (bit_or (suc a) b) 0 (λ e. omega (arith, e, or_add_and (suc a) b, and_le_r (suc a) b)))

sum_none : (a b : ℕ) → eqb (a * 65536 + b) 0 ≡ (eqb a 0 && eqb b 0)
sum_none zero b = rw (zero-mul, zero-add)
sum_none (suc a) b = rw eqb-suc-zero (ne_eqb (suc a * 65536 + b) 0 (λ e. omega arith))

pair : (a b p q : ℕ) → b < 65536 → q < 65536 → eqb (bit_and (a * 65536 + b) (p * 65536 + q)) 0 ≡ (eqb (bit_and a p) 0 && eqb (bit_and b q) 0)
pair a b p q h k = ap (λ (x : ℕ). eqb x 0) (and_block 16 a p b q h k) ∙ sum_none (bit_and a p) (bit_and b q)

-- four words share no bit with four masks exactly if no word shares one with its mask
four_none : (a b c d p q r t : ℕ) → b < 65536 → c < 65536 → d < 65536 → q < 65536 → r < 65536 → t < 65536
    → eqb (bit_and (four_of a b c d) (four_of p q r t)) 0 ≡ (eqb (bit_and a p) 0 && eqb (bit_and b q) 0 && eqb (bit_and c r) 0 && eqb (bit_and d t) 0)
four_none a b c d p q r t hb hc hd hq hr ht =
    pair ((a * 65536 + b) * 65536 + c) d ((p * 65536 + q) * 65536 + r) t hd ht
    ∙ ap (λ (x : Bool). x && eqb (bit_and d t) 0) (pair (a * 65536 + b) c (p * 65536 + q) r hc hr ∙ ap (λ (x : Bool). x && eqb (bit_and c r) 0) (pair a b p q hb hq))

-- a word has no bit at n or above exactly if it is below 2 ^ n
none_absent : (w n : ℕ) → w < 65536 → eqb (bit_and w (absent_of n)) 0 ≡ ltb w (2 ^ n)
none_absent w n h = go (leb n 16) refl
  where
    few : n ≤ 16 → bit_and w (absent_of n) ≡ w / 2 ^ n * 2 ^ n
    few k =
        let j = 16 - n in
        let e : j + n ≡ 16 = omega arith in
        let whole : 2 ^ (j + n) ≡ 65536 = ap (λ (x : ℕ). 2 ^ x) e in
        let inside : w < 2 ^ (j + n) = omega (arith, whole) in
        ap (λ (x : ℕ). bit_and w (x - 2 ^ n)) (sym whole) ∙ and_high w j n ∙ ap (λ (x : ℕ). x * 2 ^ n) (shr_mod j n inside)

    below : n ≤ 16 → (b : Bool) → ltb w (2 ^ n) ≡ b → eqb (w / 2 ^ n * 2 ^ n) 0 ≡ b
    below k true q = rw (div-eq_of_lt (ltb-true w (2 ^ n) q), zero-mul)
    below k false q = ne_eqb (w / 2 ^ n * 2 ^ n) 0 (λ e. omega (arith, e, split w n, mod-lt w (pow_pos n), ltb-false w (2 ^ n) q))

    go : (b : Bool) → leb n 16 ≡ b → eqb (bit_and w (absent_of n)) 0 ≡ ltb w (2 ^ n)
    go true q = let k = leb-true n 16 q in ap (λ (x : ℕ). eqb x 0) (few k) ∙ below k (ltb w (2 ^ n)) refl
    go false q =
        let big = pow_mono (leb-false n 16 q) in
        let none : absent_of n ≡ 0 = omega (arith, big) in
        ap (λ (x : ℕ). eqb (bit_and w x) 0) none ∙ ap (λ (x : ℕ). eqb x 0) (and_zero_r w) ∙ sym (lt-ltb w (2 ^ n) (omega (arith, big)))

-- ## The three numbers of a row

-- a number of eight bytes is four words
eight : (s : List ℕ) (at o : ℕ) → num_at 8 s (at + o) ≡ four_of (num_at 2 s (at + o)) (num_at 2 s (at + (o + 2))) (num_at 2 s (at + (o + 4))) (num_at 2 s (at + (o + 6)))
eight s at o =
    go _ _ _ _ _ _ _ (num_parts 4 4 s (at + o)) (num_parts 2 2 s (at + o) ∙ ap (λ (p : ℕ). num_at 2 s (at + o) * 256 ^ 2 + num_at 2 s p) (add_assoc at o 2))
    (num_parts 2 2 s (at + o + 4) ∙ ap₂ (λ (p q : ℕ). num_at 2 s p * 256 ^ 2 + num_at 2 s q) (add_assoc at o 4) place)
  where
    place : at + o + 4 + 2 ≡ at + (o + 6)
    place = omega arith

    go : (a b c d x y z : ℕ) → x ≡ y * 256 ^ 4 + z → y ≡ a * 256 ^ 2 + b → z ≡ c * 256 ^ 2 + d → x ≡ four_of a b c d
    go a b c d x y z e f g = omega arith

-- ## The tests of a row, in the order of its bytes

-- nothing refuses a row exactly if its four tests hold
no_number : (h w a f : Bool) → eqb (or_else (unless h 4) (or_else (unless w 4) (or_else (unless a 5) (unless f 6)))) 0 ≡ ((h && w) && (a && f))
no_number false w a f = refl
no_number true false a f = refl
no_number true true false f = refl
no_number true true true false = refl
no_number true true true true = refl

one_at_most : (n : ℕ) → not (ltb 1 n) ≡ leb n 1
one_at_most n = go (leb n 1) refl
  where
    go : (b : Bool) → leb n 1 ≡ b → not (ltb 1 n) ≡ b
    go true q = rw (le-ltb 1 n (leb-true n 1 q))
    go false q = rw (lt-ltb 1 n (leb-false n 1 q))

below_two : (n : ℕ) → ltb n 2 ≡ leb n 1
below_two n = go (leb n 1) refl
  where
    go : (b : Bool) → leb n 1 ≡ b → ltb n 2 ≡ b
    go true q = lt-ltb n 2 (omega (arith, leb-true n 1 q))
    go false q = le-ltb n 2 (omega (arith, leb-false n 1 q))

and_assoc : (a b c : Bool) → ((a && b) && c) ≡ (a && (b && c))
and_assoc true b c = refl
and_assoc false b c = refl

absent_lt : (n : ℕ) → absent_of n < 65536
absent_lt n = omega (arith, pow_pos n)

-- the last two of four words, and both as one number
last_two : (a b c d t : ℕ) → c < 65536 → d < 65536 → t ≡ four_of a b c d → (t / 65536 % 65536 ≡ c) × (t % 65536 ≡ d) × (t % 2 ^ 32 ≡ c * 65536 + d)
last_two a b c d t hc hd e = (omega arith, omega arith, omega arith)

-- the quick test, by the masks and the three numbers of a row
abbrev pub quick : (bars : Bars) (f g t : ℕ) → Bool
quick bars f g t =
    ((leb 1 (f / 2 ^ 32) && leb (f / 2 ^ 32) most_hold) && eqb (bit_or (bit_or (bit_and f bars.first) (bit_and g bars.second)) (bit_and t bars.third)) 0)
    && (eqb (bit_and (t / 65536 % 65536) (t % 65536)) 0 && (bars.several || leb (ones (t % 2 ^ 32)) 1))

module _ (k : Known) (s : List ℕ) (at : ℕ) (bytes : Bytes s) where
  abbrev word : ℕ → ℕ
  word o = num_at 2 s (at + o)

  abbrev cause : ℕ → Bool
  cause o = ltb (word o) (2 ^ k.causes)

  abbrev effect : ℕ → Bool
  effect o = ltb (word o) (2 ^ k.count)

  word_lt : (o : ℕ) → word o < 65536
  word_lt o = num_lt 2 s (at + o) bytes

  four_words : (o p q r t : ℕ) → q < 65536 → r < 65536 → t < 65536
      → eqb (bit_and (num_at 8 s (at + o)) (four_of p q r t)) 0
      ≡ (eqb (bit_and (word o) p) 0 && eqb (bit_and (word (o + 2)) q) 0 && eqb (bit_and (word (o + 4)) r) 0 && eqb (bit_and (word (o + 6)) t) 0)
  four_words o p q r t hq hr ht =
      ap (λ (x : ℕ). eqb (bit_and x (four_of p q r t)) 0) (eight s at o)
      ∙ four_none (word o) (word (o + 2)) (word (o + 4)) (word (o + 6)) p q r t (word_lt (o + 2)) (word_lt (o + 4)) (word_lt (o + 6)) hq hr ht

  c_lt : absent_of k.causes < 65536
  c_lt = absent_lt k.causes

  e_lt : absent_of k.count < 65536
  e_lt = absent_lt k.count

  -- the barred bits of the three numbers
  abbrev first : ℕ
  first = bit_and (num_at 8 s (at + 0)) (bars_of k).first

  abbrev second : ℕ
  second = bit_and (num_at 8 s (at + 8)) (bars_of k).second

  abbrev third : ℕ
  third = bit_and (num_at 8 s (at + 16)) (bars_of k).third

  first-words : eqb first 0 ≡ (cause 4 && cause 6)
  unfolding bars_of
  first-words =
      four_words 0 0 0 (absent_of k.causes) (absent_of k.causes) (omega arith) c_lt c_lt
      ∙ rw (and_zero_r (word 0), and_zero_r (word 2), none_absent (word 4) k.causes (word_lt 4), none_absent (word 6) k.causes (word_lt 6))

  second_words : eqb second 0 ≡ (cause 8 && effect 10 && effect 12 && effect 14)
  unfolding bars_of
  second_words =
      four_words 8 (absent_of k.causes) (absent_of k.count) (absent_of k.count) (absent_of k.count) e_lt e_lt e_lt
      ∙ rw (none_absent (word 8) k.causes (word_lt 8), none_absent (word 10) k.count (word_lt 10), none_absent (word 12) k.count (word_lt 12), none_absent (word 14) k.count (word_lt 14))

  third_words : eqb third 0 ≡ (effect 16 && leb (word 18) 1 && effect 20 && effect 22)
  unfolding bars_of
  third_words =
      four_words 16 (absent_of k.count) (absent_of 1) (absent_of k.count) (absent_of k.count) (absent_lt 1) e_lt e_lt
      ∙ rw (none_absent (word 16) k.count (word_lt 16), none_absent (word 18) 1 (word_lt 18), below_two (word 18), none_absent (word 20) k.count (word_lt 20), none_absent (word 22) k.count (word_lt 22))

  words_are : eqb (bit_or (bit_or first second) third) 0 ≡ words_ok k (words_at s (at + 4))
  unfolding words_at
  words_are =
      or-none (bit_or first second) third
      ∙ ap₂ ◌&&◌ (or-none first second ∙ ap₂ ◌&&◌ first-words second_words) third_words
      ∙ simp (and_assoc, add_assoc)

  hold_is : num_at 8 s (at + 0) / 2 ^ 32 ≡ num_at 4 s at
  hold_is = rw add-zero (ap (λ (x : ℕ). x / 2 ^ 32) (num_parts 4 4 s at) ∙ digits_div (num_at 4 s at) (num_lt 4 s (at + 4) bytes))

  last_words : (num_at 8 s (at + 16) / 65536 % 65536 ≡ word 20) × (num_at 8 s (at + 16) % 65536 ≡ word 22) × (num_at 8 s (at + 16) % 2 ^ 32 ≡ word 20 * 65536 + word 22)
  last_words = last_two (word 16) (word 18) (word 20) (word 22) _ (word_lt 20) (word_lt 22) (eight s at 16)

  several_is : ((bars_of k).several || leb (ones (num_at 8 s (at + 16) % 2 ^ 32)) 1) ≡ (bit_of k.options 2 || not (several (words_at s (at + 4))))
  unfolding bars_of words_at
  several_is =
      rw (add_assoc at 4 16, add_assoc at 4 18)
      (ap (λ (b : Bool). bit_of k.options 2 || b)
      (ap (λ (x : ℕ). leb x 1) (ap ones last_words.2 ∙ ones_cat 16 (word 20) (word 22) (word_lt 22)) ∙ sym (one_at_most (ones (word 20) + ones (word 22)))))

  apart_is : eqb (bit_and (num_at 8 s (at + 16) / 65536 % 65536) (num_at 8 s (at + 16) % 65536)) 0 ≡ apart (words_at s (at + 4))
  unfolding words_at
  apart_is = rw (add_assoc at 4 16, add_assoc at 4 18) (ap₂ (λ (x y : ℕ). eqb (bit_and x y) 0) last_words.0 last_words.1)

  row_is : quick (bars_of k) (num_at 8 s (at + 0)) (num_at 8 s (at + 8)) (num_at 8 s (at + 16)) ≡ eqb (row_number k (row_at (width_of Rows) s at)) 0
  unfolding row_number words_number
  row_is =
      rw (row_there (width_of Rows) s at (omega arith))
      (ap₂ ◌&&◌ (ap₂ ◌&&◌ (ap (λ (x : ℕ). leb 1 x && leb x most_hold) hold_is) words_are)
      (ap₂ ◌&&◌ apart_is several_is)
      ∙ sym (no_number (leb 1 (num_at 4 s at) && leb (num_at 4 s at) most_hold) (words_ok k (words_at s (at + 4))) (apart (words_at s (at + 4))) (bit_of k.options 2 || not (several (words_at s (at + 4))))))

  pub quick_is_number : (bars : Bars) (f g t : ℕ) → bars ≡ bars_of k → f ≡ num_at 8 s at → g ≡ num_at 8 s (at + 8) → t ≡ num_at 8 s (at + 16)
      → quick bars f g t ≡ eqb (row_number k (row_at (width_of Rows) s at)) 0
  quick_is_number bars f g t e p q r = rw (e, p, q, r) (rw add-zero at row_is)
