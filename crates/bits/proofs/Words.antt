-- Laws of words of bits: each is proved once, over the bit's number.
use mathlib.Core.Path.{◌≡◌, refl, ap, ap₂, sym, ◌∙◌}
use mathlib.Core.Bool.{Bool, true, false, cond, not, ◌&&◌, ◌||◌, xor}
use mathlib.Core.Logic.{⊎_elim}
use Prim.Native.Nat.{ℕ, zero, suc, ◌+◌, ◌-◌, ◌*◌, ◌/◌, ◌%◌, ◌^◌, ◌<◌, ◌≤◌}
use native.Mathlib.Nat.{lt_of_lt_of_le, lt_of_le_of_lt, pow-suc, mul_assoc, add-mul-div_right, add-mul-mod_self_right, div-eq_of_lt, mod-eq_of_lt, mod-lt, mod-one, zero-add, zero-lt-suc, eq-or-lt_of_le, le_of_suc-le-suc, not-suc-le-zero}
use native.Mathlib.Numerals.{add-one, one-add}
use native.Mathlib.Omega.{arith}
use borrow.Author.Tests.{lt-ltb}
use lib.Bits.{bit_and, bit_or, bit_xor, or_shifted_r, and_shr, or_shr, xor_shr, and_mod, or_mod, xor_mod, and_le_l, and_le_r, and_lt, or_lt, or_zero_l, or_add_and}
use lib.Dec.{eqb, ltb, lit<}
use lib.Pow.{shl_exact, pow-add, pow_pos, pow_mono, mod-pow-add}
use Rattle.bits.specs.Words.{bit_of, word_of, one}

pub word_of_lt : (t : ℕ → Bool) (n : ℕ) → word_of t n < 2 ^ n
unfolding word_of
word_of_lt t zero = omega arith
word_of_lt t (suc n) = go (t n) (word_of_lt t n)
  where
    go : (b : Bool) → word_of t n < 2 ^ n → word_of t n + cond b (2 ^ n) 0 < 2 ^ suc n
    go true h = omega arith
    go false h = omega arith

-- a bit that is put in above the others
pub more_lt : (w n : ℕ) (b : Bool) → w < 2 ^ n → w + cond b (2 ^ n) 0 < 2 ^ (n + 1)
more_lt w n true h = rw add-one (omega arith)
more_lt w n false h = rw add-one (omega arith)

pub word_of_more : (t : ℕ → Bool) (n : ℕ) → word_of t (n + 1) ≡ word_of t n + cond (t n) (2 ^ n) 0
unfolding word_of
word_of_more t n = rw add-one

-- the code's `w | 1 << i` adds 2 ^ i, where w has no bit at i or above
pub set-bit : (w i : ℕ) → w < 2 ^ i → i < 16 → bit_or w ((1 * 2 ^ i) % 2 ^ 16) ≡ w + 2 ^ i
set-bit w i h k = rw (shl_exact 1 i 16 (lit< tt) (omega arith), or_shifted_r 1 i w h) (omega arith)

-- a bit at n or above it changes no bit below n
below : (w b d i : ℕ) → (w + b * 2 ^ (suc d + i)) / 2 ^ i % 2 ≡ w / 2 ^ i % 2
below w b d i =
    let e : b * 2 ^ (suc d + i) ≡ b * 2 ^ d * 2 * 2 ^ i = simp (pow-add, pow-suc, mul_assoc) in
    rw (e, add-mul-div_right w (b * 2 ^ d * 2) (pow_pos i), add-mul-mod_self_right)

at : (w b n : ℕ) → w < 2 ^ n → b < 2 → (w + b * 2 ^ n) / 2 ^ n % 2 ≡ b
at w b n h k = rw (add-mul-div_right w b (pow_pos n), div-eq_of_lt h, zero-add, mod-eq_of_lt k)

step : (t : ℕ → Bool) (n : ℕ) → word_of t (suc n) ≡ word_of t n + one (t n) * 2 ^ n
unfolding word_of
step t n = go (t n)
  where
    go : (b : Bool) → word_of t n + cond b (2 ^ n) 0 ≡ word_of t n + one b * 2 ^ n
    go true = omega arith
    go false = omega arith

pub one-lt : (b : Bool) → one b < 2
one-lt true = lit< tt
one-lt false = lit< tt

bit_is : (b : Bool) → eqb (one b) 1 ≡ b
bit_is true = refl
bit_is false = refl

-- bit i of the word as a number
pub one_word_of : (t : ℕ → Bool) (n i : ℕ) → i < n → word_of t n / 2 ^ i % 2 ≡ one (t i)
one_word_of t zero i h = absurd (not-suc-le-zero h)
one_word_of t (suc n) i h = ⊎_elim last (λ k. earlier k (one_word_of t n i k)) (eq-or-lt_of_le (le_of_suc-le-suc h))
  where
    last : i ≡ n → word_of t (suc n) / 2 ^ i % 2 ≡ one (t i)
    last e = rw (e, step, at (word_of t n) (one (t n)) n (word_of_lt t n) (one-lt (t n)))

    earlier : i < n → word_of t n / 2 ^ i % 2 ≡ one (t i) → word_of t (suc n) / 2 ^ i % 2 ≡ one (t i)
    earlier k r =
        let e : n ≡ suc (n - suc i) + i = omega arith in
        let p : 2 ^ n ≡ 2 ^ (suc (n - suc i) + i) = ap (λ (m : ℕ). 2 ^ m) e in
        rw (step, p, below (word_of t n) (one (t n)) (n - suc i) i) r

-- bit i of the word as a test
pub bit_word_of : (t : ℕ → Bool) (n i : ℕ) → i < n → bit_of (word_of t n) i ≡ t i
bit_word_of t n i h = rw (one_word_of t n i h, bit_is)

-- a word has no bit past its length
pub bit_past : (w n i : ℕ) → w < 2 ^ n → n ≤ i → bit_of w i ≡ false
bit_past w n i h k = rw (div-eq_of_lt (lt_of_lt_of_le h (pow_mono k)))

pub bit_none : (i : ℕ) → bit_of 0 i ≡ false
bit_none i = bit_past 0 0 i (omega arith) (omega arith)

-- a bit of a word that counts if b holds, and is 0 otherwise
pub bit_if : (b : Bool) (w i : ℕ) → bit_of (cond b w 0) i ≡ (b && bit_of w i)
bit_if true w i = refl
bit_if false w i = bit_none i

-- ## A word is the word of its bits

-- bits that agree below n give the same word
pub word_of_ext : (f g : ℕ → Bool) (n : ℕ) → ((i : ℕ) → i < n → f i ≡ g i) → word_of f n ≡ word_of g n
unfolding word_of
word_of_ext f g zero h = refl
word_of_ext f g (suc n) h =
    ap₂ (λ (w : ℕ) (b : Bool). w + cond b (2 ^ n) 0) (word_of_ext f g n (λ i k. h i (omega arith))) (h n (omega arith))

digit : (x m : ℕ) → x < 2 → x * m ≡ cond (eqb x 1) m 0
digit zero m h = omega arith
digit (suc zero) m h = omega arith
digit (suc (suc x)) m h = absurd (omega arith)

low_bits : (w n : ℕ) → word_of (bit_of w) n ≡ w % 2 ^ n
unfolding word_of
low_bits w zero = sym (mod-one w)
low_bits w (suc n) =
    let e : w % 2 ^ suc n ≡ w / 2 ^ n % 2 * 2 ^ n + w % 2 ^ n = rw (← one-add n) (mod-pow-add w 1 n) in
    let d = digit (w / 2 ^ n % 2) (2 ^ n) (mod-lt (w / 2 ^ n) (zero-lt-suc 1)) in
    rw (low_bits w n) (omega (arith, e, d))

pub word_bits : (w n : ℕ) → w < 2 ^ n → word_of (bit_of w) n ≡ w
word_bits w n h = low_bits w n ∙ mod-eq_of_lt h

-- two words of the same bits are equal
pub same_bits : (v w n : ℕ) → v < 2 ^ n → w < 2 ^ n → ((i : ℕ) → i < n → bit_of v i ≡ bit_of w i) → v ≡ w
same_bits v w n hv hw h = sym (word_bits v n hv) ∙ word_of_ext (bit_of v) (bit_of w) n h ∙ word_bits w n hw

-- ## The operations on words, bit by bit

module _ (op : ℕ → ℕ → ℕ) (b : Bool → Bool → Bool)
    (shr : (v w k : ℕ) → op v w / 2 ^ k ≡ op (v / 2 ^ k) (w / 2 ^ k))
    (low : (v w k : ℕ) → op v w % 2 ^ k ≡ op (v % 2 ^ k) (w % 2 ^ k))
    (on-digits : (x y : ℕ) → x < 2 → y < 2 → eqb (op x y) 1 ≡ b (eqb x 1) (eqb y 1)) where
  bit_op : (v w i : ℕ) → bit_of (op v w) i ≡ b (bit_of v i) (bit_of w i)
  bit_op v w i =
      ap (λ (x : ℕ). eqb (x % 2) 1) (shr v w i) ∙ ap (λ (x : ℕ). eqb x 1) (low (v / 2 ^ i) (w / 2 ^ i) 1)
      ∙ on-digits (v / 2 ^ i % 2) (w / 2 ^ i % 2) (mod-lt (v / 2 ^ i) (zero-lt-suc 1)) (mod-lt (w / 2 ^ i) (zero-lt-suc 1))

and_digits : (x y : ℕ) → x < 2 → y < 2 → eqb (bit_and x y) 1 ≡ (eqb x 1 && eqb y 1)
and_digits zero y hx hy = refl
and_digits (suc zero) zero hx hy = refl
and_digits (suc zero) (suc zero) hx hy = refl
and_digits (suc zero) (suc (suc y)) hx hy = absurd (omega arith)
and_digits (suc (suc x)) y hx hy = absurd (omega arith)

or_digits : (x y : ℕ) → x < 2 → y < 2 → eqb (bit_or x y) 1 ≡ (eqb x 1 || eqb y 1)
or_digits zero y hx hy = refl
or_digits (suc zero) zero hx hy = refl
or_digits (suc zero) (suc zero) hx hy = refl
or_digits (suc zero) (suc (suc y)) hx hy = absurd (omega arith)
or_digits (suc (suc x)) y hx hy = absurd (omega arith)

xor_digits : (x y : ℕ) → x < 2 → y < 2 → eqb (bit_xor x y) 1 ≡ xor (eqb x 1) (eqb y 1)
unfolding xor
xor_digits zero zero hx hy = refl
xor_digits zero (suc zero) hx hy = refl
xor_digits zero (suc (suc y)) hx hy = absurd (omega arith)
xor_digits (suc zero) zero hx hy = refl
xor_digits (suc zero) (suc zero) hx hy = refl
xor_digits (suc zero) (suc (suc y)) hx hy = absurd (omega arith)
xor_digits (suc (suc x)) y hx hy = absurd (omega arith)

pub bit-and : (v w i : ℕ) → bit_of (bit_and v w) i ≡ (bit_of v i && bit_of w i)
bit-and = bit_op bit_and ◌&&◌ and_shr and_mod and_digits

pub bit-or : (v w i : ℕ) → bit_of (bit_or v w) i ≡ (bit_of v i || bit_of w i)
bit-or = bit_op bit_or ◌||◌ or_shr or_mod or_digits

pub bit-xor : (v w i : ℕ) → bit_of (bit_xor v w) i ≡ xor (bit_of v i) (bit_of w i)
bit-xor = bit_op bit_xor xor xor_shr xor_mod xor_digits

-- a word and its complement in n bits add up to all ones
complement : (t : ℕ → Bool) (n : ℕ) → word_of t n + word_of (λ i. not (t i)) n ≡ 2 ^ n - 1
unfolding word_of
complement t zero = omega arith
complement t (suc n) = go (t n) (complement t n)
  where
    go : (b : Bool) → word_of t n + word_of (λ i. not (t i)) n ≡ 2 ^ n - 1
        → word_of t n + cond b (2 ^ n) 0 + (word_of (λ i. not (t i)) n + cond (not b) (2 ^ n) 0) ≡ 2 ^ suc n - 1
    go true h = omega (arith, word_of_lt t n)
    go false h = omega (arith, word_of_lt t n)

-- a bit of the code's `!w` is the opposite of that bit of w
pub bit_not : (w i : ℕ) → w < 65536 → i < 16 → bit_of (65535 - w) i ≡ not (bit_of w i)
bit_not w i h k =
    let e : 65535 - w ≡ word_of (λ j. not (bit_of w j)) 16 = omega (arith, complement (bit_of w) 16, word_bits w 16 h) in
    rw e (bit_word_of (λ j. not (bit_of w j)) 16 i k)

-- ## The operations on words by their bits

pub and_word : (f g : ℕ → Bool) (n : ℕ) → bit_and (word_of f n) (word_of g n) ≡ word_of (λ i. f i && g i) n
and_word f g n =
    same_bits _ _ n (and_lt n _ _ (word_of_lt f n) (word_of_lt g n)) (word_of_lt _ n)
    (λ i k. bit-and (word_of f n) (word_of g n) i ∙ ap₂ ◌&&◌ (bit_word_of f n i k) (bit_word_of g n i k) ∙ sym (bit_word_of (λ j. f j && g j) n i k))

pub or_word : (f g : ℕ → Bool) (n : ℕ) → bit_or (word_of f n) (word_of g n) ≡ word_of (λ i. f i || g i) n
or_word f g n =
    same_bits _ _ n (or_lt n _ _ (word_of_lt f n) (word_of_lt g n)) (word_of_lt _ n)
    (λ i k. bit-or (word_of f n) (word_of g n) i ∙ ap₂ ◌||◌ (bit_word_of f n i k) (bit_word_of g n i k) ∙ sym (bit_word_of (λ j. f j || g j) n i k))

-- the code's `v & !w`, of words of at most sixteen bits, by their bits
pub less_word : (f g : ℕ → Bool) (n : ℕ) → n ≤ 16 → bit_and (word_of f n) (65535 - word_of g n) ≡ word_of (λ i. f i && not (g i)) n
less_word f g n h =
    let small : word_of g n < 65536 = lt_of_lt_of_le (word_of_lt g n) (pow_mono h) in
    same_bits _ _ n (lt_of_le_of_lt (and_le_l (word_of f n) (65535 - word_of g n)) (word_of_lt f n)) (word_of_lt _ n)
    (λ i k. bit-and (word_of f n) (65535 - word_of g n) i
    ∙ ap₂ ◌&&◌ (bit_word_of f n i k) (bit_not (word_of g n) i small (omega arith) ∙ ap not (bit_word_of g n i k))
    ∙ sym (bit_word_of (λ j. f j && not (g j)) n i k))

-- a number is below 2 to its own power, so it has that many bits at most
few_bits : (a : ℕ) → a < 2 ^ a
few_bits zero = omega arith
few_bits (suc a) = omega (arith, few_bits a)

-- the bits of a that v or w also has are those that v has and those that w has
pub and-or : (a v w : ℕ) → bit_and a (bit_or v w) ≡ bit_or (bit_and a v) (bit_and a w)
and-or a v w =
    let lt : (x : ℕ) → bit_and a x < 2 ^ a = λ x. lt_of_le_of_lt (and_le_l a x) (few_bits a) in
    same_bits _ _ a (lt (bit_or v w)) (or_lt a _ _ (lt v) (lt w))
    (λ i k. bit-and a (bit_or v w) i ∙ ap (λ (b : Bool). bit_of a i && b) (bit-or v w i) ∙ go (bit_of a i) (bit_of v i) (bit_of w i)
    ∙ sym (bit-or (bit_and a v) (bit_and a w) i ∙ ap₂ ◌||◌ (bit-and a v i) (bit-and a w i)))
  where
    go : (x y z : Bool) → (x && (y || z)) ≡ ((x && y) || (x && z))
    go true y z = refl
    go false y z = refl

-- one of two words has a bit if and only if they have one together
pub some_or : (v w : ℕ) → ltb 0 (bit_or v w) ≡ (ltb 0 v || ltb 0 w)
some_or zero w = ap (ltb 0) (or_zero_l w)
some_or (suc v) w =
    lt-ltb 0 (bit_or (suc v) w) (omega (arith, or_add_and (suc v) w, and_le_r (suc v) w))
    ∙ sym (ap (λ (b : Bool). b || ltb 0 w) (lt-ltb 0 (suc v) (omega arith)))

-- the bits of a that v also has are bits of a
pub and_inside : (a v : ℕ) → bit_and (bit_and a v) a ≡ bit_and a v
and_inside a v =
    same_bits _ _ a (lt_of_le_of_lt (and_le_r (bit_and a v) a) (few_bits a)) (lt_of_le_of_lt (and_le_l a v) (few_bits a))
    (λ i k. bit-and (bit_and a v) a i ∙ ap (λ (b : Bool). b && bit_of a i) (bit-and a v i) ∙ again (bit_of a i) (bit_of v i) ∙ sym (bit-and a v i))
  where
    again : (x y : Bool) → ((x && y) && x) ≡ (x && y)
    again true true = refl
    again true false = refl
    again false y = refl
