-- Words of bits. Document 01, "Settings, row, state": bit 0 of a word is cause 1 or effect 1.
use Rattle.std.specs.Prelude.{◌≡◌, ℕ, zero, suc, ◌+◌, ◌-◌, ◌/◌, ◌%◌, ◌^◌, ◌<◌, Bool, cond, eqb, Option, MatchOption}
use Rattle.std.specs.Int.Bits.{bit_and}
use Rattle.std.specs.Int.Count.{count_trailing_zeros}

-- bit i of a word
abbrev pub bit_of : ℕ → ℕ → Bool
bit_of w i = eqb (w / 2 ^ i % 2) 1

-- the word of n bits whose bit i is t i
unfoldable pub word_of : (ℕ → Bool) → ℕ → ℕ
word_of t zero = 0
word_of t (suc n) = word_of t n + cond (t n) (2 ^ n) 0

-- 1 for true, 0 for false
abbrev pub one : Bool → ℕ
one b = cond b 1 0

-- what is taken from a word of sixteen bits where its set bits are gone over, and what is left of it: its lowest set bit, or nothing
-- where no bit is left
abbrev pub LowestOf : (word : ℕ) → Option ℕ → (left : ℕ) → Type 0
LowestOf word r left =
    MatchOption r ((word ≡ 0) × (left ≡ 0)) (λ i. (0 < word) × (i ≡ count_trailing_zeros 16 word) × (i < 16) × (left ≡ bit_and word (word - 1)))
