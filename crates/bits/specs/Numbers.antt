-- A number of w bytes, the highest first: read at a place of a list of bytes, and written as a list. Document 01, "Recordings"
-- and "The rules of one scan": big-endian.
use Rattle.std.specs.Prelude.{ℕ, zero, suc, ◌+◌, ◌*◌, ◌/◌, ◌%◌, ◌^◌, ◌<◌, List, [], ◌∷◌, get_or}

-- every element is a byte. This holds of every slice of bytes: the contract of `exactness::each_is_a_byte` says so of whatever is lent
abbrev pub Bytes : List ℕ → Type 0
Bytes s = (i : ℕ) → get_or s i 0 < 256

-- the number that the w bytes from `at` spell
abbrev pub num_at : ℕ → List ℕ → ℕ → ℕ
num_at zero s at = 0
num_at (suc w) s at = get_or s at 0 * 256 ^ w + num_at w s (at + 1)

-- the w bytes of v, which is below 256 ^ w
abbrev pub digits : ℕ → ℕ → List ℕ
digits zero v = []
digits (suc w) v = v / 256 ^ w ∷ digits w (v % 256 ^ w)
