-- Sums of 64 bits, many at once. Document 02, L1: 64-bit sums, and 11 if one would pass them.
use Rattle.std.specs.Prelude.{ℕ, ◌+◌, Bool, List, leb, get_or}
use Rattle.bits.specs.Lists.{tabulate, all_from}

-- the most that a sum holds
abbrev pub most_sum : ℕ
most_sum = 18446744073709551615

-- the sums of n numbers and what is added to each
abbrev pub summed : (ℕ → ℕ) → (n : ℕ) → List ℕ → List ℕ
summed f n xs = tabulate (λ k. get_or xs k 0 + f k) n

-- none of them passes 64 bits
abbrev pub in_range : (ℕ → ℕ) → List ℕ → Bool
in_range f xs = all_from (λ k x. leb (x + f k) most_sum) 0 xs
