-- One array holds the associations, delays, timers and first-outs of sixteen effects, in four parts. No entry point's contract cites
-- this page.
use Rattle.std.specs.Prelude.{◌≡◌, ℕ, List, take, drop, length}

-- each part has one entry an effect
abbrev pub part_length : ℕ
part_length = 16

abbrev pub array_length : ℕ
array_length = 64

-- where the parts begin
abbrev pub associations_at : ℕ
associations_at = 0

abbrev pub delays_at : ℕ
delays_at = 16

abbrev pub timers_at : ℕ
timers_at = 32

abbrev pub firsts_at : ℕ
firsts_at = 48

-- the part that begins at a place
unfoldable pub part : ℕ → List ℕ → List ℕ
part at array = take part_length (drop at array)

abbrev pub associations_in : List ℕ → List ℕ
associations_in array = part associations_at array

abbrev pub delays_in : List ℕ → List ℕ
delays_in array = part delays_at array

abbrev pub timers_in : List ℕ → List ℕ
timers_in array = part timers_at array

abbrev pub firsts_in : List ℕ → List ℕ
firsts_in array = part firsts_at array

-- the parts that the settings fill are the same in both arrays
pub record Same (array array' : List ℕ) : Type 0 where
  pub associations : associations_in array' ≡ associations_in array
  pub delays : delays_in array' ≡ delays_in array
  pub long : length array' ≡ array_length
