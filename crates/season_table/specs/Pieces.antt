-- Pieces of a table as the code writes them, and the room that they take.
use Rattle.std.specs.Prelude.{ℕ, zero, suc, ◌+◌, ◌*◌, ◌≤◌, List, [], ◌++◌, get_or, length}
use Rattle.bits.specs.Decimal.{ascii, decimal}
use Rattle.rules.specs.Limits.{most_effects}
use Rattle.tally.specs.Tally.{sums_of_effect, state_sum}
use Rattle.season_table.specs.declared.Table.{Table}

-- ## Pieces

-- a space and a number
abbrev pub spaced : ℕ → List ℕ
spaced v = ascii " " ++ decimal v

-- the first n sums of the effect in slot i, a space before each
unfoldable pub sums_text : (sums : List ℕ) (i n : ℕ) → List ℕ
sums_text sums i zero = []
sums_text sums i (suc n) = sums_text sums i n ++ spaced (get_or sums (state_sum i n) 0)

-- ## The most bytes

-- of the first line
abbrev pub most_header : ℕ
most_header = 64

-- of a space and a number of 64 bits
abbrev pub most_spaced : ℕ
most_spaced = 1 + 20

-- of an effect's line: its number has at most 2 digits, and LF is the last byte
abbrev pub most_effect_line : ℕ
most_effect_line = 2 + most_spaced * sums_of_effect + 1

-- of the last line: three words, of 26 letters, each before a space, a number and a byte
abbrev pub most_closing : ℕ
most_closing = 26 + 3 * (most_spaced + 1)

abbrev pub most_table : ℕ
most_table = most_header + most_effect_line * most_effects + most_closing

-- a table whose effects are within the report, and room for its text
abbrev pub Shown : Table → (out : List ℕ) → Type 0
Shown t out = (t.effects ≤ most_effects) × (most_table ≤ length out)
