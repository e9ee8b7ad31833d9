-- The bytes of a recording, and which settings and rows have one. Document 01, "Recordings".
use Rattle.std.specs.Prelude.{ℕ, ◌+◌, ◌*◌, ◌≤◌, ◌≡◌, length, take}
use mathlib.Core.List.{List, [], ◌∷◌, ◌++◌, flat_map}
use Rattle.bits.specs.Numbers.{digits}
use Rattle.settings.specs.declared.Effect.{Effect}
use Rattle.settings.specs.declared.Row.{Row}
use Rattle.settings.specs.declared.Settings.{Settings}
use Rattle.settings.specs.Right.{known_of, settings_number, row_number}
use Rattle.layout.specs.declared.Kind.TheVariants.{Effects, Rows}
use Rattle.layout.specs.Sections.{width_of, least_of, most_of}
use Rattle.layout.specs.Entries.{BlockEntry, put_block, put_effect, put_row}

abbrev pub block_of : Settings → BlockEntry
block_of st = record { causes = st.causes; options = st.options; period = st.period }

abbrev pub effects_of : Settings → List Effect
effects_of st = take st.count st.effects

-- a section: its 16-bit count, then its entries
abbrev pub counted : {A : Type 0} → (A → List ℕ) → List A → List ℕ
counted put xs = digits 2 (length xs) ++ flat_map put xs

-- the sections in a fixed order, and nothing after the last
unfoldable pub encode : Settings → List Row → List ℕ
encode st rows = counted put_block (block_of st ∷ []) ++ (counted put_effect (effects_of st) ++ counted put_row rows)

-- the opening piece, through the row count
unfoldable pub opening : Settings → (rows : ℕ) → List ℕ
opening st rows = counted put_block (block_of st ∷ []) ++ (counted put_effect (effects_of st) ++ digits 2 rows)

-- the opening's length, which is the first row's place: three counts and the block's entry take ten bytes, and then come the effects
abbrev pub opening_length : Settings → ℕ
opening_length st = 10 + width_of Effects * st.count

-- the bytes of the shortest recording and of the longest
abbrev pub least_length : ℕ
least_length = 40

abbrev pub most_length : ℕ
most_length = 49258

-- nothing refuses any element
abbrev pub All : {A : Type 0} → (A → ℕ) → List A → Type 0
All check [] = Unit {0}
All check (a ∷ xs) = (check a ≡ 0) × All check xs

-- valid settings and as many valid rows as a recording may have; the settings have sixteen slots, as the array in src/ has
pub record Right (st : Settings) (rows : List Row) : Type 0 where
  pub settings : settings_number st ≡ 0
  pub slots : length st.effects ≡ 16
  pub rows_least : least_of Rows ≤ length rows
  pub rows_most : length rows ≤ most_of Rows
  pub each_row : All (row_number (known_of st)) rows
