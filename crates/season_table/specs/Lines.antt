-- The table that `bin/season` prints, as bytes: fields with a space between. docs/FORMAT.md, "Season totals"; document 02, L1, asks for the
-- sums and has no word on a table. LF ends every line.
use Rattle.std.specs.Prelude.{ℕ, zero, suc, ◌+◌, List, [], ◌∷◌, ◌++◌, get_or}
use Rattle.bits.specs.Decimal.{ascii, decimal}
use Rattle.rules.specs.declared.EffectState.{EffectState}
use Rattle.rules.specs.declared.EffectState.TheVariants.{Tripped, WaitReset, Ready, WaitStart, Normal, Delayed}
use Rattle.rules.specs.Rules.{code}
use Rattle.text.specs.Text.{line_of}
use Rattle.tally.specs.Tally.{exercised_sum, state_sum, trip_sum}
use Rattle.season_table.specs.declared.Table.{Table}

-- the first line
unfoldable pub table_header : List ℕ
table_header = ascii "effect tripped wait-reset ready wait-start normal delayed trips\n"

-- in text: the scans after which the effect in slot i stood in a state, and its changes into Tripped
abbrev pub scans_text : (sums : List ℕ) (i : ℕ) → EffectState → List ℕ
scans_text sums i p = decimal (get_or sums (state_sum i (code p)) 0)

abbrev pub trips_text : (sums : List ℕ) (i : ℕ) → List ℕ
trips_text sums i = decimal (get_or sums (trip_sum i) 0)

-- the line of the effect in slot i: slots count from 0, and effects from 1
unfoldable pub effect_line : (sums : List ℕ) (i : ℕ) → List ℕ
effect_line sums i =
    line_of
    (decimal (i + 1) ∷ scans_text sums i Tripped ∷ scans_text sums i WaitReset ∷ scans_text sums i Ready ∷ scans_text sums i WaitStart ∷ scans_text sums i Normal ∷ scans_text sums i Delayed ∷ trips_text sums i ∷ [])

-- the lines of the first n effects
unfoldable pub effect_lines : (sums : List ℕ) (n : ℕ) → List ℕ
effect_lines sums zero = []
effect_lines sums (suc n) = effect_lines sums n ++ effect_line sums n

-- the last line
unfoldable pub closing_line : (recordings refused exercised : ℕ) → List ℕ
closing_line n m x =
    line_of (ascii "recordings" ∷ decimal n ∷ ascii "refused" ∷ decimal m ∷ ascii "exercised" ∷ decimal x ∷ [])

unfoldable pub table_text : Table → List ℕ
table_text t =
    table_header ++ effect_lines t.report.sums t.effects ++ closing_line t.recordings t.refused (get_or t.report.sums exercised_sum 0)
