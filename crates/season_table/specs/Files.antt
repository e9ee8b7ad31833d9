-- What a table shows of files: the report over them, and what is counted beside it. docs/FORMAT.md, "Season totals"; document 02, L1, asks
-- for the report.
use Rattle.std.specs.Prelude.{ℕ, ◌+◌, max, ◌≡◌, List, [], ◌∷◌, Option, None, Some}
use Rattle.settings.specs.Refusals.{granted}
use Rattle.season.specs.declared.Added.{Added as Grown}
use Rattle.season.specs.Answer.{Added}
use Rattle.season.specs.Season.{empty, added_to}
use Rattle.season_table.specs.declared.Table.{Table}

-- no file yet
abbrev pub empty_table : Table
empty_table = record { report = empty; effects = 0; recordings = 0; refused = 0 }

-- one file more: it was added to the report, and the lines go up to the largest effect count of those that were
abbrev pub with_added : Table → Added → Table
with_added t a = record { report = a.report; effects = max t.effects a.effects; recordings = t.recordings + 1; refused = t.refused }

-- or it was refused
abbrev pub with_refused : Table → Table
with_refused t = record { report = t.report; effects = t.effects; recordings = t.recordings; refused = t.refused + 1 }

-- what is told of a file stands for the answers that have it: the recording that was added, or that the file was refused, by any number
abbrev pub StandsFor : Option Grown → Added → Type 0
StandsFor (Some g) a = (a.number ≡ 0) × (a.effects ≡ g.effects) × (a.report ≡ g.report)
StandsFor None a = a.number ≡ 0 → ⊥

unfoldable pub with_file : Table → Added → Table
with_file t a = granted a.number (with_added t a) (λ n. with_refused t)

-- all files, one after the other
abbrev pub table_from : Table → List (List ℕ) → Table
table_from t [] = t
table_from t (s ∷ ss) = table_from (with_file t (added_to t.report s)) ss

-- a table is that over some files
pub record Over (t : Table) : Type 0 where
  pub files : List (List ℕ)
  pub shows : t ≡ table_from empty_table files

-- how many files a table shows
abbrev pub files_of : Table → ℕ
files_of t = t.recordings + t.refused
