-- What stands at a place: a row and the place after it, or nothing. Document 01, "Recordings".
use Rattle.std.specs.Prelude.{ℕ, Option, Some, None}
use Rattle.settings.specs.declared.Row.{Row as RowWords}
use Rattle.recording.specs.declared.RowAt.{RowAt}

pub data Step : Type 0 where
  Row : (row : RowWords) (next : ℕ) → Step
  Ended : Step

-- what the code answers, as that
abbrev pub as_step : Option RowAt → Step
as_step (Some r) = Row r.row r.next
as_step None = Ended
