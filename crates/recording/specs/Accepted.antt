-- What is said of a file that the reader accepts. Document 01, "Recordings".
use Rattle.std.specs.Prelude.{ℕ, ◌≡◌, List, length}
use Rattle.settings.specs.declared.Row.{Row}
use Rattle.settings.specs.declared.Settings.{Settings}
use Rattle.layout.specs.declared.Kind.TheVariants.{Rows}
use Rattle.layout.specs.Sections.{width_of}
use Rattle.recording.specs.Encode.{opening_length}
use Rattle.recording.specs.Reader.{reading}
use Rattle.recording.specs.Answers.{number, row_count_of, first_row, row_width}
use Rattle.recording.specs.Steps.{rows_of}

-- the reader accepts
abbrev pub Accepted : List ℕ → Type 0
Accepted s = number (reading s).answer ≡ 0

-- the answer has these settings and these rows, where the first row stands, and how long a row is
abbrev pub Answers : List ℕ → Settings → List Row → Type 0
Answers s st rows =
    Accepted s
    × ((reading s).settings ≡ st)
    × (row_count_of (reading s).answer ≡ length rows)
    × (first_row (reading s).answer ≡ opening_length st)
    × (row_width (reading s).answer ≡ width_of Rows)
    × (rows_of s ≡ rows)
