-- Document 01's recordings, and what the writer gives for one that was read. Document 01, "Recordings".
use Rattle.std.specs.Prelude.{ℕ, ◌≡◌, length}
use mathlib.Core.List.{List, ◌++◌, flat_map}
use Rattle.settings.specs.declared.Row.{Row}
use Rattle.settings.specs.declared.Settings.{Settings}
use Rattle.layout.specs.Entries.{put_row}
use Rattle.recording.specs.Reader.{reading}
use Rattle.recording.specs.Answers.{row_count_of}
use Rattle.recording.specs.Steps.{rows_of}
use Rattle.recording.specs.Encode.{encode, opening, Right}
use Rattle.writing.specs.Writer.{opening_after, row_after}

-- a recording: the bytes of valid settings and 1 to 2,048 valid rows, section by section, nothing after the last
abbrev pub Recording : List ℕ → Type 0
Recording s = (st : Settings) × (rows : List Row) × Right st rows × (encode st rows ≡ s)

-- the opening and then each row, as the writer leaves them in the buffers that it is lent, each just as long as its piece
abbrev pub written_back : (lent : ℕ → List ℕ) → List ℕ → List ℕ
written_back lent s =
    let st = (reading s).settings in
    let n = row_count_of (reading s).answer in
    opening_after st n (lent (length (opening st n))) ++ flat_map (λ row. row_after st row (lent (length (put_row row)))) (rows_of s)
