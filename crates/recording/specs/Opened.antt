-- A recording that the reader accepts, as the code carries it.
use Rattle.std.specs.Prelude.{ℕ, ◌≡◌, List, Ok}
use Rattle.recording.specs.declared.Recording.{Recording}
use Rattle.recording.specs.Answer.{as_reading}
use Rattle.recording.specs.Reader.{reading}

-- the reader accepts these bytes, and answers this
abbrev pub IsRead : Recording → List ℕ → Type 0
IsRead file s = as_reading (Ok file) ≡ reading s
