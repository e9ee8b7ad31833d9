-- The listing of a file: what the program prints. Document 01, "One session, whole".
use Rattle.std.specs.Prelude.{ℕ, List, ◌++◌}
use Rattle.settings.specs.Refusals.{granted}
use Rattle.recording.specs.Answer.{Answer}
use Rattle.recording.specs.Answers.{number, place}
use Rattle.recording.specs.Reader.{reading}
use Rattle.rerun.specs.declared.Replayed.{Replayed}
use Rattle.rerun.specs.Replay.{Outcome, replay, answered}
use Rattle.text.specs.Text.{header, lines, last_line, refusal_line}

-- what stands behind the records' lines: the last line; or, after a refusal, the line of the refusal, and no last line
unfoldable pub closing : Replayed → List ℕ
closing r =
    granted r.number (last_line r.rows r.scans r.live r.exercised) (λ n. refusal_line n r.place)

-- a refused file has only the line of its refusal; any other has a header, the lines of its records, and the closing
abbrev pub listed_as : (header lines : List ℕ) → Answer → Outcome → List ℕ
listed_as header lines a o = granted (number a) (header ++ lines ++ closing (answered o)) (λ n. refusal_line n (place a))

unfoldable pub listing : List ℕ → List ℕ
listing s = listed_as header (lines (replay s).replay.events) (reading s).answer (replay s)
