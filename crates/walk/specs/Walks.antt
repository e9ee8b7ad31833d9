-- A walk over a recording. Document 01, "Recordings": it holds the lent bytes and its place, and gives one row at a time.
-- The reader's answer (`reading`) and what stands at a place (`step_at`) are definitions of `recording`, whose page Answers
-- gives the refusal number, place and row of each case.
use Rattle.std.specs.Prelude.{ℕ, zero, suc, cond, List, [], ◌∷◌}
use Rattle.std.specs.Borrow.{Bor}
use Rattle.settings.specs.declared.Row.{Row}
use Rattle.recording.specs.Step.{Step}
use Rattle.recording.specs.Reader.{reading}
use Rattle.recording.specs.Answers.{first_row, ended, step_row, next_place}
use Rattle.recording.specs.Steps.{step_at, row_place}
use Rattle.walk.specs.declared.Walk.{Walk}
use Rattle.walk.specs.Started.{Started}

-- the place after the row; where the step has ended, the place stays
abbrev pub place_after : Step → ℕ → ℕ
place_after step place = cond (ended step) place (next_place step)

-- ## The walk

-- the reader's answer, and the walk at the first row, or at 0, where no row stands
abbrev pub start_of : Bor (List ℕ) → Started
start_of s = record { answer = (reading s.now).answer; walk = record { bytes = s; place = first_row (reading s.now).answer } }

-- the row at the walk's place, or ended
abbrev pub next_of : Walk → Step
next_of w = step_at w.bytes.now w.place

-- the walk on the same lent bytes, at the place after its row
abbrev pub moved_on : Walk → Walk
moved_on w = record { bytes = w.bytes; place = place_after (next_of w) w.place }

-- ## Several steps

-- what stands at the place of row n
abbrev pub nth_of : List ℕ → (n : ℕ) → Step
nth_of s n = step_at s (row_place s n)

-- the walk after n steps
abbrev pub walked : (n : ℕ) → Walk → Walk
walked zero w = w
walked (suc n) w = moved_on (walked n w)

-- the rows that n steps give, in their order; a step that has ended gives none
abbrev pub with_row : Step → List Row → List Row
with_row step rows = cond (ended step) rows (step_row step ∷ rows)

abbrev pub given : (n : ℕ) → Walk → List Row
given zero w = []
given (suc n) w = with_row (next_of w) (given n (moved_on w))
