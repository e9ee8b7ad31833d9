-- What is promised of a walk, beside its contracts. Document 01, "Recordings".
-- `start_of` is what `start` returns, `next_of` and `moved_on` what `next` returns and leaves, `nth_of` what `nth` returns, by the
-- contracts in src/.
use mathlib.Core.Path.{◌≡◌, refl, sym, ap, ◌∙◌}
use mathlib.Core.Bool.{true}
use mathlib.Core.List.{List}
use Prim.Native.Nat.{ℕ, min, ◌<◌}
use native.Mathlib.Omega.{arith}
use lib.Dec.{leb}
use lib.ListN.{take, get_or}
use lib.Seq.{take_all}
use denote.Ref.{Bor}
use Rattle.recording.specs.Answer.{Reading}
use Rattle.recording.specs.Reader.{reading}
use Rattle.recording.specs.Answers.{number, place, row_count_of, first_row, ended, step_row}
use Rattle.settings.specs.Zeros.{no_row}
use Rattle.recording.specs.Steps.{step_in, step_at, row_place, rows_of}
use Rattle.recording.proofs.Steps.{refusal_ended}
use Rattle.recording.specs.Refused.{Refused}
use Rattle.recording.specs.Accepted.{Accepted}
use Rattle.exactness.proofs.Theorems.{ended_elsewhere, refused_as_said}
use Rattle.exactness.proofs.Trips.{length-rows_of}
use Rattle.walk.specs.declared.Walk.{Walk}
use Rattle.walk.specs.Walks.{start_of, next_of, moved_on, nth_of, walked, given}
use Rattle.walk.proofs.Rows.{count, ends, row_of, place_by, nth_step, rows_given}

-- ## From the start

-- n steps give the first n of the recording's rows, in order. The step after them has ended exactly if they gave all rows of the
-- recording, and gives row n otherwise; the walk then stands past the rows that were given. This holds of any bytes: where the
-- reader refuses, the row count and the place are 0.
pub walk_gives_the_rows : (s : Bor (List ℕ)) (n : ℕ) → let w = (start_of s).walk in let a = (reading s.now).answer in
    (given n w ≡ take n (rows_of s.now))
    × (ended (next_of (walked n w)) ≡ leb (row_count_of a) n)
    × (step_row (next_of (walked n w)) ≡ get_or (rows_of s.now) n no_row)
    × (walked n w ≡ record { bytes = s; place = row_place s.now (min n (row_count_of a)) })
walk_gives_the_rows s n = (
  rows_given s n,
  ap (λ (w : Walk). ended (next_of w)) (place_by s n) ∙ ends s n (leb (count s) n) refl,
  ap (λ (w : Walk). step_row (next_of w)) (place_by s n) ∙ row_of s n (leb (count s) n) refl,
  place_by s n,
)

-- as many steps as the recording has rows give them all
pub walk_gives_all_rows : (s : Bor (List ℕ)) → given (row_count_of (reading s.now).answer) (start_of s).walk ≡ rows_of s.now
walk_gives_all_rows s = rows_given s (count s) ∙ take_all (count s) (rows_of s.now) (omega (arith, length-rows_of s.now))

-- `nth` gives what the walk gives after n other steps
pub nth_of_the_walk : (s : Bor (List ℕ)) (n : ℕ) → nth_of s.now n ≡ next_of (walked n (start_of s).walk)
nth_of_the_walk s n = sym (nth_step s n)

-- ## Ended

-- a walk that has ended keeps its place, so it has ended for good
pub ended_stays : (w : Walk) → ended (next_of w) ≡ true → moved_on w ≡ w
ended_stays w e = rw e

-- a walk whose place is no row's first byte has ended
pub walk_elsewhere_has_ended : (w : Walk) → let a = (reading w.bytes.now).answer in
    ((i : ℕ) → i < row_count_of a → w.place ≡ row_place w.bytes.now i → ⊥) → ended (next_of w) ≡ true
walk_elsewhere_has_ended w none = ended_elsewhere w.bytes.now w.place none

-- a walk whose bytes the reader refuses has ended
pub walk_on_refused_has_ended : (w : Walk) → (Accepted w.bytes.now → ⊥) → ended (next_of w) ≡ true
unfolding step_at
walk_on_refused_has_ended w h =
    let s = w.bytes.now in
    let a = (reading s).answer in
    ap (λ (x : Reading). ended (step_in x.answer s w.place)) (refused_as_said s h).0 ∙ sym (ap ended (refusal_ended s w.place (number a) (place a)))

-- on bytes that the reader refuses, `start` gives the refusal, and a walk at 0
pub start_on_refused : (s : Bor (List ℕ)) → (Accepted s.now → ⊥) → let z = start_of s in let a = (reading s.now).answer in
    (z.answer ≡ a) × Refused s.now (number a) (place a) × (z.walk ≡ record { bytes = s; place = 0 })
start_on_refused s h =
    let e = refused_as_said s.now h in
    (refl, e.1, ap {B = Walk} (λ (x : Reading). record { bytes = s; place = first_row x.answer }) e.0)
