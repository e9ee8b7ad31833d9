-- A walk at a row's place gives that row and goes on to the next row's place; past the last row it has ended and stays.
-- So n steps from the start give the first n rows: by induction on n, where each step is one of these two.
use mathlib.Core.Path.{◌≡◌, refl, sym, ap, ◌∙◌}
use mathlib.Core.Bool.{Bool, true, false, cond}
use mathlib.Core.List.{List, [], ◌∷◌}
use Prim.Native.Nat.{ℕ, zero, suc, ◌+◌, ◌*◌, min, ◌≤◌, ◌<◌}
use native.Mathlib.Nat.{mul-zero, add-zero, zero-min}
use native.Mathlib.Omega.{arith}
use borrow.Author.Tests.{leb-true, leb-false}
use lib.Dec.{leb}
use lib.ListN.{take, drop, get_or, drop_of_length-le, get_or-eq_default}
use lib.Seq.{take-nil, drop-cons}
use denote.Ref.{Bor}
use Rattle.settings.specs.declared.Row.{Row}
use Rattle.recording.specs.Step.{Step}
use Rattle.recording.specs.Step as T
use Rattle.recording.specs.Reader.{reading}
use Rattle.recording.specs.Answers.{row_count_of, first_row, ended, step_row, next_place}
use Rattle.settings.specs.Zeros.{no_row}
use Rattle.layout.specs.declared.Kind.TheVariants.{Rows}
use Rattle.layout.specs.Sections.{width_of}
use Rattle.recording.specs.Steps.{row_place, rows_of}
use Rattle.exactness.proofs.Theorems.{row_at_its_place, row_in_the_file, ended_elsewhere}
use Rattle.exactness.proofs.Trips.{length-rows_of}
use Rattle.walk.specs.declared.Walk.{Walk}
use Rattle.walk.specs.Walks.{start_of, next_of, moved_on, nth_of, walked, with_row, given}

-- a step for which `ended` holds is the case Ended
has_ended : (x : Step) → ended x ≡ true → x ≡ T.Ended
has_ended (T.Row row next) e = cc
has_ended T.Ended e = refl

module _ (s : Bor (List ℕ)) where
  abbrev pub rows : List Row
  rows = rows_of s.now

  abbrev pub count : ℕ
  count = row_count_of (reading s.now).answer

  -- the walk at row i
  abbrev pub at_row : ℕ → Walk
  at_row i = record { bytes = s; place = row_place s.now i }

  -- ## One step

  -- rows have a width, so no row stands past the last
  past_all : (n : ℕ) → count ≤ n → (i : ℕ) → i < count → row_place s.now n ≡ row_place s.now i → ⊥
  past_all n h i l e =
      let first = first_row (reading s.now).answer in
      let same : first + width_of Rows * n ≡ first + width_of Rows * i = rw (row_in_the_file s.now i l).2 at e in
      omega (arith, same, h, l)

  ended_past : (n : ℕ) → count ≤ n → next_of (at_row n) ≡ T.Ended
  ended_past n h = has_ended (next_of (at_row n)) (ended_elsewhere s.now (row_place s.now n) (past_all n h))

  -- ## The step after n others, by whether a row is left

  -- the walk after n steps
  abbrev after : ℕ → Walk
  after n = at_row (min n count)

  step_ended : (n : ℕ) → leb count n ≡ true → next_of (after n) ≡ T.Ended
  step_ended n q =
      let l = leb-true count n q in
      let m : min n count ≡ count = omega (arith, l) in
      rw m (ended_past count (omega arith))

  row_is : (n : ℕ) → leb count n ≡ false → let x = next_of (after n) in
      (ended x ≡ false) × (step_row x ≡ get_or rows n no_row) × (next_place x ≡ row_place s.now (suc n))
  row_is n q =
      let l = leb-false count n q in
      let m : min n count ≡ n = omega (arith, l) in
      rw m (row_at_its_place s.now n l)

  moves : (n : ℕ) (b : Bool) → leb count n ≡ b → moved_on (after n) ≡ after (suc n)
  moves n true q =
      let l = leb-true count n q in
      let m : min n count ≡ min (suc n) count = omega (arith, l) in
      rw (step_ended n q, m)
  moves n false q =
      let l = leb-false count n q in
      let m : min (suc n) count ≡ suc n = omega (arith, l) in
      rw ((row_is n q).0, (row_is n q).2, m)

  pub ends : (n : ℕ) (b : Bool) → leb count n ≡ b → ended (next_of (after n)) ≡ leb count n
  ends n true q = rw (step_ended n q, q)
  ends n false q = rw ((row_is n q).0, q)

  pub row_of : (n : ℕ) (b : Bool) → leb count n ≡ b → step_row (next_of (after n)) ≡ get_or rows n no_row
  row_of n true q = rw (step_ended n q) (sym (get_or-eq_default rows no_row {n = n} (rw length-rows_of (leb-true count n q))))
  row_of n false q = (row_is n q).1

  -- the step after n others gives what stands at the place of row n
  same_step : (n : ℕ) (b : Bool) → leb count n ≡ b → next_of (after n) ≡ nth_of s.now n
  same_step n true q = step_ended n q ∙ sym (ended_past n (leb-true count n q))
  same_step n false q =
      let l = leb-false count n q in
      let m : min n count ≡ n = omega (arith, l) in
      rw m

  -- ## Several steps

  from_first : (start_of s).walk ≡ after 0
  from_first = rw (zero-min, mul-zero, add-zero)

  pub place_by : (n : ℕ) → walked n (start_of s).walk ≡ after n
  place_by zero = from_first
  place_by (suc n) = ap moved_on (place_by n) ∙ moves n (leb count n) refl

  pub nth_step : (n : ℕ) → next_of (walked n (start_of s).walk) ≡ nth_of s.now n
  nth_step n = ap next_of (place_by n) ∙ same_step n (leb count n) refl

  one_more : (n i : ℕ) (b : Bool) → leb count i ≡ b → given n (moved_on (after i)) ≡ take n (drop (suc i) rows) → given (suc n) (after i) ≡ take (suc n) (drop i rows)
  one_more n i true q h =
      let l = leb-true count i q in
      let none : drop i rows ≡ [] = drop_of_length-le rows {i = i} (rw length-rows_of l) in
      let none' : drop (suc i) rows ≡ [] = drop_of_length-le rows {i = suc i} (rw length-rows_of (omega (arith, l))) in
      ap (λ (x : Step). with_row x (given n (moved_on (after i)))) (step_ended i q) ∙ h ∙ rw (none, none') (take-nil n)
  one_more n i false q h =
      let l = leb-false count i q in
      let rest = given n (moved_on (after i)) in
      (λ j. cond ((row_is i q).0 j) rest ((row_is i q).1 j ∷ rest))
      ∙ ap {B = List Row} (λ (xs : List Row). get_or rows i no_row ∷ xs) h
      ∙ ap (take (suc n)) (sym (drop-cons rows i no_row (rw length-rows_of l)))

  rows-from : (n i : ℕ) → given n (after i) ≡ take n (drop i rows)
  rows-from zero i = refl
  rows-from (suc n) i = one_more n i (leb count i) refl (ap (given n) (moves i (leb count i) refl) ∙ rows-from n (suc i))

  pub rows_given : (n : ℕ) → given n (start_of s).walk ≡ take n rows
  rows_given n = ap (given n) from_first ∙ rows-from n 0
