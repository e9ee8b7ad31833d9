-- The rows of an accepted file stand at its row places, and nowhere else: the file is the bytes before its first row, and whole rows.
use mathlib.Core.Path.{◌≡◌, refl, sym}
use mathlib.Core.Bool.{Bool, true, false, ◌&&◌}
use mathlib.Core.List.{List}
use Prim.Native.Nat.{ℕ, zero, suc, ◌+◌, ◌-◌, ◌*◌, ◌/◌, ◌%◌, ◌≤◌, ◌<◌}
use native.Mathlib.Nat.{add-zero, mul-suc, mul-zero}
use native.Mathlib.Omega.{arith}
use borrow.Author.Tests.{le-leb, lt-ltb, eq-eqb, leb-true, ltb-true, eqb-true}
use lib.Dec.{leb, ltb, eqb}
use lib.ListN.{length, get_or}
use Rattle.bits.specs.Numbers.{num_at}
use Rattle.bits.specs.Lists.{list_of}
use Rattle.settings.specs.declared.Row.{Row}
use Rattle.recording.specs.Answer.{Reading}
use Rattle.recording.specs.Step as T
use Rattle.layout.specs.declared.Kind.TheVariants.{Rows}
use Rattle.layout.specs.Entries.{row_at}
use Rattle.layout.specs.Sections.{width_of}
use Rattle.recording.specs.Reader.{reading}
use Rattle.recording.specs.Answers.{row_count_of, first_row, row_width}
use Rattle.recording.specs.Steps.{is_place, step_in, rows_in}
use Rattle.recording.specs.Refused.{ToEnd}
use Rattle.bits.proofs.Lists.{and_left, and_right}
use Rattle.exactness.proofs.Refusals.{said_or_accepted}
use Rattle.recording.proofs.Steps.{refusal_ended}

-- ## Entry i of those that are read one after the other

module _ {A : Type 0} where
  get_or-list_of : (get : ℕ → A) (w n at i : ℕ) (d : A) → i < n → get_or (list_of get w n at) i d ≡ get (at + w * i)
  get_or-list_of get w zero at i d h = absurd (omega arith)
  get_or-list_of get w (suc n) at zero d h = rw (mul-zero, add-zero)
  get_or-list_of get w (suc n) at (suc i) d h =
      let place : at + w + w * i ≡ at + w * suc i = omega (arith, mul-suc w i) in
      rw (← place) (get_or-list_of get w n (at + w) i d (omega arith))

-- ## Places, by arithmetic

place_yes : (first n i : ℕ) → i < n → is_place first (width_of Rows) (first + width_of Rows * n) (first + width_of Rows * i) ≡ true
place_yes first n i l =
    let at = first + width_of Rows * i in
    let z : (at - first) % width_of Rows ≡ 0 = omega arith in
    rw (le-leb first at (omega arith), lt-ltb at (first + width_of Rows * n) (omega arith), eq-eqb ((at - first) % width_of Rows) 0 z)

module _ (first n at : ℕ) (none : (i : ℕ) → i < n → at ≡ first + width_of Rows * i → ⊥) where
  abbrev end : ℕ
  end = first + width_of Rows * n

  nowhere : (b : Bool) → is_place first (width_of Rows) end at ≡ b → is_place first (width_of Rows) end at ≡ false
  nowhere false q = q
  nowhere true q =
      let both = and_left (leb first at && ltb at end) (eqb ((at - first) % width_of Rows) 0) q in
      let z = eqb-true ((at - first) % width_of Rows) 0 (and_right (leb first at && ltb at end) (eqb ((at - first) % width_of Rows) 0) q) in
      let lo = leb-true first at (and_left (leb first at) (ltb at end) both) in
      let hi = ltb-true at end (and_right (leb first at) (ltb at end) both) in
      absurd (none ((at - first) / width_of Rows) (omega (arith, z, lo, hi)) (omega (arith, z, lo)))

  place_no : is_place first (width_of Rows) end at ≡ false
  place_no = nowhere (is_place first (width_of Rows) end at) refl

-- ## For each way in which a reading can go

module _ (s : List ℕ) where
  abbrev place : Reading → ℕ → ℕ
  place x i = first_row x.answer + row_width x.answer * i

  rows_end : (e r : ℕ) → ToEnd s e r (length s) → length s ≡ r + 2 + width_of Rows * num_at 2 s r
  rows_end e r t = t.rows.next

  -- at a row's place stands the row
  abbrev There : Row → Reading → Type 0
  There d x = (i : ℕ) → i < row_count_of x.answer → step_in x.answer s (place x i) ≡ T.Row (get_or (rows_in x.answer s) i d) (place x (suc i))

  pub row_at_place : (d : Row) → There d (reading s)
  row_at_place d =
      said_or_accepted s (There d)
      (λ n p c i l. absurd (omega (arith, l)))
      (λ e r t i l.
      let next : r + 2 + width_of Rows * i + width_of Rows ≡ r + 2 + width_of Rows * suc i = omega arith in
      rw (place_yes (r + 2) (num_at 2 s r) i l, get_or-list_of (row_at (width_of Rows) s) (width_of Rows) (num_at 2 s r) (r + 2) i d l, next))

  -- the bytes of a row are there to be read, with the width of the table
  abbrev Within : Row → Reading → Type 0
  Within d x = (i : ℕ) → i < row_count_of x.answer
      → (place x i + row_width x.answer ≤ length s) × (row_at (row_width x.answer) s (place x i) ≡ get_or (rows_in x.answer s) i d) × (row_width x.answer ≡ width_of Rows)

  pub row_within : (d : Row) → Within d (reading s)
  row_within d =
      said_or_accepted s (Within d)
      (λ n p c i l. absurd (omega (arith, l)))
      (λ e r t i l. (omega (arith, rows_end e r t, l), sym (get_or-list_of (row_at (width_of Rows) s) (width_of Rows) (num_at 2 s r) (r + 2) i d l), refl))

  -- at a place that is no row's, the step has ended
  abbrev Elsewhere : ℕ → Reading → Type 0
  Elsewhere at x = ((i : ℕ) → i < row_count_of x.answer → at ≡ place x i → ⊥) → step_in x.answer s at ≡ T.Ended

  pub ended_elsewhere : (at : ℕ) → Elsewhere at (reading s)
  ended_elsewhere at =
      said_or_accepted s (Elsewhere at)
      (λ n p c none. sym (refusal_ended s at n p))
      (λ e r t none. rw (place_no (r + 2) (num_at 2 s r) at none))
