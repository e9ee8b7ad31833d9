-- What stands at a place, by the cases of the definition.
use mathlib.Core.Path.{◌≡◌, sym, ap, ◌∙◌}
use mathlib.Core.Bool.{Bool, true, false, ◌&&◌}
use mathlib.Core.List.{List}
use Prim.Native.Nat.{ℕ, ◌+◌, ◌*◌, ◌-◌, ◌%◌, ◌≤◌, ◌<◌}
use native.Mathlib.Omega.{arith}
use borrow.Author.Tests.{le-leb, le-ltb, leb-true, ltb-true, eqb-true}
use lib.Dec.{leb, ltb, eqb}
use lib.ListN.{length}
use Rattle.bits.proofs.Lists.{and_left, and_right}
use Rattle.layout.specs.declared.Kind.TheVariants.{Rows}
use Rattle.layout.specs.Entries.{row_at}
use Rattle.layout.specs.Sections.{width_of}
use Rattle.recording.specs.Answer as A
use Rattle.recording.specs.Answer.{Reading}
use Rattle.recording.specs.Step as T
use Rattle.recording.specs.Reader.{reading}
use Rattle.recording.specs.Steps.{is_place, step_in, step_at}
use Rattle.recording.proofs.Cases.{accepted_width, accepted_end}

-- bytes that are refused have no rows
pub refusal_ended : (s : List ℕ) (at k p : ℕ) → T.Ended ≡ step_in (A.Refused k p) s at
refusal_ended s at k p = rw (le-leb 0 at (omega arith), le-ltb at 0 (omega arith))

module _ (s : List ℕ) (at : ℕ) (x : Reading) (is : x ≡ reading s) where
  pub step_refused : (k p : ℕ) → x.answer ≡ A.Refused k p → T.Ended ≡ step_at s at
  unfolding step_at
  step_refused k p h = rw (← is, h) (refusal_ended s at k p)

  module _ (n first width : ℕ) (h : x.answer ≡ A.Accepted n first width) where
    said : (reading s).answer ≡ A.Accepted n first width
    said = ap (λ (y : Reading). y.answer) (sym is) ∙ h

    pub step_width : 0 < width
    step_width = omega (arith, accepted_width s n first width said)

    -- the file ends with its rows
    ends : length s ≡ first + width * n
    ends = rw (accepted_width s n first width said) (accepted_end s n first width said)

    module _ (b : Bool) (ib : b ≡ is_place first width (length s) at) where
      is-there : b ≡ is_place first width (first + width * n) at
      is-there = ib ∙ ap (λ (end : ℕ). is_place first width end at) ends

      pub step_between : b ≡ false → T.Ended ≡ step_at s at
      unfolding step_at
      step_between l = rw (← is, h, ← is-there, l)

      pub step_row : b ≡ true → T.Row (row_at width s at) (at + width) ≡ step_at s at
      unfolding step_at
      step_row l = rw (← is, h, ← is-there, l)

      -- the row's bytes are in the file
      pub step_within : b ≡ true → (width_of Rows ≤ width) × (at + width ≤ length s)
      step_within l =
          let q = sym ib ∙ l in
          let wide = accepted_width s n first width said in
          let both = and_left (leb first at && ltb at (length s)) (eqb ((at - first) % width) 0) q in
          let z : (at - first) % width_of Rows ≡ 0 = rw wide at (eqb-true ((at - first) % width) 0 (and_right (leb first at && ltb at (length s)) (eqb ((at - first) % width) 0) q)) in
          let lo = leb-true first at (and_left (leb first at) (ltb at (length s)) both) in
          let hi = ltb-true at (length s) (and_right (leb first at) (ltb at (length s)) both) in
          (omega (arith, wide), omega (arith, wide, z, lo, hi, accepted_end s n first width said))
