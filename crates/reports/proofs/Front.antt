-- Lines at the front of a buffer, and the room that they take.
use mathlib.Core.Path.{◌≡◌, refl, sym}
use mathlib.Core.Bool.{Bool, true, false, not}
use mathlib.Core.List.{List, ◌++◌, append_assoc}
use Prim.Native.Nat.{ℕ, zero, suc, ◌^◌, ◌≤◌, ◌<◌}
use native.Mathlib.Omega.{arith}
use borrow.Author.Tests.{eqb-true}
use lib.Dec.{eqb}
use lib.ListN.{length, length-append}
use lib.Seq.{sets, length-sets}
use Rattle.bits.specs.Decimal.{ascii}
use Rattle.bits.proofs.Decimal.{length-decimal, length_of_64_bits}
use Rattle.text.specs.Pieces.{total}
use Rattle.bits.proofs.Puts.{Put}
use Rattle.text.proofs.Room.{refusal_at_most}
use Rattle.findings.specs.declared.Finding.{Finding}
use Rattle.findings.specs.Answer.{Explained}
use Rattle.settings.proofs.Refusals.{granted_none, granted_refused}
use Rattle.sentences.specs.Sentences.{sentence}
use Rattle.reports.specs.Reports.{heading, accepted_line, refused_line, refused_at, refused_why, explained_line, most_name, most_report}

-- a line that was put at the front, and the place after it is inside
pub front : (l l' : List ℕ) (r : ℕ) (line : List ℕ) → Put l l' 0 r line → length line ≤ length l → ((r ≡ length line) × (l' ≡ sets l 0 line)) × (r ≤ length l')
front l l' r line p h = ((omega (arith, p.0), p.1), rw (p.1, length-sets) (omega (arith, p.0, h)))

pub front-within : (l l' : List ℕ) (r : ℕ) (line : List ℕ) → Put l l' 0 r line → r ≤ length l → ((r ≡ length line) × (l' ≡ sets l 0 line)) × (r ≤ length l')
front-within l l' r line p h = front l l' r line p (omega (arith, p.0, h))

pub heading_at_most : (name : List ℕ) → length name ≤ most_name → length (heading name) ≤ most_report
heading_at_most name h = simp length-append (omega (arith, h))

pub accepted_at_most : (name : List ℕ) (rows : ℕ) → length name ≤ most_name → rows < 2 ^ 16 → length (accepted_line name rows) ≤ most_report
accepted_at_most name rows h r = simp length-append (omega (arith, h, length-decimal 4 rows (omega (arith, r))))

pub refused_at_most : (name : List ℕ) (number place : ℕ) → length name ≤ most_name → number < 256 → place < 2 ^ 64 → length (refused_line name number place) ≤ most_report
refused_at_most name number place h n p = simp length-append (omega (arith, h, refusal_at_most number place n p))

-- what stands between the name and the words of a refusal, and the line with them
pub short_number : (n : ℕ) → n < 256 → length (total (ascii ": refused") n 32) ≤ 14
unfolding total
short_number n h = simp length-append (omega (arith, length-decimal 2 n (omega arith)))

pub short_place : (p : ℕ) → p < 2 ^ 64 → length (total (ascii "at") p 58) ≤ 24
unfolding total
short_place p h = simp length-append (omega (arith, length_of_64_bits p h))

pub why_pieces : (name : List ℕ) (n p : ℕ) (finding : Finding) → refused_why name n p finding ≡ name ++ refused_at n p ++ sentence finding ++ ascii "\n"
unfolding refused_why refused_at total
why_pieces name n p finding = sym (simp append_assoc)

module _ (name : List ℕ) (e : Explained) where
  pub explained_accepted : e.number ≡ 0 → explained_line name e ≡ accepted_line name e.rows
  unfolding explained_line
  explained_accepted h = granted_none (accepted_line name e.rows) (λ (n : ℕ). refused_why name n e.place e.finding) e.number h

  pub explained_refused : (e.number ≡ 0 → ⊥) → explained_line name e ≡ refused_why name e.number e.place e.finding
  unfolding explained_line
  explained_refused h = granted_refused (accepted_line name e.rows) (λ (n : ℕ). refused_why name n e.place e.finding) e.number h

-- 0 refuses nothing, and any other number refuses
pub told_none : (n : ℕ) → false ≡ not (eqb n 0) → n ≡ 0
told_none n h = go (eqb n 0) refl
  where
    go : (b : Bool) → eqb n 0 ≡ b → n ≡ 0
    go true e = eqb-true n 0 e
    go false e = (cc)

pub told_some : (n : ℕ) → true ≡ not (eqb n 0) → n ≡ 0 → ⊥
told_some zero h e = (cc)
told_some (suc k) h e = omega (arith, e)
