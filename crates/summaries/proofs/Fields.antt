-- The field of a name, and the pieces of a line.
use mathlib.Core.Path.{◌≡◌, sym, ap, ◌∙◌}
use mathlib.Core.Bool.{Bool, true, false, cond}
use mathlib.Core.List.{List, [], ◌∷◌, ◌++◌, append_assoc, append-nil, flat_map}
use Prim.Native.Nat.{ℕ, ◌^◌, ◌≤◌, ◌<◌}
use native.Mathlib.Omega.{arith}
use lib.ListN.{length, length-append}
use lib.Seq.{sets}
use Rattle.bits.specs.Decimal.{ascii, decimal}
use Rattle.bits.proofs.Decimal.{length_of_64_bits}
use Rattle.bits.proofs.Puts.{Put}
use Rattle.rerun.specs.declared.Replayed.{Replayed}
use Rattle.summaries.specs.Summaries.{is_quoted, quoted, field, three, numbers, summary_line, most_number}

-- a piece that was put at the front
pub at_front : (l l' : List ℕ) (r : ℕ) (piece : List ℕ) → (r ≡ length piece) × (l' ≡ sets l 0 piece) → Put l l' 0 r piece
at_front l l' r piece p = (omega (arith, p.0), p.1)

-- a name as a field, by whether it has to stand in quotes
module _ (name : List ℕ) (q : Bool) (asked : q ≡ is_quoted name) where
  pub field_quoted : q ≡ true → field name ≡ quoted name
  unfolding field
  field_quoted is = ap (λ (b : Bool). cond b (quoted name) name) (sym asked ∙ is)

  pub field_plain : q ≡ false → field name ≡ name
  unfolding field
  field_plain is = ap (λ (b : Bool). cond b (quoted name) name) (sym asked ∙ is)

-- a number, and a comma behind it
abbrev pub comma : ℕ → List ℕ
comma v = decimal v ++ ascii ","

-- the fields behind the name: those with a comma behind each, and the last
pub numbers_pieces : (r : Replayed) → numbers r ≡ flat_map comma (r.number ∷ r.place ∷ r.rows ∷ r.scans ∷ r.live ∷ r.exercised ∷ []) ++ (decimal r.records ++ ascii "\n")
unfolding numbers three flat_map
numbers_pieces r = sym (simp (append_assoc, append-nil))

-- a number with the byte behind it
pub number_at_most : (v end : ℕ) → v < 2 ^ 64 → length (decimal v ++ (end ∷ [])) ≤ most_number
number_at_most v end h = simp length-append (omega (arith, length_of_64_bits v h))

pub summary_pieces : (name : List ℕ) (r : Replayed) → summary_line name r ≡ field name ++ ascii "," ++ numbers r
unfolding summary_line numbers three
summary_pieces name r = sym (simp append_assoc)
