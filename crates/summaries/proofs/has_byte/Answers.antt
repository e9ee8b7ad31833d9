-- `summaries::has_byte` meets its contract: a byte that stands in a name stands before its end.
use Rattle.std.proofs.Common.{◌≡◌, ℕ, List, [], ◌∷◌, length, refl, ◌∙◌, cond, eqb, ltb, ◌||◌, false, true, Bool, suc}
use Prim.Native.Nat.compare
use Rattle.std.specs.List.{list_any}
use Rattle.summaries.specs.Summaries.{index_of, has}
use Rattle.summaries.proofs.has_byte.Goals as goal

found_by : (test : Bool) (byte : ℕ) (bs : List ℕ) → list_any (λ y. eqb y byte) bs ≡ has bs byte → (test || list_any (λ y. eqb y byte) bs) ≡ ltb (cond test 0 (suc (index_of byte bs))) (suc (length bs))
found_by true byte [] h = refl
found_by true byte (x ∷ xs) h = rw (compare.suc-suc, compare.zero-suc) refl
found_by false byte bs h = rw compare.suc-suc h

found : (byte : ℕ) (name : List ℕ) → list_any (λ y. eqb y byte) name ≡ has name byte
found byte [] = refl
found byte (b ∷ bs) = found_by (eqb b byte) byte bs (found byte bs)

pub returns : goal.returns
returns c = c.contains.ensures.value ∙ found c.args.byte c.args.name.now
