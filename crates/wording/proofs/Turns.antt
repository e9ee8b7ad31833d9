-- A loop that puts the text of one element of a list after the other.
use mathlib.Core.Path.{◌≡◌, refl, ap, ◌∙◌}
use mathlib.Core.List.{List, [], ◌∷◌, ◌++◌, append-nil, flat_map}
use Prim.Native.Nat.{ℕ, ◌+◌, ◌≤◌, ◌<◌}
use native.Mathlib.Omega.{arith}
use lib.ListN.{length, take, get_or}
use Rattle.std.proofs.lemmas.List.{take_more, take_all}
use Rattle.bits.proofs.Lists.{flat_map-append}
use Rattle.bits.proofs.Puts.{put_then}
use Rattle.wording.specs.Puts.{Puts}

module _ {A : Type 0} (text : A → List ℕ) (xs : List A) where
  -- the texts of the first i elements
  abbrev pub first : (i : ℕ) → List ℕ
  first i = flat_map text (take i xs)

  one_more : (i : ℕ) (d : A) → i < length xs → first (i + 1) ≡ first i ++ text (get_or xs i d)
  unfolding flat_map
  one_more i d h =
      ap (flat_map text) (take_more xs i d h)
      ∙ flat_map-append text (take i xs) (get_or xs i d ∷ [])
      ∙ ap (λ (l : List ℕ). first i ++ l) (append-nil (text (get_or xs i d)))

  -- before the first turn, after one more, and after the last
  pub none_put : (out : List ℕ) (at : ℕ) → Puts out at (first 0) at out
  unfolding flat_map
  none_put out at = (omega arith, refl)

  pub put_more : (out out₁ out₂ : List ℕ) (at next r i : ℕ) (d : A) → i < length xs → Puts out at (first i) next out₁ → Puts out₁ next (text (get_or xs i d)) r out₂
      → Puts out at (first (i + 1)) r out₂
  put_more out out₁ out₂ at next r i d h p q = rw (one_more i d h) (put_then out out₁ out₂ at next r (first i) (text (get_or xs i d)) p q)

  pub all_put : (i : ℕ) → length xs ≤ i → first i ≡ flat_map text xs
  all_put i h = ap (flat_map text) (take_all i xs h)
