-- Which section a place stands in.
use mathlib.Core.Path.{◌≡◌, sym, ap, ◌∙◌}
use mathlib.Core.List.{List}
use Prim.Native.Nat.{ℕ, ◌≤◌, ◌<◌}
use mathlib.Core.Bool.{false}
use lib.Dec.{ltb}
use borrow.Author.Tests.{lt-ltb, le-ltb}
use Rattle.layout.specs.declared.Kind.TheVariants.{Block, Effects, Rows}
use Rattle.findings.specs.declared.Spot.TheVariants.{Past}
use Rattle.findings.specs.Spots.{after_section, section_at, end_of, spot_in, spot_of}

-- ## Where a place stands, section by section

module _ (s : List ℕ) (p e : ℕ) (e-is : e ≡ section_at Effects s) where
  pub in_block : p < e → spot_of s p ≡ spot_in Block 0 p
  unfolding spot_of
  in_block l = rw (lt-ltb p (section_at Effects s) (rw e-is at l))

  module _ (r : ℕ) (r-is : r ≡ after_section Effects s e) (g : e ≤ p) where
    not_block : ltb p (section_at Effects s) ≡ false
    not_block = le-ltb p (section_at Effects s) (rw e-is at g)

    rows_at : r ≡ section_at Rows s
    rows_at = r-is ∙ ap (after_section Effects s) e-is

    pub in_effects : p < r → spot_of s p ≡ spot_in Effects e p
    unfolding spot_of
    in_effects l = rw (not_block, lt-ltb p (section_at Rows s) (rw rows_at at l)) (ap (λ (x : ℕ). spot_in Effects x p) (sym e-is))

    module _ (end : ℕ) (end_is : end ≡ after_section Rows s r) (h : r ≤ p) where
      not_effects : ltb p (section_at Rows s) ≡ false
      not_effects = le-ltb p (section_at Rows s) (rw rows_at at h)

      ends_at : end ≡ end_of s
      ends_at = end_is ∙ ap (after_section Rows s) rows_at

      pub in_rows : p < end → spot_of s p ≡ spot_in Rows r p
      unfolding spot_of
      in_rows l = rw (not_block, not_effects, lt-ltb p (end_of s) (rw ends_at at l)) (ap (λ (x : ℕ). spot_in Rows x p) (sym rows_at))

      pub past : end ≤ p → spot_of s p ≡ Past
      unfolding spot_of
      past l = rw (not_block, not_effects, le-ltb p (end_of s) (rw ends_at at l))
