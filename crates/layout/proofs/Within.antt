-- A row is read from a part of the file. If the part has as many bytes as a row needs, or more, each field is the number at its place of
-- the file.
use mathlib.Core.Path.{◌≡◌, refl, ap, ◌∙◌}
use mathlib.Core.List.{List}
use Prim.Native.Nat.{ℕ, zero, suc, ◌+◌, ◌-◌, ◌≤◌}
use native.Mathlib.Nat.{add_assoc, add-suc, add-zero}
use native.Mathlib.Omega.{arith}
use lib.ListN.{take, drop}
use lib.Seq.{get_or-take, get_or-drop}
use Rattle.bits.specs.Numbers.{num_at}
use Rattle.settings.specs.declared.Words.{Words}
use Rattle.layout.specs.declared.Kind.TheVariants.{Rows}
use Rattle.layout.specs.Entries.{words_at, row_in, row_at}
use Rattle.layout.specs.Sections.{width_of}

-- ## Numbers in a part of a list

-- at its front
pub num_front : (m w : ℕ) (s : List ℕ) (at : ℕ) → at + w ≤ m → num_at w (take m s) at ≡ num_at w s at
num_front m zero s at h = refl
num_front m (suc w) s at h = rw (get_or-take m s at 0 (omega (arith, add-suc at w)), num_front m w s (at + 1) (omega (arith, add-suc at w)))

-- past its first elements
num_past : (w : ℕ) (s : List ℕ) (at off : ℕ) → num_at w (drop at s) off ≡ num_at w s (at + off)
num_past zero s at off = refl
num_past (suc w) s at off = rw (get_or-drop at s off 0, num_past w s at (off + 1), add_assoc at off 1)

-- ## A row

-- what is read from the part between `at` and the place `width` bytes on is the row there
pub row_of_part : (width : ℕ) (s : List ℕ) (at hold : ℕ) (words : Words) → let part = take (at + width - at) (drop at s) in
    hold ≡ num_at 4 part 0 → words ≡ words_at part 4 → record { hold = hold; words = words } ≡ row_at width s at
unfolding row_at row_in
row_of_part width s at hold words h w =
    let wide : at + width - at ≡ width = omega arith in
    (λ j. record { hold = h j; words = w j }) ∙ ap (λ (n : ℕ). row_in (take n (drop at s))) wide

module _ (width : ℕ) (s : List ℕ) (at : ℕ) (wide : width_of Rows ≤ width) where
  field-there : (w off : ℕ) → off + w ≤ width → num_at w (take width (drop at s)) off ≡ num_at w s (at + off)
  field-there w off h = num_front width w (drop at s) off h ∙ num_past w s at off

  word_there : (off : ℕ) → off ≤ 22 → num_at 2 (take width (drop at s)) off ≡ num_at 2 s (at + off)
  word_there off h = field-there 2 off (omega (arith, wide))

  -- the row, by its places in the file
  pub row_there : row_at width s at ≡ record { hold = num_at 4 s at; words = words_at s (at + 4) }
  unfolding row_at row_in words_at
  row_there =
      rw (
        field-there 4 0 (omega (arith, wide)),
        word_there 4 (omega arith),
        word_there 6 (omega arith),
        word_there 8 (omega arith),
        word_there 10 (omega arith),
        word_there 12 (omega arith),
        word_there 14 (omega arith),
        word_there 16 (omega arith),
        word_there 18 (omega arith),
        word_there 20 (omega arith),
        word_there 22 (omega arith),
      ) (simp (add-zero, add_assoc))
