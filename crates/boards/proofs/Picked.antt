-- Laws of picking: one more, and none where the test fails.
use mathlib.Core.Path.{◌≡◌, refl}
use mathlib.Core.Bool.{Bool, true, false}
use mathlib.Core.List.{[], ◌∷◌, ◌++◌, append-nil}
use Prim.Native.Nat.{ℕ, zero, suc, ◌+◌, ◌≤◌}
use native.Mathlib.Nat.{add-zero, add-suc, le_refl}
use native.Mathlib.Numerals.{add-one}
use native.Mathlib.Omega.{arith}
use lib.ListN.{length, length-append}
use Rattle.boards.specs.Picked.{picked}

module _ {B : Type 0} (g : ℕ → ℕ → B) (t : ℕ → Bool) where
  pub picked_none : picked g t 0 ≡ []
  unfolding picked
  picked_none = refl

  pub picked_yes : (n : ℕ) → t n ≡ true → picked g t (n + 1) ≡ picked g t n ++ (g (length (picked g t n)) n ∷ [])
  unfolding picked
  picked_yes n h = rw (add-one, h)

  pub picked_no : (n : ℕ) → t n ≡ false → picked g t (n + 1) ≡ picked g t n
  unfolding picked
  picked_no n h = rw (add-one, h) (append-nil (picked g t n))

  -- at most n are picked of n
  pub picked_le : (n : ℕ) → length (picked g t n) ≤ n
  picked_le zero = rw picked_none (omega arith)
  picked_le (suc n) = rw (← add-one n) (go (t n) refl (picked_le n))
    where
      go : (b : Bool) → t n ≡ b → length (picked g t n) ≤ n → length (picked g t (n + 1)) ≤ n + 1
      go true e h = rw (picked_yes n e, length-append) (omega arith)
      go false e h = rw (picked_no n e) (omega arith)

  -- of more places, no fewer are picked
  pub picked_grows : (a d : ℕ) → length (picked g t a) ≤ length (picked g t (a + d))
  picked_grows a zero = rw add-zero (le_refl _)
  picked_grows a (suc d) = rw (add-suc, ← add-one (a + d)) (go (t (a + d)) refl (picked_grows a d))
    where
      go : (b : Bool) → t (a + d) ≡ b → length (picked g t a) ≤ length (picked g t (a + d)) → length (picked g t a) ≤ length (picked g t (a + d + 1))
      go true e h = rw (picked_yes (a + d) e, length-append) (omega arith)
      go false e h = rw (picked_no (a + d) e) h
