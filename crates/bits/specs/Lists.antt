-- Lists that are made or tested by their index.
use Rattle.std.specs.Prelude.{ℕ, zero, suc, ◌+◌, Bool, true, ◌&&◌, List, [], ◌∷◌, ◌++◌}

module _ {A : Type 0} where
  -- the list f 0, f 1, .. of n elements
  unfoldable pub tabulate : (ℕ → A) → ℕ → List A
  tabulate f zero = []
  tabulate f (suc n) = tabulate f n ++ (f n ∷ [])

  -- n elements of w bytes each, read one after the other from `at` on
  abbrev pub list_of : (ℕ → A) → (w n at : ℕ) → List A
  list_of get w zero at = []
  list_of get w (suc n) at = get at ∷ list_of get w n (at + w)

  -- every element passes the test, which also reads the element's index, counted from i
  abbrev pub all_from : (ℕ → A → Bool) → ℕ → List A → Bool
  all_from t i [] = true
  all_from t i (x ∷ xs) = t i x && all_from t (i + 1) xs
