-- Lists of what passes a test, counted as they are picked. No entry point's contract cites this page.
use Rattle.std.specs.Prelude.{ℕ, zero, suc, Bool, cond, List, [], ◌∷◌, ◌++◌, length}

module _ {B : Type 0} (g : ℕ → ℕ → B) (t : ℕ → Bool) where
  -- g k i for each i below n that passes the test, where k counts them from 0
  unfoldable pub picked : ℕ → List B
  picked zero = []
  picked (suc n) = picked n ++ cond (t n) (g (length (picked n)) n ∷ []) []
