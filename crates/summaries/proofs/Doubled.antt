-- A byte of a name, which stands twice where it is a quote.
use mathlib.Core.Path.{◌≡◌}
use mathlib.Core.List.{[], ◌∷◌}
use Prim.Native.Nat.{ℕ}
use borrow.Author.Tests.{eq-eqb, ne_eqb}
use Rattle.summaries.specs.Summaries.{quote, twice}

pub twice_quote : (byte : ℕ) → byte ≡ quote → twice byte ≡ quote ∷ quote ∷ []
twice_quote byte e = rw (eq-eqb byte quote e)

pub twice_other : (byte : ℕ) → (byte ≡ quote → ⊥) → twice byte ≡ byte ∷ []
twice_other byte e = rw (ne_eqb byte quote e)
