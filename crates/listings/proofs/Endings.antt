-- The law of statuses: the graver of two.
use Prim.Native.Nat.{ℕ, zero, suc, max}
use mathlib.Core.Path.{◌≡◌, ap}
use mathlib.Core.Logic.{◌⊎◌, inl, inr}
use Rattle.inputs.specs.Statuses.{done, unwritten}
use Rattle.listings.specs.Endings.{ended_by, Ended}

-- what was written ended by its refusal number, and what was not is graver
pub graver_ended : (a number : ℕ) → (a ≡ done) ⊎ (a ≡ unwritten) → Ended number (max a (ended_by number))
graver_ended a zero (inl e) = inl (ap (λ (n : ℕ). max n 0) e)
graver_ended a (suc n) (inl e) = inl (ap (λ (m : ℕ). max m 1) e)
graver_ended a zero (inr e) = inr (ap (λ (n : ℕ). max n 0) e)
graver_ended a (suc n) (inr e) = inr (ap (λ (m : ℕ). max m 1) e)
