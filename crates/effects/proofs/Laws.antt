-- Laws of one scan of all effects.
use mathlib.Core.Path.{◌≡◌, refl, ap}
use mathlib.Core.List.{List, [], ◌∷◌}
use Prim.Native.Nat.{ℕ, zero, suc, ◌≤◌, ◌<◌}
use native.Mathlib.Nat.{le_of_suc-le-suc, not-suc-le-zero}
use lib.ListN.{length, get_or}
use Rattle.rules.specs.Signals.{Signals}
use Rattle.rules.specs.declared.Slot.{Slot}
use Rattle.rules.specs.Rules.{next}
use Rattle.effects.specs.Scan.{steps}

-- effects do not read each other: the slot of effect i after the scan depends on its own slot and its own signals alone
pub step-at : (ss : List Signals) (xs : List Slot) (i : ℕ) (d : Signals) (e : Slot) → i < length ss → i < length xs
    → get_or (steps ss xs) i e ≡ next (get_or ss i d) (get_or xs i e)
step-at [] xs i d e h k = absurd (not-suc-le-zero h)
step-at (s ∷ ss) [] i d e h k = absurd (not-suc-le-zero k)
step-at (s ∷ ss) (x ∷ xs) zero d e h k = refl
step-at (s ∷ ss) (x ∷ xs) (suc i) d e h k = step-at ss xs i d e (le_of_suc-le-suc h) (le_of_suc-le-suc k)

-- the slots past the effects stay
pub step_past : (ss : List Signals) (xs : List Slot) (i : ℕ) (e : Slot) → length ss ≤ i → get_or (steps ss xs) i e ≡ get_or xs i e
step_past [] xs i e h = refl
step_past (s ∷ ss) [] i e h = refl
step_past (s ∷ ss) (x ∷ xs) zero e h = absurd (not-suc-le-zero h)
step_past (s ∷ ss) (x ∷ xs) (suc i) e h = step_past ss xs i e (le_of_suc-le-suc h)

pub length-steps : (ss : List Signals) (xs : List Slot) → length (steps ss xs) ≡ length xs
length-steps [] xs = refl
length-steps (s ∷ ss) [] = refl
length-steps (s ∷ ss) (x ∷ xs) = ap suc (length-steps ss xs)
