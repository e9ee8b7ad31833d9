-- States are told apart by their codes.
use mathlib.Core.Path.{◌≡◌, refl, ap, sym, ◌∙◌}
use mathlib.Core.Bool.{true, cond}
use Prim.Native.Nat.{ℕ, ◌≤◌}
use denote.Enum.Bare.{sameb}
use lib.Dec.{eqb, lit≤}
use borrow.Author.Rules.{rules}
use borrow.Author.Tests.{eqb-true, eq-eqb}
use Rattle.rules.specs.contracts.EffectState.{the_type}
use Rattle.rules.specs.declared.EffectState.{EffectState}
use Rattle.rules.specs.declared.EffectState.TheVariants.{Tripped, WaitReset, Ready, WaitStart, Normal, Delayed}
use Rattle.rules.specs.Rules.{code, most_code, same}

-- from a code back to its state; the state that it gives for other numbers is never used
abbrev back : ℕ → EffectState
back k =
    cond (eqb k 0) Tripped
    (cond (eqb k 1) WaitReset (cond (eqb k 2) Ready (cond (eqb k 3) WaitStart (cond (eqb k 4) Normal Delayed))))

back_of_code : (p : EffectState) → back (code p) ≡ p
back_of_code Tripped = refl
back_of_code WaitReset = refl
back_of_code Ready = refl
back_of_code WaitStart = refl
back_of_code Normal = refl
back_of_code Delayed = refl

-- no two states have the same code
pub code_injective : (p q : EffectState) → code p ≡ code q → p ≡ q
code_injective p q e = sym (back_of_code p) ∙ ap back e ∙ back_of_code q

-- no state has a code above the highest
pub code_at_most : (p : EffectState) → code p ≤ most_code
code_at_most Tripped = lit≤ tt
code_at_most WaitReset = lit≤ tt
code_at_most Ready = lit≤ tt
code_at_most WaitStart = lit≤ tt
code_at_most Normal = lit≤ tt
code_at_most Delayed = lit≤ tt

-- two states that the test finds the same are equal
pub same_eq : (p q : EffectState) → same p q ≡ true → p ≡ q
same_eq p q e = code_injective p q (eqb-true (code p) (code q) e)

-- a state is the same as itself
pub same_refl : (p : EffectState) → same p p ≡ true
same_refl p = eq-eqb (code p) (code p) refl

-- `==` of two states is whether they are the same
pub equal_same : (p q : EffectState) → sameb the_type p q ≡ same p q
equal_same p q = search rules
