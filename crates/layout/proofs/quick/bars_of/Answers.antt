-- `layout::quick::bars_of` meets its contract, field by field, from what its callees ensure.
use mathlib.Core.Path.{ap, ap₂, ◌∙◌}
use Prim.Native.Nat.{ℕ}
use Rattle.layout.specs.Barred.{four_of, bars_of}
use Rattle.layout.proofs.quick.bars_of.Goals as goal

pub returns : goal.returns
unfolding bars_of
returns c =
    let causes = c.absent-c.ensures.0 in
    let effects = c.absent-e.ensures.0 in
    let permit = c.absent-p.ensures.0 in
    let first = c.four.ensures ∙ ap (λ (a : ℕ). four_of 0 0 a a) causes in
    let second = c.four-2.ensures ∙ ap₂ (λ (a b : ℕ). four_of a b b b) causes effects in
    let third = c.four-3.ensures ∙ ap₂ (λ (a b : ℕ). four_of a b a a) effects permit in
    let several = c.bit.ensures in
    λ i. record { first = first i; second = second i; third = third i; several = several i }
