-- `sums::add_all` meets its contract. The loop's invariant: the sums before k stand, and the rest is as it was.
use mathlib.Core.Path.{◌≡◌, refl, ap, ◌∙◌}
use mathlib.Core.List.{List, ◌++◌}
use Prim.Native.Nat.{ℕ, ◌<◌, ◌+◌}
use native.Mathlib.Omega.{arith}
use lib.ListN.{length, drop, get_or, set}
use Rattle.bits.specs.Lists.{tabulate}
use Rattle.bits.proofs.Lists.{fill}
use Rattle.sums.proofs.Sums.{sum_fits, unfilled}
use Rattle.sums.proofs.add_all.Goals as goal

pub loop-k-init : goal.loop-k-init
unfolding tabulate
loop-k-init c = refl

pub overflow_add-x : goal.overflow_add-x
overflow_add-x c =
    let l = c.loop-k in
    let a = c.args.a.now in
    let b = c.args.b.now in
    let h : l.k < length a = omega arith in
    let had : get_or l.a l.k 0 ≡ get_or a l.k 0 = ap (λ (x : List ℕ). get_or x l.k 0) l.invariant ∙ unfilled _ a l.k in
    omega (arith, had, sum_fits (λ i. get_or b i 0) a l.k c.requires.1 h)

pub loop-k-preserved : goal.loop-k-preserved
loop-k-preserved c =
    let l = c.loop-k in
    let a = c.args.a.now in
    let b = c.args.b.now in
    let h : l.k < length a = omega arith in
    let f : ℕ → ℕ = λ i. get_or a i 0 + get_or b i 0 in
    ap (λ (x : List ℕ). set x l.k (get_or x l.k 0 + get_or b l.k 0)) l.invariant
    ∙ ap (λ (v : ℕ). set (tabulate f l.k ++ drop l.k a) l.k (v + get_or b l.k 0)) (unfilled f a l.k)
    ∙ fill f a l.k 0 h
