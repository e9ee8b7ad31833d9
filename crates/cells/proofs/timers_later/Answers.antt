-- `cells::timers_later` meets its contract. The loop's invariant: whatever the count is, the effects in the word below some m have their
-- timers, and the word holds those from m on.
use mathlib.Core.Path.{refl, ap, ◌∙◌}
use Prim.Native.Nat.{ℕ, ◌*◌}
use native.Mathlib.Nat.{mul-le-mul, zero-mul}
use native.Mathlib.Omega.{arith}
use Rattle.bits.specs.Lists.{tabulate}
use Rattle.boards.proofs.Bits.{started, ended}
use Rattle.cells.proofs.Filled.{stored, fallen_none, fallen_rest}
use Rattle.cells.proofs.timers_later.Goals as goal

-- where no scan is skipped, the timers stay
pub returns-then-k-eq0 : goal.returns-then-k-eq0
returns-then-k-eq0 c =
    let a = c.args in
    fallen_none a.board.now a.plan.count (a.k * a.plan.period) c.requires.0 (ap (λ (k : ℕ). k * a.plan.period) c.if-k-eq0.true ∙ zero-mul a.plan.period)

pub overflow_mul-by : goal.overflow_mul-by
overflow_mul-by c = omega (arith, mul-le-mul c.requires.1 c.requires.2)

pub loop-i-init : goal.loop-i-init
unfolding tabulate
loop-i-init c = rw c.into_iter-i-iterator.ensures.into_iter_gives (λ n r. started r refl)

pub loop-i-preserved : goal.loop-i-preserved
loop-i-preserved c =
    let s = c.in-Some.ensures.steps in
    rw (s.1, s.3) (λ n r. stored _ _ _ _ _ (c.loop-i.invariant n r) s.0 _ (λ e. rw (c.saturating_sub.ensures, s.1, e)))

pub returns : goal.returns
returns c =
    let a = c.args in
    ended (c.loop-i.invariant a.plan.count (fallen_rest a.board.now a.plan.count (a.k * a.plan.period) c.requires.0 a.delayed c.requires.3 c.requires.4)) c.in-None.ensures.steps.0
