-- `engine::changes_next` meets its contract: where nothing is due after a scan that changed no state, the next one changes none; else the rules
-- are asked.
-- where nothing is due
use Rattle.std.proofs.Common.{ℕ, ◌<◌, not, eqb, ltb, get_or, sym, refl, ap, ◌∙◌, arith, ltb-true}
use Rattle.bits.specs.Words.{bit_of}
use Rattle.bits.proofs.Lists.{and_left, and_right}
use Rattle.cells.specs.Array.{timers_in}
use Rattle.boards.proofs.Due.{changed_due}
use Rattle.boards.proofs.Low.{none-due}
use Rattle.engine.proofs.changes_next.Goals as goal

pub returns-then-still-plan : goal.returns-then-still-plan
returns-then-still-plan c =
    let a = c.args in
    let timers = timers_in a.board.now in
    let below : a.plan.period < a.low = ltb-true _ _ (and_right a.still (ltb a.plan.period a.low) c.if-still-plan.true) in
    let none = none-due (bit_of a.p.delayed) (λ i. get_or timers i 0) a.plan.period a.plan.count (omega (arith, below, c.requires.2)) in
    ap (λ (x : ℕ). not (eqb x 0))
    (sym
    (changed_due a.plan.count a.plan.period timers a.w a.p c.requires.0 c.requires.1 0 _ _ (sym none) refl refl
    ∙ c.requires.3 (and_left a.still (ltb a.plan.period a.low) c.if-still-plan.true)))

pub returns : goal.returns
returns c =
    let a = c.args in
    ap (λ (x : ℕ). not (eqb x 0))
    (sym (changed_due a.plan.count a.plan.period (timers_in a.board.now) a.w a.p c.requires.0 c.requires.1 _ _ _ c.due_by-due.ensures c.planes_after-next.ensures c.changed.ensures))
