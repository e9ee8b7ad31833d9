-- `cells::due_by` meets its contract: where the least timer is above the period, no effect is due.
use mathlib.Core.Path.{sym}
use native.Mathlib.Omega.{arith}
use lib.ListN.{get_or}
use Rattle.bits.specs.Words.{bit_of}
use Rattle.cells.specs.Array.{timers_in}
use Rattle.boards.proofs.Low.{none-due}
use Rattle.cells.proofs.due_by.Goals as goal

pub returns-then-plan-low : goal.returns-then-plan-low
returns-then-plan-low c =
    let a = c.args in
    sym (none-due (bit_of a.delayed) (λ i. get_or (timers_in a.board.now) i 0) a.plan.period a.plan.count (omega (arith, c.if-plan-low.true, c.requires.2)))
