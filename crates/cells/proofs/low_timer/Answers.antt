-- `cells::low_timer` meets its contract. The loop's invariant: the least timer of the effects in the word below some m,
-- and the word holds those from m on.
use mathlib.Core.Path.{refl}
use native.Mathlib.Omega.{arith}
use lib.ListN.{get_or}
use Rattle.cells.specs.Array.{timers_at, timers_in}
use Rattle.boards.specs.Table.{low_to}
use Rattle.boards.proofs.Bits.{started, ended}
use Rattle.cells.proofs.Filled.{get_d_part}
use Rattle.boards.proofs.Low.{low_rest, lowered}
use Rattle.cells.proofs.low_timer.Goals as goal

pub loop-i-init : goal.loop-i-init
unfolding low_to
loop-i-init c =
    rw c.into_iter-i-iterator.ensures.into_iter_gives
    (started (low_rest _ _ (λ i. get_or (timers_in c.args.board.now) i 0) c.requires.0 c.requires.1) refl)

pub loop-i-preserved : goal.loop-i-preserved
loop-i-preserved c =
    let s = c.in-Some.ensures.steps in
    rw (c.min-low.ensures, ← get_d_part timers_at c.args.board.now c.in-Some.i s.2, s.1, s.3)
    (lowered _ _ _ c.loop-i.invariant s.0)

pub returns : goal.returns
returns c = ended c.loop-i.invariant c.in-None.ensures.steps.0
