-- `cells::slots::fill` meets its contract. The loop's invariant: the entries before i are filled.
use Rattle.std.proofs.Common.{refl, sym}
use Rattle.bits.specs.Lists.{tabulate}
use Rattle.cells.proofs.Filled.{more}
use Rattle.cells.proofs.slots.fill.Goals as goal

pub loop-i-init : goal.loop-i-init
unfolding tabulate
loop-i-init g c = λ f h. refl

pub loop-i-preserved : goal.loop-i-preserved
loop-i-preserved g c = λ f h. rw (c.loop-i.invariant f h, h _ _ c.loop-i-test.true c.number.ensures) (sym (more c.args.at f c.args.board.now c.loop-i.i))
