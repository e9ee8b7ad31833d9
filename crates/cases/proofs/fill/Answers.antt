-- `cases::fill` meets its contract. The loop's invariant: the first i bytes are filled, and the others stay.
use mathlib.Core.Path.{refl}
use native.Mathlib.Omega.{arith}
use lib.ListN.{length-set}
use Rattle.bits.proofs.Lists.{fill}
use Rattle.bits.specs.Lists.{tabulate}
use Rattle.cases.specs.Given.{fill_at}
use Rattle.cases.proofs.fill.Goals as goal

pub loop-i-init : goal.loop-i-init
unfolding tabulate
loop-i-init c = (refl, refl)

pub loop-i-preserved : goal.loop-i-preserved
loop-i-preserved c =
    (simp length-set c.loop-i.invariant.0, rw (c.loop-i.invariant.1, c.fill_at.ensures) (fill fill_at c.args.buf.now c.loop-i.i 0 (omega arith)))
