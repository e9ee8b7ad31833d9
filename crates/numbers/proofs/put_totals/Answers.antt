-- `numbers::put_totals` meets its contract: seven numbers if they fit, else nothing.
use mathlib.Core.Path.{◌∙◌}
use native.Mathlib.Omega.{arith}
use Rattle.numbers.specs.Numbers.{numbers, crossing}
use Rattle.numbers.proofs.Stores.{length-numbers, fits, stays}
use Rattle.numbers.proofs.put_totals.Goals as goal

pub returns-then-out-lt-TOTALS_BYTES : goal.returns-then-out-lt-TOTALS_BYTES
returns-then-out-lt-TOTALS_BYTES c =
    let g = c.args in
    stays (numbers (crossing g.r)) g.out.now (omega (arith, c.if-out-lt-TOTALS_BYTES.true, length-numbers (crossing g.r)))

pub returns : goal.returns
returns c =
    let values = crossing c.args.r in
    rw c.numbers_of.ensures at c.put_numbers.ensures ∙ fits (numbers values) c.args.out.now (omega (arith, c.if-out-lt-TOTALS_BYTES.false, length-numbers values))
