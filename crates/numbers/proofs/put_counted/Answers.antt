-- `numbers::put_counted` meets its contract: the totals if they fit, else nothing and 10.
use native.Mathlib.Omega.{arith}
use Rattle.numbers.specs.Numbers.{numbers, crossing}
use Rattle.numbers.proofs.Stores.{length-numbers, stays}
use Rattle.numbers.proofs.put_counted.Goals as goal

pub returns-then-out-lt-TOTALS_BYTES-clause-out_after : goal.returns-then-out-lt-TOTALS_BYTES-clause-out_after
returns-then-out-lt-TOTALS_BYTES-clause-out_after c =
    let g = c.args in
    stays (numbers (crossing g.r)) g.out.now (omega (arith, c.if-out-lt-TOTALS_BYTES.true, length-numbers (crossing g.r)))
