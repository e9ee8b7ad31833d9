-- `season::count_rows` meets its contract. The loop's invariant is `Tallying`: the count is that of the events of the rows so far.
use native.Mathlib.Omega.{arith}
use Rattle.season.proofs.Loop.{all-counted}
use Rattle.season.proofs.count_rows.Goals as goal

pub returns : goal.returns
returns c =
    let l = c.loop-t in
    all-counted l.invariant (omega (arith, c.loop-t-test.false, l.invariant.going.many, l.invariant.going.counted))
