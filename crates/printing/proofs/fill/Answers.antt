-- `printing::fill` meets its contract. The loop's invariant is `Filling`, by one row more each time; the measure: rows to go.
use mathlib.Core.Path.{refl}
use native.Mathlib.Omega.{arith}
use Rattle.printing.proofs.Turn.{begins, ends, more_left, fills, stops, goes_on, one_more}
use Rattle.settings.proofs.Refusals.{number_some}
use Rattle.printing.proofs.fill.Goals as goal

pub loop-t-init : goal.loop-t-init
loop-t-init c = begins c.requires c.args.from c.args.out.now

pub row-requires : goal.row-requires
row-requires c = let f = c.loop-t.invariant in (f.going, more_left f c.loop-t-test.true)

pub returns-in_default : goal.returns-in_default
returns-in_default c =
    fills c.loop-t.invariant c.loop-t-test.true c.in_default.ensures refl

pub returns-in-Err : goal.returns-in-Err
returns-in-Err c =
    stops c.loop-t.invariant c.loop-t-test.true (rw c.in-Err.is at c.in-Some.ensures) refl (number_some c.in-Err.stopped.refusal)

pub loop-t-smaller : goal.loop-t-smaller
loop-t-smaller c =
    let f = c.loop-t.invariant in
    let one = one_more f c.loop-t-test.true (rw c.in-Ok.is at c.in-Some.ensures) refl refl in
    omega (arith, one, more_left f c.loop-t-test.true)

pub loop-t-preserved : goal.loop-t-preserved
loop-t-preserved c =
    goes_on c.loop-t.invariant c.loop-t-test.true (rw c.in-Ok.is at c.in-Some.ensures) refl refl

pub returns : goal.returns
returns c = ends c.loop-t.invariant c.loop-t-test.false
