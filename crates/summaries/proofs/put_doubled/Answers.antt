-- `summaries::put_doubled` meets its contract. The loop's invariant: the bytes so far are put, a quote twice.
use native.Mathlib.Omega.{arith}
use Rattle.wording.proofs.Turns.{none_put, put_more, all_put}
use Rattle.summaries.specs.Summaries.{twice}
use Rattle.summaries.proofs.put_doubled.Goals as goal

pub loop-byte-init : goal.loop-byte-init
loop-byte-init c = (none_put twice c.args.name.now c.args.out.now c.args.at, omega arith)

pub loop-byte-preserved : goal.loop-byte-preserved
loop-byte-preserved c =
    let a = c.args in
    let p = c.put_twice-next.ensures in
    (put_more twice a.name.now a.out.now _ _ a.at _ _ c.loop-byte.byte-index 0 (omega arith) c.loop-byte.invariant.0 p.value, omega (arith, p.upper_bound))

pub returns-clause-value : goal.returns-clause-value
returns-clause-value c = rw (all_put twice c.args.name.now c.loop-byte.byte-index (omega arith)) at c.loop-byte.invariant.0
