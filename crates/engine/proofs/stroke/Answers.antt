-- `engine::stroke` meets its contract: a turn of the loop is a round, and the rest of the run gives what the whole gives.
use Rattle.std.proofs.Common.{refl, arith}
use lib.Bits.{or_lt}
use Rattle.boards.proofs.Quiet.{quiets_few}
use Rattle.boards.proofs.Turn.{as_long}
use Rattle.engine.proofs.Loop.{begins, scan_ready, within_scanned, still_scanned, calm_then, left-fits, scanned_fits, goes_on, ends}
use Rattle.engine.proofs.stroke.Goals as goal

pub loop-left-init : goal.loop-left-init
loop-left-init c =
    let seen = c.args.task.seen in
    begins c.requires (or_lt 16 seen.tripped seen.bad (omega (arith, c.well_formed)) (omega (arith, c.well_formed))) (omega (arith, c.well_formed)) (omega arith) c.begin-x.ensures

pub overflow_sub-fuel : goal.overflow_sub-fuel
overflow_sub-fuel c = omega (arith, c.loop-left.invariant.kept.going.fuelled c.loop-left-test.true)

pub scan-y-requires : goal.scan-y-requires
scan-y-requires c = scan_ready c.loop-left.invariant c.loop-left-test.true

pub quiets-k-requires : goal.quiets-k-requires
quiets-k-requires c =
    let h = c.loop-left.invariant in
    let more = c.loop-left-test.true in
    (h.kept.few, left-fits h more c.scan-y.ensures, h.kept.pos, h.kept.short, (within_scanned h more c.scan-y.ensures).0, calm_then h more c.scan-y.ensures refl refl)

pub timers_later-requires : goal.timers_later-requires
timers_later-requires c =
    let h = c.loop-left.invariant in
    let more = c.loop-left-test.true in
    (h.kept.few, omega (arith, quiets_few _ _ _ _ _ _ _ c.quiets-k.ensures, left-fits h more c.scan-y.ensures), h.kept.short, (within_scanned h more c.scan-y.ensures).0, still_scanned h more c.scan-y.ensures)

pub overflow_add-x : goal.overflow_add-x
overflow_add-x c =
    omega (arith, quiets_few _ _ _ _ _ _ _ c.quiets-k.ensures, scanned_fits c.loop-left.invariant c.loop-left-test.true c.scan-y.ensures)

pub overflow_sub-left-in-loop-left : goal.overflow_sub-left-in-loop-left
overflow_sub-left-in-loop-left c = omega (arith, quiets_few _ _ _ _ _ _ _ c.quiets-k.ensures)

pub loop-left-smaller : goal.loop-left-smaller
loop-left-smaller c =
    omega (arith, c.loop-left.invariant.kept.going.fuelled c.loop-left-test.true)

pub loop-left-preserved : goal.loop-left-preserved
loop-left-preserved c =
    goes_on c.loop-left.invariant c.loop-left-test.true c.scan-y.ensures refl c.quiets-k.ensures c.timers_later.ensures refl

pub shape_of-buf : goal.shape_of-buf
shape_of-buf c = as_long c.loop-left.invariant.kept

pub returns : goal.returns
returns c = ends c.loop-left.invariant c.begin-x.ensures (omega arith)
