-- `engine::put_changed` meets its contract. The loop's invariant: the records of the effects below some m are written, with the first-outs
-- that they have at the end, the array has their timers and first-outs, and the word holds the effects from m on.
use Rattle.std.proofs.Common.{arith}
use lib.Count.{count_trailing_zeros}
use Rattle.cells.specs.Array.{firsts_in}
use Rattle.cells.specs.Changed.{settled_at}
use Rattle.cells.proofs.Settled.{settled_rests, settled_turn, first_stays, settled-none}
use Rattle.boards.proofs.Bits.{started, ended}
use Rattle.engine.proofs.Records.{begun, finished, roomy, as_long, put_same}
use Rattle.engine.proofs.put_changed.Goals as goal

pub loop-i-init : goal.loop-i-init
loop-i-init c =
    let a = c.args in
    rw c.into_iter-i-iterator.ensures.into_iter_gives (
      begun _ _ _ _ _ (omega (arith, c.well_formed)) (omega (arith, c.ranges.ch)),
      started (settled_rests a.causes a.x.planes a.is a.ch a.board.now 16 (omega arith) (omega (arith, c.ranges.ch))) (settled-none _ _ _ _ _),
    )

pub put_record-requires : goal.put_record-requires
put_record-requires c =
    roomy c.loop-i.invariant.0 c.in-Some.ensures.steps.0 c.requires.fits

pub overflow_add-at : goal.overflow_add-at
overflow_add-at c =
    let v = c.loop-i.invariant.0 in
    omega (arith, roomy v c.in-Some.ensures.steps.0 c.requires.fits, as_long v, c.well_formed)

pub loop-i-preserved : goal.loop-i-preserved
loop-i-preserved c =
    let a = c.args in
    let v = c.loop-i.invariant in
    let s = c.in-Some.ensures.steps in (
      rw (c.put_record.ensures, c.record_at.ensures, c.settle.ensures, s.1, s.3)
          (put_same v.0 s.0 (firsts_in (settled_at a.causes a.x.planes.normal a.is.normal a.is.delayed (count_trailing_zeros 16 c.loop-i.i-iterator.0) c.loop-i.board)) (first_stays a.causes a.x.planes a.is a.ch a.board.now v.1 s.0 c.requires.long) c.requires.narrow),
      rw (c.settle.ensures, s.1, s.3) (settled_turn a.causes a.x.planes a.is a.ch a.board.now v.1 s.0),
    )

pub shape_of-buf : goal.shape_of-buf
shape_of-buf c = as_long c.loop-i.invariant.0

pub returns : goal.returns
returns c =
    let v = c.loop-i.invariant in
    let s = c.in-None.ensures.steps in
    let e = finished v.0 s.0 in
    let f = ended v.1 s.0 in
    record { value = rw f (rw (← e) v.0.place); board_after = f; buf_after = rw f (rw (← e) v.0.wrote) }
