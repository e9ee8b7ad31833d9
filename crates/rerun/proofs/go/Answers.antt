-- `rerun::go` meets its contract: `Passed` is the loop's invariant, and the laws of `Passing` are those of its turns.
use mathlib.Core.Path.{refl}
use native.Mathlib.Omega.{arith}
use Rattle.settings.proofs.Refusals.{number_some, passed_on}
use Rattle.rerun.proofs.Passing as passing
use Rattle.rerun.proofs.go.Goals as goal

pub loop-t-init : goal.loop-t-init
loop-t-init c = passing.begins c.requires

pub overflow_sub-t : goal.overflow_sub-t
overflow_sub-t c = passing.records_before c.requires c.loop-t.invariant

pub slice_bounds-row-count : goal.slice_bounds-row-count
slice_bounds-row-count c =
    passing.at-within c.requires c.loop-t.invariant c.loop-t-test.true _ c.place_of-at.ensures

pub slice_bounds-row-start : goal.slice_bounds-row-start
slice_bounds-row-start c = omega (arith, passing.at-within c.requires c.loop-t.invariant c.loop-t-test.true _ c.place_of-at.ensures)

pub row-requires : goal.row-requires
row-requires c =
    passing.row_ready c.requires c.loop-t.invariant c.loop-t-test.true _ c.place_of-at.ensures

pub returns-in_err-turn : goal.returns-in_err-turn
returns-in_err-turn c =
    rw (passed_on _ _ c.from_residual.ensures)
    (passing.stops c.requires c.loop-t.invariant c.loop-t-test.true _ c.place_of-at.ensures c.in_err-turn.ensures (number_some c.in_err-turn.field-0.0.refusal))

pub loop-t-preserved : goal.loop-t-preserved
loop-t-preserved c =
    passing.goes_on c.requires c.loop-t.invariant c.loop-t-test.true _ c.place_of-at.ensures c.in_ok-turn.ensures refl
