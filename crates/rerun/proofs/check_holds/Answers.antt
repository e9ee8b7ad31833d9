-- `rerun::check_holds` meets its contract: a row that is refused stops the replay, and a row that runs adds its hold.
use mathlib.Core.Path.{◌≡◌, refl, ap}
use Prim.Native.Nat.{◌+◌, ◌*◌}
use native.Mathlib.Omega.{arith}
use Rattle.settings.proofs.Refusals.{number_some}
use Rattle.recording.specs.Answers.{row_count_of}
use Rattle.rerun.proofs.Stops.{begins, ends, row_there, stops, few_scans, goes_on}
use Rattle.rerun.proofs.check_holds.Goals as goal

pub loop-passed-init : goal.loop-passed-init
loop-passed-init c =
    let a = c.args in
    let start : a.file.first ≡ a.file.first + a.file.width * 0 = omega arith in
    rw (← start) (begins a.s.now _ _ _ c.requires)

pub overflow_mul-place : goal.overflow_mul-place
overflow_mul-place c =
    let a = c.args in
    let l = c.loop-passed in
    let there = row_there a.s.now a.file.width l.done _ l.passed l.invariant (omega (arith, ap row_count_of c.requires, c.loop-passed-test.true)) in
    omega (arith, there.1)

pub overflow_add-place : goal.overflow_add-place
overflow_add-place c =
    let a = c.args in
    let l = c.loop-passed in
    let there = row_there a.s.now a.file.width l.done _ l.passed l.invariant (omega (arith, ap row_count_of c.requires, c.loop-passed-test.true)) in
    omega (arith, there.1)

pub row_at-row-requires : goal.row_at-row-requires
row_at-row-requires c =
    let a = c.args in
    let l = c.loop-passed in
    row_there a.s.now a.file.width l.done _ l.passed l.invariant (omega (arith, ap row_count_of c.requires, c.loop-passed-test.true))

pub returns-in-Err : goal.returns-in-Err
returns-in-Err c =
    let a = c.args in
    let l = c.loop-passed in
    stops a.s.now a.file.width l.done _ l.passed l.invariant (omega (arith, ap row_count_of c.requires, c.loop-passed-test.true)) _ c.row_at-row.ensures _ c.in-Err.ensures (number_some c.in-Err.refusal)

pub overflow_add-done : goal.overflow_add-done
overflow_add-done c =
    let a = c.args in
    let l = c.loop-passed in
    let few = few_scans a.s.now a.file.width l.done _ l.passed l.invariant (omega (arith, ap row_count_of c.requires, c.loop-passed-test.true)) _ c.row_at-row.ensures 0 c.in_default.ensures refl in
    omega (arith, few)

pub loop-passed-preserved : goal.loop-passed-preserved
loop-passed-preserved c =
    let a = c.args in
    let l = c.loop-passed in
    let next : a.file.first + a.file.width * l.passed + a.file.width ≡ a.file.first + a.file.width * (l.passed + 1) = omega arith in
    rw (← next) (goes_on a.s.now a.file.width l.done _ l.passed l.invariant (omega (arith, ap row_count_of c.requires, c.loop-passed-test.true)) _ c.row_at-row.ensures 0 c.in_default.ensures refl)

pub returns : goal.returns
returns c =
    let a = c.args in
    let l = c.loop-passed in
    ends a.s.now a.file.width l.done _ l.passed l.invariant (omega (arith, ap row_count_of c.requires, c.loop-passed-test.false))
