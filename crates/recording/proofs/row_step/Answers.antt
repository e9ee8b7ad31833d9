-- `recording::row_step` meets its contract, from what its callees ensure and the tests on the way.
use Rattle.std.proofs.Common.{Ok, Err}
use mathlib.Core.Path.{refl}
use native.Mathlib.Omega.{arith}
use Rattle.settings.specs.Refusals.{number_of}
use Rattle.recording.specs.Answer.{as_reading}
use Rattle.recording.proofs.Steps.{step_refused, step_width, step_between, step_row, step_within}
use Rattle.recording.proofs.row_step.Goals as goal

pub returns-in_default : goal.returns-in_default
returns-in_default c =
    let a = c.args in
    let e = c.in_default.field-0 in
    step_refused a.s.now a.at (as_reading (Err e)) c.in_default.ensures (number_of e.refusal) e.place refl

pub is_place-requires : goal.is_place-requires
is_place-requires c =
    let a = c.args in
    step_width a.s.now a.at (as_reading (Ok c.in-Ok.file)) c.in-Ok.ensures _ _ _ refl

pub returns-then-not-is_place : goal.returns-then-not-is_place
returns-then-not-is_place c =
    let a = c.args in
    step_between a.s.now a.at (as_reading (Ok c.in-Ok.file)) c.in-Ok.ensures _ _ _ refl c.is_place.result c.is_place.ensures c.if-not-is_place.true

-- at a row's place its bytes are in the file
pub row_at-requires : goal.row_at-requires
row_at-requires c =
    let a = c.args in
    step_within a.s.now a.at (as_reading (Ok c.in-Ok.file)) c.in-Ok.ensures _ _ _ refl c.is_place.result c.is_place.ensures c.if-not-is_place.false

pub overflow_add-result : goal.overflow_add-result
overflow_add-result c =
    let a = c.args in
    let w = step_within a.s.now a.at (as_reading (Ok c.in-Ok.file)) c.in-Ok.ensures _ _ _ refl c.is_place.result c.is_place.ensures c.if-not-is_place.false in
    omega (arith, w.1)

pub returns : goal.returns
returns c =
    let a = c.args in
    rw c.row_at.ensures (step_row a.s.now a.at (as_reading (Ok c.in-Ok.file)) c.in-Ok.ensures _ _ _ refl c.is_place.result c.is_place.ensures c.if-not-is_place.false)
