-- `season_bytes::add_into` meets its contract: 10 after what refuses the recording itself; else the season's refusal, or the report after it.
use mathlib.Core.Path.{refl, ap, ◌∙◌}
use Rattle.std.proofs.Common.{Ok, Err}
use Rattle.settings.specs.Refusals.{number_in}
use Rattle.settings.proofs.Refusals.{number_some, passed_on}
use Rattle.season.specs.declared.Report.{Report}
use Rattle.season.specs.Answer.{as_added}
use Rattle.season.specs.Season.{added_to}
use Rattle.season_bytes.proofs.Answers.{too_few, refused_in_room, added_in_room}
use Rattle.season_bytes.proofs.add_into.Goals as goal

pub returns-then-bytes-lt-REPORT_BYTES : goal.returns-then-bytes-lt-REPORT_BYTES
returns-then-bytes-lt-REPORT_BYTES c =
    let a = c.args in
    let w = too_few a.s.now a.bytes.now _ c.if-bytes-lt-REPORT_BYTES.true c.without_room.ensures in
    record { value = w.0; bytes_after = w.1 }

pub returns-in_err-added : goal.returns-in_err-added
returns-in_err-added c =
    let a = c.args in
    let e = c.in_err-added.field-0.0 in
    -- the recording was added to the report that was read
    let was_added = c.in_err-added.ensures ∙ ap (λ (r : Report). added_to r a.s.now) c.report_at-before.ensures in
    let w = refused_in_room a.s.now a.bytes.now c.if-bytes-lt-REPORT_BYTES.false (as_added (Err e)) was_added (number_some e.refused.refusal) in
    record { value = ap number_in (passed_on _ _ c.from_residual.ensures) ∙ w.0; bytes_after = w.1 }

pub returns : goal.returns
returns c =
    let a = c.args in
    -- the recording was added to the report that was read
    let was_added = c.in_ok-added.ensures ∙ ap (λ (r : Report). added_to r a.s.now) c.report_at-before.ensures in
    let w = added_in_room a.s.now a.bytes.now c.if-bytes-lt-REPORT_BYTES.false (as_added (Ok c.in_ok-added.added)) was_added refl _ c.put_report.ensures in
    record { value = w.0; bytes_after = w.1 }
