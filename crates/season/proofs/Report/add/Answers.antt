-- `season::Report::add` meets its contract: a file is accepted, and its totals are added, or refused, and the report is as it was.
use mathlib.Core.Path.{sym, ap, ◌∙◌}
use Rattle.settings.proofs.Refusals.{number_some}
use Rattle.recording.specs.Answers.{place}
use Rattle.recording.proofs.Opened.{answer_is, refusal_is}
use Rattle.rerun.specs.Answer.{Stop}
use Rattle.rerun.specs.Replay.{Outcome}
use Rattle.rerun.proofs.Files.{refused_replay, refusal_number}
use Rattle.season.proofs.Answers.{refused_added}
use Rattle.season.proofs.Report.add.Goals as goal

pub returns-in_default : goal.returns-in_default
returns-in_default c =
    let a = c.args in
    let e = refusal_is a.s.now c.unwrap_err-refused.result (rw c.unwrap_err-refused.ensures at c.read-read.ensures) in
    c.not_added.ensures
    ∙ refused_added a.self a.s.now _ _ (ap (λ (o : Outcome). o.number) (refused_replay a.s.now _ _ e)) (refusal_number a.s.now _ _ e) (ap place e)

pub returns-in-Err : goal.returns-in-Err
returns-in-Err c =
    let a = c.args in
    c.not_added-in-Err.ensures
    ∙ refused_added a.self a.s.now _ 0 (sym (ap (λ (x : Stop). x.number) c.in-Err.ensures)) (number_some c.in-Err.stop.refusal) (ap place (answer_is _ c.in-Ok.file c.in-Ok.ensures))

pub add_whole-requires : goal.add_whole-requires
add_whole-requires c = (c.in-Ok.ensures, sym (ap (λ (x : Stop). x.number) c.in_default-check_holds.ensures))

pub check_holds-requires : goal.check_holds-requires
check_holds-requires c = answer_is _ c.in-Ok.file c.in-Ok.ensures
