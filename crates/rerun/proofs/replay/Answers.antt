-- `rerun::replay` meets its contract: an accepted file begins, and goes through all its rows; a refused one has none.
use mathlib.Core.Path.{refl, sym, ap, ◌∙◌}
use native.Mathlib.Omega.{arith}
use Rattle.settings.proofs.Refusals.{passed_on}
use Rattle.recording.specs.Answers.{row_count_of}
use Rattle.recording.proofs.Opened.{answer_is, settings_are, refusal_is}
use Rattle.rerun.specs.Answer.{as_replayed}
use Rattle.rerun.proofs.Turns.{few_effects, ready_all, answered_all, refused_answer}
use Rattle.rerun.proofs.replay.Goals as goal

pub returns-in_err-file : goal.returns-in_err-file
returns-in_err-file c = ap as_replayed (passed_on _ _ c.from_residual.ensures) ∙ refused_answer c.args.s.now _ _ (refusal_is _ _ c.in_err-file.ensures)

pub begin-run-requires : goal.begin-run-requires
begin-run-requires c =
    let is = c.in_ok-file.ensures in
    (few_effects c.args.s.now _ _ _ _ (answer_is _ c.in_ok-file.file is) (settings_are _ c.in_ok-file.file is), refl)

pub go-requires : goal.go-requires
go-requires c =
    let is = c.in_ok-file.ensures in
    ready_all (rw (settings_are _ c.in_ok-file.file is) at c.begin-run.ensures) (answer_is _ c.in_ok-file.file is) (omega arith)

pub returns : goal.returns
returns c = c.counted.ensures ∙ answered_all c.go.ensures (sym (ap row_count_of (answer_is _ c.in_ok-file.file c.in_ok-file.ensures)))
