-- `standing::at_end` meets its contract: the rows before the last are run, and then the last.
use mathlib.Core.Path.{refl, ap}
use native.Mathlib.Omega.{arith}
use Rattle.recording.specs.Answers.{number, row_count_of}
use Rattle.recording.proofs.Opened.{answer_is, settings_are}
use Rattle.rerun.proofs.Turns.{few_effects, ended}
use Rattle.standing.proofs.Last.{some-row, ready_before, one_left}
use Rattle.standing.proofs.at_end.Goals as goal

pub begin-run-requires : goal.begin-run-requires
begin-run-requires c =
    let a = c.args in
    (few_effects a.s.now _ _ _ _ (answer_is _ a.file c.requires.0) (settings_are _ a.file c.requires.0), refl)

pub go-requires : goal.go-requires
go-requires c =
    ready_before (rw (settings_are _ c.args.file c.requires.0) at c.begin-run.ensures) (answer_is _ c.args.file c.requires.0) _ (omega arith)

pub after_last-requires : goal.after_last-requires
after_last-requires c =
    let b = rw (settings_are _ c.args.file c.requires.0) at c.begin-run.ensures in
    ((ended _ c.go.ensures _ c.run_of-last.ensures).going, one_left b (answer_is _ c.args.file c.requires.0) (omega (arith, some-row c.args.s.now (ap number (answer_is _ c.args.file c.requires.0)), ap row_count_of (answer_is _ c.args.file c.requires.0))) c.requires.1 (ended _ c.go.ensures _ c.run_of-last.ensures), c.requires.1)

pub overflow_sub-before : goal.overflow_sub-before
overflow_sub-before c = omega (arith, some-row c.args.s.now (ap number (answer_is _ c.args.file c.requires.0)), ap row_count_of (answer_is _ c.args.file c.requires.0))
