-- `season::add_whole` meets its contract: the stretches that the events close, those still open, and the report's sums.
use mathlib.Core.Path.{◌≡◌, refl, ap, ◌∙◌}
use lib.ListN.{length}
use borrow.Author.Rules.{rules}
use Rattle.bits.proofs.Lists.{length_mapped}
use Rattle.settings.specs.declared.Settings.{Settings}
use Rattle.recording.specs.Answers.{number, place}
use Rattle.recording.proofs.Opened.{answer_is, settings_are}
use Rattle.rerun.proofs.Turns.{few_effects}
use Rattle.tally.specs.declared.Count.{Count}
use Rattle.tally.specs.Tally.{sum_count}
use Rattle.season.proofs.Answers.{closable, joined_is, whole_added}
use Rattle.season.proofs.Loop.{tallying_begins}
use Rattle.season.proofs.add_whole.Goals as goal

pub begin-run-requires : goal.begin-run-requires
begin-run-requires c =
    let a = c.args in
    (few_effects a.s.now _ _ _ _ (answer_is _ a.file c.requires.0) (settings_are _ a.file c.requires.0), refl)

pub count_rows-end-requires : goal.count_rows-end-requires
count_rows-end-requires c =
    rw c.empty-count.ensures (tallying_begins (rw (settings_are _ c.args.file c.requires.0) at c.begin-run.ensures) (answer_is _ c.args.file c.requires.0) c.requires.1)

pub close_all-requires : goal.close_all-requires
close_all-requires c =
    let all = c.count_rows-end.ensures in
    closable c.args.s.now (ap number (answer_is _ c.args.file c.requires.0)) _ all.counts _ _ _ (ap (λ (z : Settings). z.count) (settings_are _ c.args.file c.requires.0)) all.scans all.exercised

pub returns : goal.returns
returns c =
    let long : length c.args.r.sums ≡ sum_count = search (rules, length_mapped) in
    let file = c.args.s.now in
    let all = c.count_rows-end.ensures in
    c.join.ensures
    ∙ joined_is file (ap number (answer_is _ c.args.file c.requires.0)) _ all.counts _ _ _ (ap (λ (z : Settings). z.count) (settings_are _ c.args.file c.requires.0)) all.scans all.exercised _ (ap (λ (t : Count). t.sums) c.close_all.ensures) c.args.r long
    ∙ whole_added c.args.r file (ap place (answer_is _ c.args.file c.requires.0)) c.requires.1
