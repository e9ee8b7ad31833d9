-- `printing::print` meets its contract: the opening waits, and by what the reader answers the rows follow it or it is the listing.
use mathlib.Core.Path.{refl, sym, ap, ◌∙◌}
use mathlib.Core.Bool.{true}
use Rattle.settings.specs.Refusals.{number_of}
use Rattle.settings.proofs.Refusals.{granted_refused, number_some}
use Rattle.recording.specs.Answer.{Reading}
use Rattle.recording.specs.Answers.{number}
use Rattle.recording.proofs.Opened.{answer_is, settings_are, refusal_is}
use Rattle.rerun.specs.Turn.{Totals}
use Rattle.rerun.proofs.Files.{refusal_number}
use Rattle.rerun.proofs.Turns.{few_effects, begins}
use Rattle.printing.specs.Status.{status}
use Rattle.listing.specs.Printed.{answer_told}
use Rattle.listing.proofs.Theorems.{a_refused_file_is_its_opening}
use Rattle.printing.proofs.Parts.{opening_put, starts, number_of_refused}
use Rattle.printing.proofs.Fronts.{so_far_at_first}
use Rattle.printing.proofs.print.Goals as goal

pub begin-run-requires : goal.begin-run-requires
begin-run-requires g c =
    let is = c.in-Ok.ensures in
    (few_effects _ _ _ _ _ (answer_is _ c.in-Ok.file is) (settings_are _ c.in-Ok.file is), refl)

pub print_rows-requires-clause-going : goal.print_rows-requires-clause-going
print_rows-requires-clause-going g c =
    let same_answer = sym (ap (λ (r : Reading). r.answer) c.read-answer.ensures) ∙ sym c.reading_told-told.ensures in
    let read = c.in-Ok.ensures in
    let e = c.opening.ensures in
    let place = c.unwrap-at.ensures in
    let within = rw place at e.at_in_bounds in
    let is = c.begin-run.ensures in
    let none = ap (λ (u : Totals). u.rows) is.totals in
    let opened = opening_put c.args.why c.args.s.now c.args.out.now (answer_told c.reading_told-told.result) c.requires.roomy (sym place ∙ e.value) e.out_after within same_answer in
    (begins (rw (settings_are _ c.in-Ok.file read) at is) (answer_is _ c.in-Ok.file read), opened ∙ so_far_at_first c.args.why c.args.s.now none)

pub write_rest-requires-clause-waiting : goal.write_rest-requires-clause-waiting
write_rest-requires-clause-waiting g c =
    let same_answer = sym (ap (λ (r : Reading). r.answer) c.read-answer.ensures) ∙ sym c.reading_told-told.ensures in
    let s = c.args.s.now in
    let e = c.opening.ensures in
    let place = c.unwrap-at.ensures in
    let within = rw place at e.at_in_bounds in
    let error = c.in-Err.field-0 in
    let refused = refusal_is s error c.in-Err.ensures in
    let opened = opening_put c.args.why s c.args.out.now (answer_told c.reading_told-told.result) c.requires.roomy (sym place ∙ e.value) e.out_after within same_answer in
    let all = a_refused_file_is_its_opening c.args.why s (λ z. refusal_number s _ _ refused (sym (ap number refused) ∙ z)) in
    let told = ap (status true) (number_of_refused s _ _ refused) ∙ granted_refused 0 (λ n. 1) (number_of error.refusal) (number_some error.refusal) in
    (starts c.nothing-sent.ensures (opened ∙ all), sym told)
