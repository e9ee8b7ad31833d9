-- `why_bytes::reasons_of` meets its contract: what refuses the file, then 10, or the reasons of all events.
use mathlib.Core.Path.{refl, ap, sym, ◌∙◌}
use Prim.Native.Nat.{◌*◌}
use native.Mathlib.Omega.{arith}
use lib.ListN.{length}
use Rattle.settings.specs.Refusals.{number_in, number_of}
use Rattle.settings.proofs.Refusals.{limit_kept, number_some, passed_on}
use Rattle.recording.proofs.Opened.{answer_is, settings_are, refusal_is}
use Rattle.rerun.specs.Answer.{Stop}
use Rattle.rerun.specs.Replay.{Outcome, replay}
use Rattle.rerun.specs.Turn.{Totals}
use Rattle.rerun.proofs.Files.{refusal_number, refused_replay}
use Rattle.rerun.proofs.Turns.{few_effects, begins}
use Rattle.reasoned.specs.Reasoned.{reasoned}
use Rattle.why_bytes.specs.Bytes.{reason_length, reason_bytes}
use Rattle.why_bytes.proofs.Answers as answers
use Rattle.why_bytes.proofs.Rows.{telling_begins}
use Rattle.why_bytes.proofs.reasons_of.Goals as goal

pub returns-in_err-file : goal.returns-in_err-file
returns-in_err-file c =
    let file = c.args.s.now in
    let e = refusal_is _ _ c.in_err-file.ensures in
    let both = answers.refused-first (replay file).number (reason_length * length (replay file).replay.events) c.args.out.now (reason_bytes (reasoned file)) _
    (sym (ap (λ (o : Outcome). o.number) (refused_replay file _ _ e))) (refusal_number file _ _ e) in
    record { value = ap number_in (passed_on _ _ c.from_residual.ensures) ∙ both.0; out_after = both.1 }

pub returns-in_err-check_holds : goal.returns-in_err-check_holds
returns-in_err-check_holds c =
    let file = c.args.s.now in
    let e = c.in_err-check_holds.field-0.0 in
    let is = ap (λ (x : Stop). x.number) c.in_err-check_holds.ensures in
    let both = answers.refused-first (replay file).number (reason_length * length (replay file).replay.events) c.args.out.now (reason_bytes (reasoned file)) (number_of e.refusal) is (number_some e.refusal) in
    record { value = ap number_in (passed_on _ _ c.from_residual-in_err-check_holds.ensures) ∙ both.0; out_after = both.1 }

pub begin-run-requires : goal.begin-run-requires
begin-run-requires c =
    let is = c.in_ok-file.ensures in
    (few_effects _ _ _ _ _ (answer_is _ c.in_ok-file.file is) (settings_are _ c.in_ok-file.file is), refl)

pub check_records-requires : goal.check_records-requires
check_records-requires c =
    let is = c.in_ok-file.ensures in
    let begun = rw (settings_are _ c.in_ok-file.file is) at c.begin-run.ensures in
    (begins begun (answer_is _ c.in_ok-file.file is), ap (λ (u : Totals). u.rows) begun.totals, omega arith)

pub returns-in_err-check_records : goal.returns-in_err-check_records
returns-in_err-check_records c =
    let file = c.args.s.now in
    let whole = sym (ap (λ (x : Stop). x.number) c.in_ok-check_holds.ensures) in
    let e = c.in_err-check_records.field-0.0 in
    let both = answers.refused_room (replay file).number (reason_length * length (replay file).replay.events) c.args.out.now (reason_bytes (reasoned file)) whole (number_of e) c.in_err-check_records.ensures (number_some e) in
    record { value = ap number_in (passed_on _ _ c.from_residual-in_err-check_records.ensures) ∙ both.0; out_after = both.1 }

pub put_rows-requires : goal.put_rows-requires
put_rows-requires c =
    let file = c.args.s.now in
    let is = c.in_ok-file.ensures in
    let whole = sym (ap (λ (x : Stop). x.number) c.in_ok-check_holds.ensures) in
    let begun = rw (settings_are _ c.in_ok-file.file is) at c.begin-run.ensures in
    let fit = limit_kept (reason_length * length (replay file).replay.events) (length c.args.out.now) 9 (sym c.in_ok-check_records.ensures) in
    (telling_begins begun (answer_is _ c.in_ok-file.file is) whole fit, ap (λ (u : Totals). u.rows) begun.totals)

pub returns : goal.returns
returns c =
    let file = c.args.s.now in
    let whole = sym (ap (λ (x : Stop). x.number) c.in_ok-check_holds.ensures) in
    let fit = limit_kept (reason_length * length (replay file).replay.events) (length c.args.out.now) 9 (sym c.in_ok-check_records.ensures) in
    let both = answers.crosses (replay file).number (reason_length * length (replay file).replay.events) c.args.out.now (reason_bytes (reasoned file)) whole fit _ c.put_rows.ensures in
    record { value = both.0; out_after = both.1 }

pub check_holds-requires : goal.check_holds-requires
check_holds-requires c = answer_is _ c.in_ok-file.file c.in_ok-file.ensures
