-- `why_bytes::now_of` meets its contract: what refuses the file, then 10, or the reasons of all effects.
use mathlib.Core.Path.{ap, sym, ◌∙◌}
use mathlib.Core.List.{List, flat_map}
use Prim.Native.Nat.{◌*◌}
use native.Mathlib.Omega.{arith}
use lib.ListN.{length}
use lib.Seq.{sets}
use Rattle.bits.specs.Lists.{tabulate}
use Rattle.settings.specs.declared.Settings.{Settings}
use Rattle.settings.specs.Refusals.{number_in, number_of}
use Rattle.settings.proofs.Refusals.{room_short, number_some, passed_on}
use Rattle.recording.specs.Answers.{number}
use Rattle.recording.specs.Reader.{reading}
use Rattle.recording.proofs.Opened.{answer_is, settings_are, refusal_is}
use Rattle.rerun.specs.Answer.{Stop}
use Rattle.rerun.specs.Replay.{Outcome, replay}
use Rattle.rerun.proofs.Files.{refusal_number, refused_replay}
use Rattle.rerun.proofs.Turns.{few_effects}
use Rattle.reasons.specs.declared.Reason.{Reason}
use Rattle.reason_bytes.specs.Bytes.{numbers_of}
use Rattle.reasoned.specs.Reasoned.{reasons_now}
use Rattle.standing.specs.Stands.{reason_now}
use Rattle.standing.proofs.Theorems.{the_reasons_now}
use Rattle.why_bytes.specs.Bytes.{reason_length}
use Rattle.why_bytes.proofs.Answers as answers
use Rattle.why_bytes.proofs.now_of.Goals as goal

pub returns-in_err-file : goal.returns-in_err-file
returns-in_err-file c =
    let file = c.args.s.now in
    let e = refusal_is _ _ c.in_err-file.ensures in
    let both = answers.refused-first (replay file).number (reason_length * (reading file).settings.count) c.args.out.now (flat_map numbers_of (reasons_now file)) _
    (sym (ap (λ (o : Outcome). o.number) (refused_replay file _ _ e))) (refusal_number file _ _ e) in
    record { value = ap number_in (passed_on _ _ c.from_residual.ensures) ∙ both.0; out_after = both.1 }

pub returns-in_err-check_holds : goal.returns-in_err-check_holds
returns-in_err-check_holds c =
    let file = c.args.s.now in
    let e = c.in_err-check_holds.field-0.0 in
    let is = ap (λ (x : Stop). x.number) c.in_err-check_holds.ensures in
    let both = answers.refused-first (replay file).number (reason_length * (reading file).settings.count) c.args.out.now (flat_map numbers_of (reasons_now file)) (number_of e.refusal) is (number_some e.refusal) in
    record { value = ap number_in (passed_on _ _ c.from_residual-in_err-check_holds.ensures) ∙ both.0; out_after = both.1 }

pub returns-then-out-st : goal.returns-then-out-st
returns-then-out-st c =
    let file = c.args.s.now in
    let out = c.args.out.now in
    let due = reason_length * (reading file).settings.count in
    let whole = sym (ap (λ (x : Stop). x.number) c.in_ok-check_holds.ensures) in
    let same = ap (λ (x : Settings). x.count) (settings_are _ c.in_ok-file.file c.in_ok-file.ensures) in
    let both = answers.refused_room (replay file).number due out (flat_map numbers_of (reasons_now file)) whole 10
    (sym (room_short due (length out) (omega (arith, c.if-out-st.true, same)))) (λ z. omega (arith, z)) in
    record { value = both.0; out_after = both.1 }

pub at_end-x-requires : goal.at_end-x-requires
at_end-x-requires c = (c.in_ok-file.ensures, sym (ap (λ (x : Stop). x.number) c.in_ok-check_holds.ensures))

pub put_effects-requires : goal.put_effects-requires
put_effects-requires c =
    let is = c.in_ok-file.ensures in
    (few_effects _ _ _ _ _ (answer_is _ c.in_ok-file.file is) (settings_are _ c.in_ok-file.file is), c.if-out-st.false)

pub returns : goal.returns
returns c =
    let file = c.args.s.now in
    let out = c.args.out.now in
    let x = c.at_end-x.result in
    let is = c.in_ok-file.ensures in
    let whole = sym (ap (λ (x : Stop). x.number) c.in_ok-check_holds.ensures) in
    let settings = settings_are _ c.in_ok-file.file is in
    let same = ap (λ (x : Settings). x.count) settings in
    let all = the_reasons_now (ap number (answer_is _ c.in_ok-file.file is)) whole c.at_end-x.ensures in
    let both = answers.crosses (replay file).number (reason_length * (reading file).settings.count) out (flat_map numbers_of (reasons_now file)) whole (omega (arith, c.if-out-st.false, same)) _
    (c.put_effects.ensures
    ∙ ap (λ (st : Settings). sets out 0 (flat_map numbers_of (tabulate (reason_now st x) st.count))) settings
    ∙ ap (λ (rs : List Reason). sets out 0 (flat_map numbers_of rs)) (sym all)) in
    record { value = both.0; out_after = both.1 }

pub check_holds-requires : goal.check_holds-requires
check_holds-requires c = answer_is _ c.in_ok-file.file c.in_ok-file.ensures
