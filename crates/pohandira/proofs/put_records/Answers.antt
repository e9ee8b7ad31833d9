-- `pohandira::put_records` meets its contract: the reader's refusal or 9, then 10, or all records are written.
use mathlib.Core.Path.{◌≡◌, refl, sym, ap, ◌∙◌}
use Prim.Native.Nat.{◌*◌}
use native.Mathlib.Omega.{arith}
use lib.Dec.{leb}
use lib.ListN.{length}
use Rattle.std.proofs.Common.{Err}
use Rattle.effects.specs.Records.{record_length}
use Rattle.settings.specs.Refusals.{number_of, room_number}
use Rattle.settings.specs.declared.numbers.Refused.{Refused}
use Rattle.settings.proofs.Refusals.{granted_none, unless_refused, limit_kept, limit_passed, number_some, passed_on}
use Rattle.recording.proofs.Opened.{answer_is, settings_are, refusal_is}
use Rattle.rerun.specs.Answer.{Stop, as_replayed}
use Rattle.rerun.specs.Replay.{Outcome, replay, counts, refusal, first_rows}
use Rattle.rerun.specs.Turn.{Totals}
use Rattle.rerun.proofs.Files.{all_the_rows}
use Rattle.rerun.proofs.Turns.{few_effects, begins, answered_all, kept-all}
use Rattle.pohandira.proofs.Theorems.{ten_is_last, ten_for_the_records, nothing_refused, no_place_for_ten}
use Rattle.pohandira.proofs.Answers.{refused, refused_file, too_little_room, crosses}
use Rattle.pohandira.proofs.put_records.Goals as goal

pub returns-in_err-file : goal.returns-in_err-file
returns-in_err-file c =
    let a = c.args in
    let all = refused_file a.s.now a.records.now a.totals_room _ _ (refusal_is _ _ c.in_err-file.ensures) in
    record { value = ap as_replayed (passed_on _ _ c.from_residual.ensures) ∙ all.0; records_after = all.1 }

pub returns-in_err-check_holds : goal.returns-in_err-check_holds
returns-in_err-check_holds c =
    let a = c.args in
    let s = a.s.now in
    let e = c.in_err-check_holds.field-0.0 in
    let number = ap (λ (x : Stop). x.number) c.in_err-check_holds.ensures in
    let not-0 = number_some e.refusal in
    let first = ten_is_last s (length a.records.now) a.totals_room (λ z. not-0 (number ∙ z)) in
    let all = refused s a.records.now a.totals_room (number_of e.refusal) e.place (number ∙ sym first) not-0 (ap (λ (x : Stop). x.place) c.in_err-check_holds.ensures) in
    record { value = ap as_replayed (passed_on _ _ c.from_residual-in_err-check_holds.ensures) ∙ all.0; records_after = all.1 }

pub returns-then-totals_room-lt-TOTALS_BYTES : goal.returns-then-totals_room-lt-TOTALS_BYTES
returns-then-totals_room-lt-TOTALS_BYTES c =
    let a = c.args in
    let whole = sym (ap (λ (x : Stop). x.number) c.in_ok-check_holds.ensures) in
    let all = too_little_room a.s.now a.records.now a.totals_room whole c.if-totals_room-lt-TOTALS_BYTES.true in
    record { value = ap (λ (e : Refused). as_replayed (Err e)) c.no_room.ensures ∙ all.0; records_after = all.1 }

pub begin-run-requires : goal.begin-run-requires
begin-run-requires c =
    let is = c.in_ok-file.ensures in
    (few_effects _ _ _ _ _ (answer_is _ c.in_ok-file.file is) (settings_are _ c.in_ok-file.file is), refl)

pub check_records-requires : goal.check_records-requires
check_records-requires c =
    let is = c.in_ok-file.ensures in
    let begun = rw (settings_are _ c.in_ok-file.file is) at c.begin-run.ensures in
    (begins begun (answer_is _ c.in_ok-file.file is), ap (λ (u : Totals). u.rows) begun.totals, omega arith)

pub returns-in-Err : goal.returns-in-Err
returns-in-Err c =
    let a = c.args in
    let s = a.s.now in
    let due = record_length * length (replay s).replay.events in
    let room = length a.records.now in
    let whole = sym (ap (λ (x : Stop). x.number) c.in_ok-check_holds.ensures) in
    let n = number_of c.in-Err.refusal in
    let is : n ≡ room_number due room = c.in-Err.ensures in
    let not-0 = number_some c.in-Err.refusal in
    let short : room_number due room ≡ 0 → ⊥ = λ z. not-0 (is ∙ z) in
    let ten = ten_for_the_records s room a.totals_room whole (limit_passed due room 10 short) in
    let all = refused s a.records.now a.totals_room n 0 (is ∙ unless_refused (leb due room) 10 short ∙ sym ten) not-0 (sym (no_place_for_ten s whole)) in
    record { value = ap (λ (e : Refused). as_replayed (Err e)) c.no_room-in-Err.ensures ∙ all.0; records_after = all.1 }

pub go-requires : goal.go-requires
go-requires c =
    let s = c.args.s.now in
    let is = c.in_ok-file.ensures in
    let begun = rw (settings_are _ c.in_ok-file.file is) at c.begin-run.ensures in
    let going = begins begun (answer_is _ c.in_ok-file.file is) in
    let rows = ap (λ (u : Totals). u.rows) begun.totals in
    let due = ap (λ (o : Outcome). record_length * length o.replay.events) (all_the_rows s going.accepted ∙ ap (first_rows s) (sym going.many)) in
    record {
      going = going;
      onward = omega (arith, rows);
      within = omega (arith, going.many);
      fits = omega (arith, due, limit_kept (record_length * length (replay s).replay.events) (length c.args.records.now) 9 (sym c.in_default.ensures));
    }

pub returns : goal.returns
returns c =
    let a = c.args in
    let s = a.s.now in
    let is = c.in_ok-file.ensures in
    let begun = rw (settings_are _ c.in_ok-file.file is) at c.begin-run.ensures in
    let going = begins begun (answer_is _ c.in_ok-file.file is) in
    let rows = ap (λ (u : Totals). u.rows) begun.totals in
    let whole = sym (ap (λ (x : Stop). x.number) c.in_ok-check_holds.ensures) in
    let none = nothing_refused s (length a.records.now) a.totals_room whole (limit_kept (record_length * length (replay s).replay.events) (length a.records.now) 9 (sym c.in_default.ensures)) c.if-totals_room-lt-TOTALS_BYTES.false in
    let answer = c.counted.ensures ∙ answered_all c.go.ensures going.many ∙ granted_none (counts (replay s).replay) (refusal (replay s).place) (replay s).number whole in
    let all = crosses s a.records.now a.totals_room _ _ none answer (kept-all c.go.ensures going.many refl rows) in
    record { value = all.0; records_after = all.1 }

pub check_holds-requires : goal.check_holds-requires
check_holds-requires c = answer_is _ c.in_ok-file.file c.in_ok-file.ensures
