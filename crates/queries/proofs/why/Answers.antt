-- `queries::why` meets its contract, from what its callees ensure: the scan is refused only for its input, and the reason is that of the
-- effect's slot before it and after.
use mathlib.Core.Path.{◌≡◌, refl, ap, ◌∙◌}
use borrow.Author.Rules.{rules}
use lib.ListN.{length}
use Rattle.std.proofs.Common.{Ok, Err}
use Rattle.bits.proofs.Lists.{length_mapped}
use Rattle.settings.specs.Refusals.{number_of}
use Rattle.settings.proofs.Refusals.{number_some, or_else_first, passed_on}
use Rattle.block.specs.Answer.{as_scanned}
use Rattle.queries.specs.Queries.{present_number}
use Rattle.queries.specs.Reply.{as_reply}
use Rattle.queries.proofs.Answers.{Found, refused_is, has_a_slot, because_is}
use Rattle.queries.proofs.why.Goals as goal

pub returns-in_err-scanned : goal.returns-in_err-scanned
returns-in_err-scanned c =
    let a = c.args in
    let e = c.in_err-scanned.field-0.0 in
    let found : Found a.st a.w a.x a.effect (as_scanned (Err e)) (number_of e.refusal) = record {
      scanned = c.in_err-scanned.ensures.value;
      number = or_else_first (number_of e.refusal) (present_number a.st.count a.effect) (number_of e.refusal) refl (number_some e.refusal);
    } in
    ap as_reply (passed_on _ _ c.from_residual.ensures) ∙ refused_is found (number_some e.refusal)

pub returns-in_err-check_present : goal.returns-in_err-check_present
returns-in_err-check_present c =
    let a = c.args in
    let e = c.in_err-check_present.field-0.0 in
    let found : Found a.st a.w a.x a.effect (as_scanned (Ok c.in_ok-scanned.scanned)) (number_of e) = record {
      scanned = c.in_ok-scanned.ensures.value;
      number = c.in_err-check_present.ensures;
    } in
    ap as_reply (passed_on _ _ c.from_residual-in_err-check_present.ensures) ∙ refused_is found (number_some e)

pub reason_across-requires : goal.reason_across-requires
reason_across-requires c =
    let a = c.args in
    let found : Found a.st a.w a.x a.effect (as_scanned (Ok c.in_ok-scanned.scanned)) 0 = record {
      scanned = c.in_ok-scanned.ensures.value;
      number = c.in_ok-check_present.ensures;
    } in
    has_a_slot found refl

pub returns : goal.returns
returns c =
    let a = c.args in
    let found : Found a.st a.w a.x a.effect (as_scanned (Ok c.in_ok-scanned.scanned)) 0 = record {
      scanned = c.in_ok-scanned.ensures.value;
      number = c.in_ok-check_present.ensures;
    } in
    let sixteen : length a.x.slots ≡ 16 = search (rules, length_mapped) in
    because_is found refl sixteen _ c.reason_across.ensures
