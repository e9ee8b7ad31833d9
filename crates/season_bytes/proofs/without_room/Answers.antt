-- `season_bytes::without_room` meets its contract.
use mathlib.Core.Path.{refl, ap, ◌∙◌}
use Rattle.settings.specs.Refusals.{number_in, number_of}
use Rattle.settings.proofs.Refusals.{number_some, passed_on, or_else_first, or_else_next}
use Rattle.rerun.specs.declared.Replayed.{Replayed}
use Rattle.rerun.proofs.Theorems.{an_answer_has_the_number}
use Rattle.season_bytes.proofs.without_room.Goals as goal

pub returns-in_err-replay : goal.returns-in_err-replay
returns-in_err-replay c =
    let e = c.in_err-replay.field-0.0.refusal in
    ap number_in (passed_on _ _ c.from_residual.ensures)
    ∙ or_else_first _ 10 (number_of e) (ap (λ (r : Replayed). r.number) c.in_err-replay.ensures ∙ an_answer_has_the_number c.args.s.now) (number_some e)

pub returns : goal.returns
returns c =
    or_else_next _ 10 0 10 (ap (λ (r : Replayed). r.number) c.in_ok-replay.ensures ∙ an_answer_has_the_number c.args.s.now) refl refl
