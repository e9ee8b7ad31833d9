-- `findings::spot_of` meets its contract: from the places after the sections and the tests on the way.
use mathlib.Core.Path.{sym, ◌∙◌}
use Rattle.findings.proofs.Spots.{in_block, in_effects, in_rows, past}
use Rattle.findings.proofs.spot_of.Goals as goal

pub returns-then-p-effects : goal.returns-then-p-effects
returns-then-p-effects c =
    let a = c.args in
    c.spot_in.ensures ∙ sym (in_block a.s.now a.p _ c.after_section-effects.ensures.value c.if-p-effects.true)

pub returns-then-p-rows : goal.returns-then-p-rows
returns-then-p-rows c =
    let a = c.args in
    c.spot_in-then-p-rows.ensures ∙ sym (in_effects a.s.now a.p _ c.after_section-effects.ensures.value _ c.after_section-rows.ensures.value c.if-p-effects.false c.if-p-rows.true)

pub returns-then-p-end : goal.returns-then-p-end
returns-then-p-end c =
    let a = c.args in
    c.spot_in-then-p-end.ensures
    ∙ sym (in_rows a.s.now a.p _ c.after_section-effects.ensures.value _ c.after_section-rows.ensures.value c.if-p-effects.false _ c.after_section-end.ensures.value c.if-p-rows.false c.if-p-end.true)

pub returns : goal.returns
returns c =
    let a = c.args in
    sym (past a.s.now a.p _ c.after_section-effects.ensures.value _ c.after_section-rows.ensures.value c.if-p-effects.false _ c.after_section-end.ensures.value c.if-p-rows.false c.if-p-end.false)
