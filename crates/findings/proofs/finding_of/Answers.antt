-- `findings::finding_of` meets its contract: 0 refuses nothing, and every refusal has a number.
use mathlib.Core.Path.{sym, ◌∙◌}
use Rattle.settings.specs.Refusals.{number_of}
use Rattle.settings.proofs.Refusals.{granted_refused, number_some}
use Rattle.findings.specs.Findings.{finding_of}
use Rattle.findings.proofs.finding_of.Goals as goal

pub returns-in-Some : goal.returns-in-Some
unfolding finding_of
returns-in-Some c =
    let e = c.in-Some.refused in
    rw c.in-Some.is (rw c.spot_of.ensures at c.finding_in.ensures ∙ sym (granted_refused _ _ (number_of e.refusal) (number_some e.refusal)))

pub returns-in-None : goal.returns-in-None
unfolding finding_of
returns-in-None c = rw c.in-None.is
