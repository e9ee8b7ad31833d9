-- `wiring::asked_by` meets its contract, from what its callees ensure and the two cases of its tests.
use Rattle.std.proofs.Common.{◌≡◌, cond, sym, ◌∙◌}
use Rattle.settings.specs.Signals.{forces_count}
use Rattle.wiring.specs.Wiring.{asked_by}
use Rattle.wiring.proofs.asked_by.Goals as goal
use Rattle.wiring.proofs.asked_by.Goals.{then-counts, else-counts, then-counts-2, else-counts-2}

pub returns : goal.returns
unfolding asked_by
returns c =
    let a = c.args in
    let counts = sym c.forces_count-counts.ensures in
    let trip : c.if-counts.result ≡ cond (forces_count a.plan.options a.w) a.w.force_trip 0 =
    elim c.if-counts.branch [
      | then-counts w ↦ rw (w.result-is, counts ∙ w.if-counts.true)
      | else-counts w ↦ rw (w.result-is, counts ∙ w.if-counts.false)
    ]
    in
    let normal : c.if-counts-2.result ≡ cond (forces_count a.plan.options a.w) a.w.force_normal 0 =
    elim c.if-counts-2.branch [
      | then-counts-2 w ↦ rw (w.result-is, counts ∙ w.if-counts-2.true)
      | else-counts-2 w ↦ rw (w.result-is, counts ∙ w.if-counts-2.false)
    ]
    in
    rw (c.watching-2.ensures, c.watching.ensures, trip, normal)
