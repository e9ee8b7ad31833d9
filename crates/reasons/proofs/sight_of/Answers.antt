-- `reasons::sight_of` meets its contract, from what its callees ensure and the two cases of its tests.
use Rattle.std.proofs.Common.{◌≡◌, cond, sym, ◌∙◌}
use Rattle.settings.specs.Signals.{forces_count}
use Rattle.reasons.specs.Given.{sight_of}
use Rattle.reasons.proofs.sight_of.Goals as goal
use Rattle.reasons.proofs.sight_of.Goals.{then-counts, else-counts, then-counts-2, else-counts-2}

pub returns : goal.returns
unfolding sight_of
returns c =
    let a = c.args in
    let counts = sym c.forces_count-counts.ensures in
    let trip : c.if-counts.result ≡ cond (forces_count a.options a.w) a.w.force_trip 0 =
    elim c.if-counts.branch [
      | then-counts w ↦ rw (w.result-is, counts ∙ w.if-counts.true)
      | else-counts w ↦ rw (w.result-is, counts ∙ w.if-counts.false)
    ]
    in
    let normal : c.if-counts-2.result ≡ cond (forces_count a.options a.w) a.w.force_normal 0 =
    elim c.if-counts-2.branch [
      | then-counts-2 w ↦ rw (w.result-is, counts ∙ w.if-counts-2.true)
      | else-counts-2 w ↦ rw (w.result-is, counts ∙ w.if-counts-2.false)
    ]
    in
    rw (c.seen_of.ensures, trip, normal)
