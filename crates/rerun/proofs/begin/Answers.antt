-- `rerun::begin` meets its contract, from what its callees ensure of the settings and the fresh state.
use mathlib.Core.Path.{ap}
use Rattle.cells.specs.declared.Plan.{Plan}
use Rattle.plans.specs.Plans.{plan_of}
use Rattle.rerun.proofs.begin.Goals as goal

pub load_fresh-mark-requires : goal.load_fresh-mark-requires
unfolding plan_of
load_fresh-mark-requires c = (c.requires.0, c.requires.1, ap (λ (p : Plan). p.all) c.plan_of-plan.ensures)
