-- `block::load` meets its contract: the array holds what the settings and the slots give.
use mathlib.Core.Path.{ap, ◌∙◌}
use Rattle.cells.specs.Loaded.{loaded_into}
use Rattle.plans.specs.Plans.{wired_into}
use Rattle.block.proofs.Loads.{loaded}
use Rattle.block.proofs.load.Goals as goal

pub returns : goal.returns
returns c =
    loaded c.args.st c.requires.0 c.args.x c.load-planes.ensures.0
    (c.load-planes.ensures.1 ∙ ap (loaded_into c.args.st.count c.args.x.slots) (c.wire.ensures ∙ ap (wired_into c.args.st) c.requires.1))
