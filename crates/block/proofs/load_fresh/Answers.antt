-- `block::load_fresh` meets its contract: the array holds what the settings give, and no more.
use mathlib.Core.Path.{ap, ◌∙◌}
use Rattle.plans.specs.Plans.{wired_into}
use Rattle.block.proofs.Loads.{loaded_fresh}
use Rattle.block.proofs.load_fresh.Goals as goal

pub returns : goal.returns
returns c =
    loaded_fresh c.args.st c.requires.0 c.requires.2 (c.wire.ensures ∙ ap (wired_into c.args.st) c.requires.1)
