-- `settings::effect_ok` meets its contract, from what its callees ensure and the tests on the way.
use Rattle.settings.proofs.effect_ok.Goals as goal

pub returns : goal.returns
returns c = rw c.within.ensures
