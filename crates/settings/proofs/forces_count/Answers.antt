-- `settings::forces_count` meets its contract, from what its callees ensure and the tests on the way.
use Rattle.settings.proofs.forces_count.Goals as goal

pub returns : goal.returns
returns c = rw c.bit.ensures
