-- `planes::words::slot_of` meets its contract, from what its callees ensure.
use Rattle.planes.proofs.words.slot_of.Goals as goal

pub returns : goal.returns
returns c = rw c.state_at.ensures
