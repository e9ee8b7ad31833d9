-- `block::reached` meets its contract: the slots are those that the words show.
use Rattle.block.proofs.reached.Goals as goal

pub returns : goal.returns
returns c = rw c.slots_of.ensures
