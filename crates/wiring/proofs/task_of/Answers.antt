-- `wiring::task_of` meets its contract, from what its callees ensure.
use Rattle.wiring.proofs.task_of.Goals as goal

pub returns : goal.returns
returns c = rw (c.asked_by.ensures, c.watched_of-seen.ensures)
