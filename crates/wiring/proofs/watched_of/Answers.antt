-- `wiring::watched_of` meets its contract, from what its callee ensures.
use Rattle.wiring.proofs.watched_of.Goals as goal

pub returns : goal.returns
returns c = rw c.seen_of-seen.ensures
