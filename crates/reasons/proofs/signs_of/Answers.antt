-- `reasons::signs_of` meets its contract: a word and what is seen of the causes have 16 bits together.
use Rattle.reasons.specs.Given.{signs_in}
use Rattle.reasons.proofs.signs_of.Goals as goal

pub returns : goal.returns
unfolding signs_in
returns c = rw (c.bit.ensures, c.bit-2.ensures)
