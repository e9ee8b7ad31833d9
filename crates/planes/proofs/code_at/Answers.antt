-- `planes::code_at` meets its contract, from what its callees ensure.
use Rattle.planes.specs.Planes.{code_at}
use Rattle.planes.proofs.code_at.Goals as goal

pub returns : goal.returns
unfolding code_at
returns c = rw (c.one_bit-3.ensures.0, c.one_bit-2.ensures.0, c.one_bit.ensures.0)
