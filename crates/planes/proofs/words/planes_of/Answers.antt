-- `planes::words::planes_of` meets its contract, from what its callee ensures.
use Rattle.planes.specs.Planes.{planes_of}
use Rattle.planes.proofs.words.planes_of.Goals as goal

pub returns : goal.returns
unfolding planes_of
returns c =
    rw (c.plane-6.ensures, c.plane-5.ensures, c.plane-4.ensures, c.plane-3.ensures, c.plane-2.ensures, c.plane.ensures)
