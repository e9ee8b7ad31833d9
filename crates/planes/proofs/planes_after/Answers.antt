-- `planes::planes_after` meets its contract: the code is the definition.
use mathlib.Core.Path.{refl}
use Rattle.planes.specs.Planes.{planes_after}
use Rattle.planes.proofs.planes_after.Goals as goal

pub returns : goal.returns
unfolding planes_after
returns c = refl
