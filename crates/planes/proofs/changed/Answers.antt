-- `planes::changed` meets its contract: the code is the definition.
use mathlib.Core.Path.{refl}
use Rattle.planes.specs.Planes.{changed_of}
use Rattle.planes.proofs.changed.Goals as goal

pub returns : goal.returns
unfolding changed_of
returns c = refl
