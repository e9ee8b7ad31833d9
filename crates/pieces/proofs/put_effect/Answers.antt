-- `pieces::put_effect` meets its contract, from what its callees ensure and the tests on the way.
use mathlib.Core.Path.{refl}
use Rattle.bits.specs.Numbers.{digits}
use Rattle.bits.proofs.Numbers.{sets_then}
use Rattle.layout.specs.Entries.{put_effect}
use Rattle.pieces.proofs.put_effect.Goals as goal

pub returns : goal.returns
unfolding put_effect
returns c =
    let a = c.args in
    sets_then a.s.now _ _ a.at 2 (digits 2 a.e.association) (digits 4 a.e.delay) c.put.ensures c.put-2.ensures refl
