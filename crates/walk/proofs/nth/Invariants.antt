-- `walk::nth` meets its contract. The loop's invariant: the walk is on the bytes that were passed, and i steps on from the start.
use mathlib.Core.Path.{◌≡◌}
use Rattle.walk.specs.Walks.{start_of, walked}
use Rattle.walk.proofs.nth.Given as goal

abbrev pub invariant-loop-i : goal.invariant-loop-i
invariant-loop-i l = (l.walk.bytes.now ≡ l.bytes) × (l.walk ≡ walked l.i (start_of l.walk.bytes).walk)
