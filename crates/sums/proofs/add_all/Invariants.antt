-- `sums::add_all` meets its contract. The loop's invariant: the sums before k stand, and the rest is as it was.
use mathlib.Core.Path.{◌≡◌}
use mathlib.Core.List.{◌++◌}
use Prim.Native.Nat.{◌+◌}
use lib.ListN.{drop, get_or}
use Rattle.bits.specs.Lists.{tabulate}
use Rattle.sums.proofs.add_all.Given as goal

abbrev pub invariant-loop-k : goal.invariant-loop-k
invariant-loop-k l = l.a ≡ tabulate (λ i. get_or l.fn.a i 0 + get_or l.b i 0) l.k ++ drop l.k l.fn.a
