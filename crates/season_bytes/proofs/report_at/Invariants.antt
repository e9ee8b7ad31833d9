-- `season_bytes::report_at` meets its contract. The loop's invariant: the sums before k stand, and the rest is 0.
use mathlib.Core.Path.{◌≡◌}
use mathlib.Core.List.{◌++◌}
use Prim.Native.Nat.{◌*◌}
use lib.ListN.{drop, replicate}
use Rattle.bits.specs.Numbers.{num_at}
use Rattle.bits.specs.Lists.{tabulate}
use Rattle.tally.specs.Tally.{sum_count}
use Rattle.numbers.specs.Numbers.{number_bytes}
use Rattle.season_bytes.proofs.report_at.Given as goal

abbrev pub invariant-loop-k : goal.invariant-loop-k
invariant-loop-k l = l.sum-items ≡ tabulate (λ i. num_at number_bytes l.bytes (number_bytes * i)) l.k ++ drop l.k (replicate sum_count 0)
