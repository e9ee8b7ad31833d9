-- `cases::fill` meets its contract. The loop's invariant: the first i bytes are filled, and the others stay.
use mathlib.Core.List.{◌++◌}
use mathlib.Core.Path.{◌≡◌}
use lib.ListN.{length, drop}
use Rattle.bits.specs.Lists.{tabulate}
use Rattle.cases.specs.Given.{fill_at}
use Rattle.cases.proofs.fill.Given as goal

abbrev pub invariant-loop-i : goal.invariant-loop-i
invariant-loop-i l = (length l.buf ≡ length l.initial.buf) × (l.buf ≡ tabulate fill_at l.i ++ drop l.i l.initial.buf)
