-- `cells::slots::slots_of` meets its contract. The loop's invariant: the slots before i are filled, and the rest are of no effect.
use mathlib.Core.Path.{◌≡◌}
use mathlib.Core.List.{◌++◌}
use lib.ListN.{drop, replicate}
use Rattle.bits.specs.Lists.{tabulate}
use Rattle.rules.specs.Rules.{no_slot}
use Rattle.boards.specs.Table.{slot_at}
use Rattle.cells.specs.Loaded.{table_in}
use Rattle.cells.proofs.slots.slots_of.Given as goal

abbrev pub invariant-loop-i : goal.invariant-loop-i
invariant-loop-i l = l.xs ≡ tabulate (slot_at (table_in l.planes l.board)) l.i ++ drop l.i (replicate 16 no_slot)
