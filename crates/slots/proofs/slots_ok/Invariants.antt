-- `slots::slots_ok` meets its contract. The loop's invariant: the slots before i passed.
use mathlib.Core.Path.{◌≡◌}
use lib.ListN.{drop}
use Rattle.bits.specs.Lists.{all_from}
use Rattle.slots.specs.Slots.{slot_ok}
use Rattle.slots.proofs.slots_ok.Given as goal

abbrev pub invariant-loop-i : goal.invariant-loop-i
invariant-loop-i l = all_from (slot_ok l.st) l.i (drop l.i l.fn.slots) ≡ all_from (slot_ok l.st) 0 l.fn.slots
