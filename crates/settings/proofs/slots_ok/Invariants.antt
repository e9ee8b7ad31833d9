-- `settings::slots_ok` meets its contract. The loop's invariant: the slots before i passed.
use mathlib.Core.Path.{◌≡◌}
use lib.ListN.{drop}
use Rattle.bits.specs.Lists.{all_from}
use Rattle.settings.specs.Right.{slot_ok}
use Rattle.settings.proofs.slots_ok.Given as goal

abbrev pub invariant-loop-i : goal.invariant-loop-i
invariant-loop-i l = all_from (slot_ok l.known) l.i (drop l.i l.fn.effects) ≡ all_from (slot_ok l.known) 0 l.fn.effects
