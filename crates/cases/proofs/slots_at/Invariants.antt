-- `cases::slots_at` meets its contract. The loop's invariant: the first i slots are read.
use mathlib.Core.Path.{◌≡◌}
use lib.ListN.{length}
use Rattle.cases.specs.Given.{SlotsAt}
use Rattle.cases.proofs.slots_at.Given as goal

abbrev pub invariant-loop-i : goal.invariant-loop-i
invariant-loop-i l = (length l.slot-items ≡ 16) × SlotsAt l.s l.at l.i l.slot-items
