-- `tally::Count::close_all` meets its contract. The loop's invariant: the stretches of the first slots are closed.
use mathlib.Core.Path.{◌≡◌}
use Rattle.tally.specs.Tally.{closed_to}
use Rattle.tally.specs.Shown.{shown, with_sums}
use Rattle.tally.proofs.Count.close_all.Given as goal

abbrev pub invariant-loop-slot : goal.invariant-loop-slot
invariant-loop-slot l = l.self ≡ with_sums l.initial.self (closed_to l.slot l.scan (shown l.initial.self))
