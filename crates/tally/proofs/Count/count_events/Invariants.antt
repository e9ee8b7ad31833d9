-- `tally::Count::count_events` meets its contract. The loop's invariant: of the events whose records these are, with those that are left the
-- count would be whole, and they can be counted.
use mathlib.Core.Path.{◌≡◌}
use mathlib.Core.List.{List}
use lib.ListN.{length, drop}
use Rattle.effects.specs.declared.Event.{Event}
use Rattle.effects.specs.Records.{StandFrom}
use Rattle.tally.specs.Tally.{counted, AllCountable}
use Rattle.tally.specs.Shown.{shown}
use Rattle.tally.proofs.Count.count_events.Given as goal

abbrev pub invariant-loop-i : goal.invariant-loop-i
invariant-loop-i l =
    ((es : List Event) → length es ≡ l.n → StandFrom l.records 0 es → counted (drop l.i es) (shown l.self) ≡ counted es (shown l.initial.self))
    × ((es : List Event) → length es ≡ l.n → AllCountable es (shown l.initial.self) → StandFrom l.records 0 es → AllCountable (drop l.i es) (shown l.self))
