-- `standing::tell_all` meets its contract. The loop's invariant: with the events that are left, of any whose records these are, the slots
-- would be those after all of them.
use mathlib.Core.Path.{◌≡◌}
use mathlib.Core.List.{List}
use lib.ListN.{length, drop}
use Rattle.effects.specs.declared.Event.{Event}
use Rattle.effects.specs.Records.{StandFrom}
use Rattle.standing.specs.Stands.{told_all}
use Rattle.standing.proofs.tell_all.Given as goal

abbrev pub invariant-loop-i : goal.invariant-loop-i
invariant-loop-i l =
    ((es : List Event) → length es ≡ l.n → StandFrom l.records 0 es → told_all l.scan (drop l.i es) l.slots ≡ told_all l.scan es l.initial.slots)
