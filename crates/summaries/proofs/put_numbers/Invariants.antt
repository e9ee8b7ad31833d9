-- `summaries::put_numbers` meets its contract. The loop's invariant: the fields so far are put, a comma behind each.
use Prim.Native.Nat.{◌+◌, ◌*◌, ◌≤◌}
use Rattle.wording.specs.Puts.{Puts}
use Rattle.wording.proofs.Turns.{first}
use Rattle.summaries.specs.Summaries.{most_number}
use Rattle.summaries.proofs.Fields.{comma}
use Rattle.summaries.proofs.put_numbers.Given as goal

abbrev pub invariant-loop-field : goal.invariant-loop-field
invariant-loop-field l = Puts l.initial.out l.at (first comma l.field-items l.field-index) l.next l.out × (l.next ≤ l.at + most_number * l.field-index)
