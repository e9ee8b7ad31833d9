-- `now_table::put_effects` meets its contract. The loop's invariant: the lines of the effects so far were put.
use Prim.Native.Nat.{◌*◌, ◌≤◌}
use lib.ListN.{length}
use Rattle.wording.specs.Puts.{Puts}
use Rattle.now_table.specs.Lines.{most_now_line, standing_lines}
use Rattle.now_table.proofs.put_effects.Given as goal

abbrev pub invariant-loop-i : goal.invariant-loop-i
invariant-loop-i l =
    Puts l.initial.out l.at (standing_lines l.st l.x l.i) l.next l.out × (length (standing_lines l.st l.x l.i) ≤ most_now_line * l.i)
