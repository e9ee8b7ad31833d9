-- `season_table::put_effects` meets its contract. The loop's invariant: the lines of the first i effects stand.
use Prim.Native.Nat.{◌+◌, ◌*◌, ◌≤◌}
use Rattle.wording.specs.Puts.{Puts}
use Rattle.season_table.specs.Lines.{effect_lines}
use Rattle.season_table.specs.Pieces.{most_effect_line}
use Rattle.season_table.proofs.put_effects.Given as goal

abbrev pub invariant-loop-i : goal.invariant-loop-i
invariant-loop-i l = (l.next ≤ l.at + most_effect_line * l.i) × Puts l.initial.out l.at (effect_lines l.sums l.i) l.next l.out
