-- `season_table::put_sums` meets its contract. The loop's invariant: the first sums stand.
use Prim.Native.Nat.{◌+◌, ◌*◌, ◌≤◌}
use Rattle.wording.specs.Puts.{Puts}
use Rattle.season_table.specs.Pieces.{sums_text, most_spaced}
use Rattle.season_table.proofs.put_sums.Given as goal

abbrev pub invariant-loop-sum : goal.invariant-loop-sum
invariant-loop-sum l = (l.next ≤ l.at + most_spaced * l.sum-index) × Puts l.initial.out l.at (sums_text l.sums l.i l.sum-index) l.next l.out
