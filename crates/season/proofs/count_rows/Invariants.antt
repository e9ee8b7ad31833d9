-- `season::count_rows` meets its contract. The loop's invariant is `Tallying`: the count is that of the events of the rows so far.
use Prim.Native.Nat.{◌-◌}
use Rattle.tally.specs.Shown.{shown}
use Rattle.season.specs.Rows.{Tallying}
use Rattle.season.proofs.count_rows.Given as goal

abbrev pub invariant-loop-t : goal.invariant-loop-t
invariant-loop-t l = Tallying l.s l.t l.board (shown l.count)

abbrev pub decreases-loop-t : goal.decreases-loop-t
decreases-loop-t l = l.t.row_count - l.t.rows
