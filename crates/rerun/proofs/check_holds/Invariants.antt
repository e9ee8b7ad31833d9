-- `rerun::check_holds` meets its contract. The loop's invariant is `Reached`: the holds so far are the scans done.
use Prim.Native.Nat.{◌+◌, ◌*◌}
use Rattle.rerun.proofs.Stops.{Reached}
use Rattle.rerun.proofs.check_holds.Given as goal

abbrev pub invariant-loop-passed : goal.invariant-loop-passed
invariant-loop-passed l = Reached l.s l.file.width l.done (l.file.first + l.file.width * l.passed) l.passed
