-- `rerun::go` meets its contract: `Passed` is the loop's invariant, and the laws of `Passing` are those of its turns.
use Prim.Native.Nat.{◌-◌}
use Rattle.rerun.proofs.Passing.{Passed}
use Rattle.rerun.proofs.go.Given as goal

abbrev pub invariant-loop-t : goal.invariant-loop-t
invariant-loop-t l = Passed l.s l.initial.t l.until l.keep l.initial.buf l.t l.board l.buf

abbrev pub decreases-loop-t : goal.decreases-loop-t
decreases-loop-t l = l.until - l.t.rows
