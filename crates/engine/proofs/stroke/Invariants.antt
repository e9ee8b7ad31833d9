-- `engine::stroke` meets its contract: a turn of the loop is a round, and the rest of the run gives what the whole gives.
use Rattle.engine.proofs.Loop.{Head}
use Rattle.engine.proofs.stroke.Given as goal

abbrev pub invariant-loop-left : goal.invariant-loop-left
invariant-loop-left l = Head l.plan l.task l.initial.board l.initial.buf l.initial.x l.w l.x l.board l.buf l.left l.fuel

abbrev pub decreases-loop-left : goal.decreases-loop-left
decreases-loop-left l = l.fuel
