-- The buffer keeps its length, and the step may be taken again.
use Rattle.std.proofs.Common.{◌≡◌, length}
use Rattle.streams.proofs.answer_each_sized.Given as goal

abbrev pub invariant-loop : goal.invariant-loop
invariant-loop g l = (length l.case ≡ length l.initial.case) × goal.A-IsAlwaysCallable g l.answer
