-- The buffer keeps its length.
use Rattle.std.proofs.Common.{◌≡◌, length}
use Rattle.streams.proofs.answer_each.Given as goal

abbrev pub invariant-loop : goal.invariant-loop
invariant-loop g l = length l.case ≡ length l.initial.case
