-- `plans::watched_word` meets its contract. The loop's invariant: the word is the union of the first i association words.
use Rattle.std.proofs.Common.{◌≡◌}
use Rattle.plans.specs.Plans.{association_at, union_to}
use Rattle.plans.proofs.watched_word.Given as goal

abbrev pub invariant-loop-i : goal.invariant-loop-i
invariant-loop-i l = l.word ≡ union_to (association_at l.st) l.i
