-- `block::exercised_scans` meets its contract: the hold times 1, or times 0.
use mathlib.Core.Path.{sym}
use native.Mathlib.Nat.{mul-one, mul-zero}
use Rattle.block.proofs.exercised_scans.Goals as goal

pub returns-then-exercised : goal.returns-then-exercised
returns-then-exercised c = rw c.if-exercised.true (sym (mul-one _))

pub returns-else-exercised : goal.returns-else-exercised
returns-else-exercised c = rw c.if-exercised.false (sym (mul-zero _))
