-- `bits::put_bit` meets its contract, by the law of a bit that is put in above the others.
use native.Mathlib.Nat.{add-zero}
use Rattle.bits.proofs.Words.{set-bit}
use Rattle.bits.proofs.put_bit.Goals as goal

pub returns-then-b : goal.returns-then-b
returns-then-b c =
    let a = c.args in
    simp c.if-b.true (set-bit a.word a.i c.requires.1 c.requires.0)

pub returns-else-b : goal.returns-else-b
returns-else-b c = simp (c.if-b.false, add-zero)
