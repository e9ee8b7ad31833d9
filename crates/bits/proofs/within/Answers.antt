-- `bits::within` meets its contract: a shift by less than 16 is exact, and a word has no bit at 16 or above.
use mathlib.Core.Path.{ap, sym}
use Prim.Native.Nat.{◌^◌, ◌<◌, ◌≤◌}
use lib.Dec.{ltb}
use native.Mathlib.Nat.{one-mul, mod-eq_of_lt}
use native.Mathlib.Omega.{arith}
use lib.Pow.{pow_mono}
use borrow.Author.Tests.{lt-ltb}
use Rattle.bits.proofs.within.Goals as goal

pub returns-then-n-lt16 : goal.returns-then-n-lt16
returns-then-n-lt16 c =
    let h : c.args.n ≤ 16 = omega arith in
    rw one-mul (ap (ltb c.args.word) (mod-eq_of_lt (omega (arith, pow_mono h))))

pub returns-else-n-lt16 : goal.returns-else-n-lt16
returns-else-n-lt16 c =
    let h : 16 ≤ c.args.n = omega arith in
    let f : c.args.word < 2 ^ c.args.n = omega (arith, pow_mono h) in
    sym (lt-ltb _ _ f)
