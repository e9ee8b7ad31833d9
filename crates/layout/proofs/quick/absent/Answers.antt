-- `layout::quick::absent` meets its contract: a shift by less than 16 is exact, and a word has no bit at 16 or above.
use mathlib.Core.Path.{◌≡◌}
use Prim.Native.Nat.{ℕ, ◌*◌, ◌%◌, ◌^◌, ◌≤◌, ◌<◌}
use native.Mathlib.Nat.{one-mul, mod-eq_of_lt}
use native.Mathlib.Omega.{arith}
use lib.Pow.{pow_mono, pow_pos}
use Rattle.layout.proofs.quick.absent.Goals as goal

-- what the shift gives
exact : (n : ℕ) → n < 16 → (1 * 2 ^ n % 2 ^ 64 ≡ 2 ^ n) × (2 ^ n ≤ 65536)
exact n h =
    let few : n ≤ 16 = omega arith in
    let small : 2 ^ n ≤ 65536 = pow_mono few in
    (rw one-mul (mod-eq_of_lt (omega arith)), small)

pub overflow_sub-result : goal.overflow_sub-result
overflow_sub-result c = let e = exact c.args.n c.if-n-lt16.true in omega (arith, e.0, e.1)

pub returns-then-n-lt16 : goal.returns-then-n-lt16
returns-then-n-lt16 c =
    let e = exact c.args.n c.if-n-lt16.true in
    let some = pow_pos c.args.n in
    (omega (arith, e.0), omega (arith, e.0, some))

pub returns-else-n-lt16 : goal.returns-else-n-lt16
returns-else-n-lt16 c =
    let h : 16 ≤ c.args.n = omega arith in
    omega (arith, pow_mono h)
