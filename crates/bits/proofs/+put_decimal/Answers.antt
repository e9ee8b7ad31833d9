-- `bits::put_decimal` meets its contract. The number falls with each call of itself: the digits before the last are those of the
-- number without its last digit.
use Prim.Native.Nat.{◌/◌, ◌%◌}
use mathlib.Core.Path.{sym, ap, ◌∙◌}
use native.Mathlib.Omega.{arith}
use lib.ListN.{length}
use lib.Seq.{sets, length-sets}
use Rattle.bits.specs.Decimal.{digit, decimal}
use Rattle.bits.proofs.Decimal.{decimal_one, decimal_more, length-one, length_more}
use Rattle.bits.proofs.Numbers.{put_last}
use Rattle.bits.proofs.+put_decimal.Goals as goal

pub bounds-s-at : goal.bounds-s-at
bounds-s-at t c = omega (arith, length-one c.args.v (omega arith))

pub overflow_add-result : goal.overflow_add-result
overflow_add-result t c = omega (arith, length-one c.args.v (omega arith))

pub put_decimal-last-requires : goal.put_decimal-last-requires
put_decimal-last-requires t c = omega (arith, length_more c.args.v (omega arith))

pub bounds-s-last : goal.bounds-s-last
bounds-s-last t c =
    let a = c.args in
    let p = c.put_decimal-last.ensures in
    omega (arith, length_more a.v (omega arith), ap length p.1, length-sets a.s.now a.at (decimal (a.v / 10)))

pub overflow_add-result-else-v-lt10 : goal.overflow_add-result-else-v-lt10
overflow_add-result-else-v-lt10 t c = omega (arith, length_more c.args.v (omega arith))

pub returns-then-v-lt10 : goal.returns-then-v-lt10
returns-then-v-lt10 t c =
    let a = c.args in
    let one = decimal_one a.v (omega arith) in
    (omega (arith, ap length one), ap (sets a.s.now a.at) (sym one))

pub returns-else-v-lt10 : goal.returns-else-v-lt10
returns-else-v-lt10 t c =
    let a = c.args in
    let p = c.put_decimal-last.ensures in
    let more = decimal_more a.v (omega arith) in
    (omega (arith, length_more a.v (omega arith)), put_last a.s.now _ a.at _ (decimal (a.v / 10)) (digit (a.v % 10)) p.1 p.0 ∙ ap (sets a.s.now a.at) (sym more))
