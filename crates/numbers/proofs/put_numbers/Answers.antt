-- `numbers::put_numbers` meets its contract. The loop's invariant: the numbers written so far and those that are left make the whole.
use mathlib.Core.Path.{◌∙◌}
use Prim.Native.Nat.{◌*◌, ◌+◌}
use native.Mathlib.Nat.{zero-add}
use native.Mathlib.Omega.{arith}
use lib.Seq.{length-sets}
use Rattle.bits.specs.Numbers.{digits}
use Rattle.bits.proofs.Lists.{store_turn, store_ends}
use Rattle.bits.proofs.Numbers.{length_digits}
use Rattle.numbers.specs.Numbers.{number_bytes}
use Rattle.numbers.proofs.put_numbers.Goals as goal

pub loop-i-preserved : goal.loop-i-preserved
loop-i-preserved c =
    let l = c.loop-i in
    let e = c.put.ensures in (
      rw (e, length-sets) l.invariant.0,
      rw (e, ← zero-add (number_bytes * l.i))
          (store_turn (digits number_bytes) number_bytes (length_digits number_bytes) l.out 0 l.i c.args.values.now 0 (omega arith) ∙ l.invariant.1),
    )

pub returns : goal.returns
returns c =
    let l = c.loop-i in
    store_ends (digits number_bytes) _ _ (0 + number_bytes * l.i) l.i c.args.values.now (omega arith) l.invariant.1
