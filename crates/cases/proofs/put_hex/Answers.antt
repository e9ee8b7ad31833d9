-- `cases::put_hex` meets its contract. The loop's invariant: the digits written so far and those that are left make the whole.
use mathlib.Core.Path.{refl, ◌∙◌}
use Prim.Native.Nat.{◌+◌, ◌*◌}
use native.Mathlib.Omega.{arith}
use lib.Seq.{length-sets}
use Rattle.bits.proofs.Lists.{store_turn, store_ends}
use Rattle.cases.specs.Answers.{hex_byte}
use Rattle.cases.proofs.put_hex.Goals as goal

pub loop-i-preserved : goal.loop-i-preserved
loop-i-preserved c =
    let e = c.put_hex_byte.ensures in
    (rw (e, length-sets) c.loop-i.invariant.0, rw e (store_turn hex_byte 2 (λ b. refl) c.loop-i.out c.args.at c.loop-i.i c.args.src.now 0 (omega arith) ∙ c.loop-i.invariant.1))

pub returns : goal.returns
returns c =
    store_ends hex_byte _ _ (c.args.at + 2 * c.loop-i.i) c.loop-i.i c.args.src.now (omega arith) c.loop-i.invariant.1
