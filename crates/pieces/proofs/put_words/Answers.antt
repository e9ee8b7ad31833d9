-- `pieces::put_words` meets its contract. The loop's invariant: the words written so far and those that are left make the whole.
use mathlib.Core.Path.{◌∙◌}
use Prim.Native.Nat.{◌+◌, ◌*◌}
use native.Mathlib.Omega.{arith}
use lib.Seq.{length-sets}
use Rattle.bits.specs.Numbers.{digits}
use Rattle.bits.proofs.Lists.{store_turn, store_ends}
use Rattle.bits.proofs.Numbers.{length_digits}
use Rattle.pieces.proofs.put_words.Goals as goal

pub loop-i-preserved : goal.loop-i-preserved
loop-i-preserved c =
    let l = c.loop-i in
    let a = c.args in (
      rw (c.put.ensures, length-sets) l.invariant.0,
      rw c.put.ensures (store_turn (digits 2) 2 (length_digits 2) l.s a.at l.i a.words.now 0 (omega arith) ∙ l.invariant.1),
    )

pub returns : goal.returns
returns c =
    let l = c.loop-i in
    store_ends (digits 2) _ _ (c.args.at + 2 * l.i) l.i c.args.words.now (omega arith) l.invariant.1
