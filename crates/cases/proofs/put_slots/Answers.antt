-- `cases::put_slots` meets its contract. The loop's invariant: the slots written so far and those that are left make the whole.
use mathlib.Core.Path.{◌∙◌}
use Prim.Native.Nat.{◌+◌, ◌*◌}
use native.Mathlib.Omega.{arith}
use lib.Seq.{length-sets}
use Rattle.bits.proofs.Lists.{length-flat_map, store_turn, store_ends}
use Rattle.rules.specs.Rules.{no_slot}
use Rattle.cases.specs.Answers.{slot_bytes}
use Rattle.cases.proofs.Joined.{length-slot}
use Rattle.cases.proofs.put_slots.Goals as goal

pub loop-i-preserved : goal.loop-i-preserved
loop-i-preserved c =
    let e = c.put_slot.ensures in
    (rw (e, length-sets) c.loop-i.invariant.0, rw e (store_turn slot_bytes 7 length-slot c.loop-i.out c.args.at c.loop-i.i c.args.xs no_slot (omega arith) ∙ c.loop-i.invariant.1))

pub returns : goal.returns
returns c = record {
  out_after = store_ends slot_bytes _ _ (c.args.at + 7 * c.loop-i.i) c.loop-i.i c.args.xs (omega arith) c.loop-i.invariant.1;
  xs_len = omega (arith, length-flat_map slot_bytes 7 length-slot c.args.xs);
}
