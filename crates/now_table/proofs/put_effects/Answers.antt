-- `now_table::put_effects` meets its contract. The loop's invariant: the lines of the effects so far were put.
use mathlib.Core.Path.{◌≡◌}
use native.Mathlib.Omega.{arith}
use Rattle.bits.proofs.Puts.{put_then}
use Rattle.now_table.specs.Lines.{standing_lines}
use Rattle.now_table.proofs.Lines.{line_at, one_more, length_more, short}
use Rattle.now_table.proofs.put_effects.Goals as goal

pub put_effect-next-requires : goal.put_effect-next-requires
put_effect-next-requires c =
    let a = c.args in
    -- the line of the next effect is short
    let line_short = short a.st a.x c.loop-i.i c.requires.1 (omega (arith, c.requires.0)) c.slot_now-slot.result c.slot_now-slot.ensures (omega (arith, c.slot_now-slot.type_inv)) (omega (arith, c.slot_now-slot.type_inv)) in
    let v = c.loop-i.invariant in
    rw (c.reason_now-reason.ensures, c.slot_now-slot.ensures) (omega (arith, line_short, c.requires.0, c.requires.2, v.0.0, v.1))

pub loop-i-preserved : goal.loop-i-preserved
loop-i-preserved c =
    let a = c.args in
    -- the line of the next effect is short
    let line_short = short a.st a.x c.loop-i.i c.requires.1 (omega (arith, c.requires.0)) c.slot_now-slot.result c.slot_now-slot.ensures (omega (arith, c.slot_now-slot.type_inv)) (omega (arith, c.slot_now-slot.type_inv)) in
    let i = c.loop-i.i in
    let v = c.loop-i.invariant in
    let p = rw (c.reason_now-reason.ensures, c.slot_now-slot.ensures) at c.put_effect-next.ensures in
    let put = put_then a.out.now _ _ a.at _ _ (standing_lines a.st a.x i) (line_at a.st a.x i) v.0 p in
    (rw (one_more a.st a.x i) put, omega (arith, length_more a.st a.x i, line_short, v.1))

pub returns : goal.returns
returns c =
    let v = c.loop-i.invariant in
    let all : c.loop-i.i ≡ c.args.st.count = omega arith in record {
      value = rw all at v.0;
      upper_bound = omega (arith, v.0.0, v.1, all, c.requires.0, c.requires.2);
    }
