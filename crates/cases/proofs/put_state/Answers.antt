-- `cases::put_state` meets its contract: three runs of stores, one after another, are one.
use mathlib.Core.List.{◌++◌, flat_map}
use mathlib.Core.Path.{refl}
use native.Mathlib.Omega.{arith}
use Rattle.bits.proofs.Numbers.{sets_then}
use Rattle.bits.specs.Numbers.{digits}
use Rattle.cases.specs.Answers.{slot_bytes, state_bytes}
use Rattle.cases.proofs.put_state.Goals as goal

pub returns : goal.returns
unfolding state_bytes
returns c =
    let a = c.args in
    let l = a.out.now in
    let two = sets_then l _ _ a.at 4 (digits 4 a.x.scans_done) (digits 2 a.x.next) c.put.ensures c.put-2.ensures refl in
    let slots = c.put_slots.ensures in record {
      out_after = sets_then l _ _ a.at 6 (digits 4 a.x.scans_done ++ digits 2 a.x.next) (flat_map slot_bytes a.x.slots) two slots.out_after refl;
      x_len = omega (arith, slots.xs_len);
    }
