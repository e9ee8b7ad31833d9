-- `cases::put_slot` meets its contract: three runs of stores, one after another, are one.
use mathlib.Core.List.{◌++◌}
use mathlib.Core.Path.{refl}
use Rattle.bits.proofs.Numbers.{sets_then}
use Rattle.bits.specs.Numbers.{digits}
use Rattle.rules.specs.Rules.{code}
use Rattle.cases.specs.Answers.{slot_bytes}
use Rattle.cases.proofs.put_slot.Goals as goal

pub returns : goal.returns
unfolding slot_bytes
returns c =
    let a = c.args in
    let l = a.out.now in
    let k = c.from.ensures in
    let two = sets_then l _ _ a.at 1 (digits 1 (code a.x.state)) (digits 4 a.x.timer) (rw k at c.put.ensures) c.put-2.ensures refl in
    sets_then l _ _ a.at 5 (digits 1 (code a.x.state) ++ digits 4 a.x.timer) (digits 2 a.x.first_out) two c.put-3.ensures refl
