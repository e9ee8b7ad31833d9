-- `text::put_line` meets its contract: its halves, one after the other, and the reason where there is one.
use mathlib.Core.List.{◌++◌}
use Rattle.bits.proofs.Puts.{put_then}
use Rattle.text.specs.Pieces.{when, change}
use Rattle.text.proofs.Lines.{plain, told, end}
use Rattle.text.proofs.put_line.Goals as goal

pub returns-in-None : goal.returns-in-None
returns-in-None c =
    let a = c.args in
    rw (c.in-None.is, plain a.associations.now a.e) (put_then a.out.now _ _ a.at _ _ (when a.e) (change a.e 10) c.put_when-from.ensures c.put_change.ensures)

pub returns-in-Some : goal.returns-in-Some
returns-in-Some c =
    let a = c.args in
    let last = end a.associations.now a.e c.in-Some.sight in
    let later = put_then _ _ _ _ _ _ (change a.e 32) last c.put_change-last.ensures (rw c.reason_in-r.ensures at c.put_end.ensures) in
    rw (c.in-Some.is, told a.associations.now a.e c.in-Some.sight) (put_then a.out.now _ _ a.at _ _ (when a.e) (change a.e 32 ++ last) c.put_when-from.ensures later)
