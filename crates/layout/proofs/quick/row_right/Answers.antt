-- `layout::quick::row_right` meets its contract: the quick test holds exactly if the row's refusal number is 0.
use mathlib.Core.Path.{ap₂, ◌∙◌}
use mathlib.Core.Bool.{◌&&◌}
use Rattle.layout.proofs.Barred.{quick_is_number}
use Rattle.layout.proofs.quick.row_right.Goals as goal

pub returns : goal.returns
returns c k e =
    let w = c.words_right in
    let h = c.hold_right in
    let third = c.get-third in
    let second = c.get-second in
    let first = c.get-first in
    let a = c.args in
    ap₂ ◌&&◌ (ap₂ ◌&&◌ h.ensures w.ensures) c.forces_right.ensures
    ∙ quick_is_number k a.s.now a.at (λ i. (c.type_inv.s i).fits) a.b first.result second.result third.result e first.ensures second.ensures third.ensures
