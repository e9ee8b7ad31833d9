-- `layout::effects_at` meets its contract: each effect that is read goes behind those before it.
use Prim.Native.Nat.{◌+◌, ◌*◌}
use native.Mathlib.Omega.{arith}
use mathlib.Core.Path.{refl}
use Rattle.settings.specs.Signals.{no_effect}
use Rattle.layout.proofs.Lists.{fill_list}
use Rattle.layout.proofs.effects_at.Goals as goal

pub loop-i-preserved : goal.loop-i-preserved
loop-i-preserved c =
    let l = c.loop-i in
    let a = c.args in
    fill_list _ 6 a.at 16 l.i (a.at + 6 * l.i) no_effect c.effect_at.result l.effects l.invariant refl (rw c.width_of-width.ensures at c.effect_at.ensures) (omega arith)
