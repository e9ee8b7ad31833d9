-- `pieces::put_effects` meets its contract. The loop's invariant: the bytes written so far and the effects that are left make the whole.
use native.Mathlib.Omega.{arith}
use Prim.Native.Nat.{◌+◌, ◌*◌}
use mathlib.Core.Path.{◌∙◌}
use lib.ListN.{take}
use lib.Seq.{length-sets}
use Rattle.settings.specs.Signals.{no_effect}
use Rattle.bits.proofs.Lists.{store_turn, store_ends}
use Rattle.layout.specs.Entries.{put_effect}
use Rattle.pieces.proofs.Opening.{effect_length}
use Rattle.pieces.proofs.put_effects.Goals as goal

pub loop-i-preserved : goal.loop-i-preserved
loop-i-preserved c =
    let l = c.loop-i in
    let a = c.args in
    let stored = rw c.effect_place.ensures at c.put_effect.ensures in (
      rw (stored, length-sets) l.invariant.0,
      rw stored (store_turn put_effect 6 effect_length l.s a.at l.i (take a.n a.effects) no_effect (omega arith) ∙ l.invariant.1),
    )

pub returns-clause-s_after : goal.returns-clause-s_after
returns-clause-s_after c =
    let l = c.loop-i in
    let a = c.args in
    store_ends put_effect _ _ (a.at + 6 * l.i) l.i (take a.n a.effects) (omega arith) l.invariant.1
