-- `pieces::put_effects` meets its contract. The loop's invariant: the bytes written so far and the effects that are left make the whole.
use Prim.Native.Nat.{◌+◌, ◌*◌}
use mathlib.Core.Path.{◌≡◌}
use mathlib.Core.List.{flat_map}
use lib.ListN.{length, take, drop}
use lib.Seq.{sets}
use Rattle.layout.specs.Entries.{put_effect}
use Rattle.pieces.proofs.put_effects.Given as goal

abbrev pub invariant-loop-i : goal.invariant-loop-i
invariant-loop-i l =
    (length l.s ≡ length l.fn.s)
    × (sets l.s (l.at + 6 * l.i) (flat_map put_effect (drop l.i (take l.fn.n l.fn.effects))) ≡ sets l.fn.s l.at (flat_map put_effect (take l.fn.n l.fn.effects)))
