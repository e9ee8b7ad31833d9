-- `pieces::put_words` meets its contract. The loop's invariant: the words written so far and those that are left make the whole.
use Prim.Native.Nat.{◌+◌, ◌*◌}
use mathlib.Core.Path.{◌≡◌}
use mathlib.Core.List.{flat_map}
use lib.ListN.{length, drop}
use lib.Seq.{sets}
use Rattle.bits.specs.Numbers.{digits}
use Rattle.pieces.proofs.put_words.Given as goal

abbrev pub invariant-loop-i : goal.invariant-loop-i
invariant-loop-i l =
    (length l.s ≡ length l.fn.s)
    × (sets l.s (l.at + 2 * l.i) (flat_map (digits 2) (drop l.i l.words)) ≡ sets l.fn.s l.at (flat_map (digits 2) l.words))
