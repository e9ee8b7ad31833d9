-- `cases::put_hex` meets its contract. The loop's invariant: the digits written so far and those that are left make the whole.
use mathlib.Core.Path.{◌≡◌}
use mathlib.Core.List.{flat_map}
use Prim.Native.Nat.{◌+◌, ◌*◌}
use lib.ListN.{length, drop}
use lib.Seq.{sets}
use Rattle.cases.specs.Answers.{hex_byte}
use Rattle.cases.proofs.put_hex.Given as goal

abbrev pub invariant-loop-i : goal.invariant-loop-i
invariant-loop-i l = (length l.out ≡ length l.initial.out) × (sets l.out (l.at + 2 * l.i) (flat_map hex_byte (drop l.i l.src)) ≡ sets l.initial.out l.at (flat_map hex_byte l.src))
