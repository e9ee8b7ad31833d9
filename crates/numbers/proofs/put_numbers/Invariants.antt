-- `numbers::put_numbers` meets its contract. The loop's invariant: the numbers written so far and those that are left make the whole.
use mathlib.Core.Path.{◌≡◌}
use Prim.Native.Nat.{◌*◌, ◌+◌}
use lib.ListN.{length, drop}
use lib.Seq.{sets}
use Rattle.numbers.specs.Numbers.{number_bytes, numbers}
use Rattle.numbers.proofs.put_numbers.Given as goal

abbrev pub invariant-loop-i : goal.invariant-loop-i
invariant-loop-i l =
    (length l.out ≡ length l.initial.out) × (sets l.out (0 + number_bytes * l.i) (numbers (drop l.i l.values)) ≡ sets l.initial.out 0 (numbers l.values))
