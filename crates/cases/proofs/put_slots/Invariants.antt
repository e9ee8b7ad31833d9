-- `cases::put_slots` meets its contract. The loop's invariant: the slots written so far and those that are left make the whole.
use mathlib.Core.Path.{◌≡◌}
use mathlib.Core.List.{flat_map}
use Prim.Native.Nat.{◌+◌, ◌*◌}
use lib.ListN.{length, drop}
use lib.Seq.{sets}
use Rattle.cases.specs.Answers.{slot_bytes}
use Rattle.cases.proofs.put_slots.Given as goal

abbrev pub invariant-loop-i : goal.invariant-loop-i
invariant-loop-i l = (length l.out ≡ length l.initial.out) × (sets l.out (l.at + 7 * l.i) (flat_map slot_bytes (drop l.i l.x-items)) ≡ sets l.initial.out l.at (flat_map slot_bytes l.x-items))
