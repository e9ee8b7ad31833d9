-- `recording::read_section` meets its contract. The loop's invariant: the entries left from the place result in what all result in.
use Prim.Native.Nat.{◌+◌, ◌*◌, ◌-◌, ◌≤◌}
use mathlib.Core.Path.{◌≡◌}
use lib.ListN.{length}
use Rattle.layout.specs.Sections.{entries, width_of, test_of, section_of}
use Rattle.recording.proofs.read_section.Given as goal

abbrev pub invariant-loop-i : goal.invariant-loop-i
invariant-loop-i l =
    (l.first + width_of l.kind * l.i ≤ length l.s)
    × (entries (test_of l.kind l.known l.s) (width_of l.kind) (length l.s) (l.n - l.i) (l.first + width_of l.kind * l.i) ≡ section_of l.kind l.known l.s l.at)
