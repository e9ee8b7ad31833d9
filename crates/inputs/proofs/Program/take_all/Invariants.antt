-- The buffers keep their lengths, the step keeps what it keeps, and as many inputs can still be taken as there can be arguments.
use Rattle.std.proofs.Common.{◌≡◌, ◌+◌, ◌^◌, ◌≤◌, length}
use Rattle.inputs.proofs.Program.take_all.Given as goal

abbrev pub invariant-loop-i : goal.invariant-loop-i
invariant-loop-i g l =
    (length l.name ≡ length l.initial.name) × (length l.file ≡ length l.initial.file) × (2 ^ 64 ≤ g.S.Step.room l.step + l.i) × g.S.Step.kept l.step
