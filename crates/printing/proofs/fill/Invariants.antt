-- `printing::fill` meets its contract. The loop's invariant is `Filling`, by one row more each time; the measure: rows to go.
use Prim.Native.Nat.{◌-◌}
use Rattle.recording.specs.Answers.{row_count_of}
use Rattle.recording.specs.Reader.{reading}
use Rattle.printing.proofs.Turn.{Filling}
use Rattle.printing.proofs.fill.Given as goal

abbrev pub invariant-loop-t : goal.invariant-loop-t
invariant-loop-t l = Filling l.why l.s l.initial.t l.from l.initial.out l.t l.board l.at l.out

abbrev pub decreases-loop-t : goal.decreases-loop-t
decreases-loop-t l = row_count_of (reading l.s).answer - l.t.rows
