-- `why_bytes::put_rows` meets its contract. The loop's invariant: the reasons of the rows so far stand.
use mathlib.Core.Path.{◌≡◌}
use Prim.Native.Nat.{◌-◌}
use lib.ListN.{length}
use Rattle.why_bytes.specs.Rows.{Telling}
use Rattle.why_bytes.proofs.Rows.{after}
use Rattle.why_bytes.proofs.put_rows.Given as goal

abbrev pub invariant-loop-t : goal.invariant-loop-t
invariant-loop-t l = Telling l.s l.t l.board (length l.out) × (length l.out ≡ length l.initial.out) × (l.out ≡ after l.s l.initial.out l.t.rows)

abbrev pub decreases-loop-t : goal.decreases-loop-t
decreases-loop-t l = l.t.row_count - l.t.rows
