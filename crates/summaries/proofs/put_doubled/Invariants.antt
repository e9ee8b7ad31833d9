-- `summaries::put_doubled` meets its contract. The loop's invariant: the bytes so far are put, a quote twice.
use Prim.Native.Nat.{◌+◌, ◌*◌, ◌≤◌}
use Rattle.wording.specs.Puts.{Puts}
use Rattle.wording.proofs.Turns.{first}
use Rattle.summaries.specs.Summaries.{twice}
use Rattle.summaries.proofs.put_doubled.Given as goal

abbrev pub invariant-loop-byte : goal.invariant-loop-byte
invariant-loop-byte l = Puts l.initial.out l.at (first twice l.name l.byte-index) l.next l.out × (l.next ≤ l.at + 2 * l.byte-index)
