-- `text::put_lines` meets its contract. The loop's invariant: for any events whose records these are, the text written so far and the
-- lines that are left make the whole text.
use mathlib.Core.Path.{◌≡◌}
use mathlib.Core.List.{List}
use Prim.Native.Nat.{◌+◌}
use lib.ListN.{length}
use lib.Seq.{sets}
use Rattle.effects.specs.declared.Event.{Event}
use Rattle.effects.specs.Records.{StandFrom}
use Rattle.text.specs.Pieces.{column_line, column_lines}
use Rattle.text.proofs.Lines.{left}
use Rattle.text.proofs.put_lines.Given as goal

abbrev pub invariant-loop-i : goal.invariant-loop-i
invariant-loop-i l =
    let line = column_line l.column l.associations in
    let lines = column_lines l.column l.associations in
    (length l.out ≡ length l.fn.out)
    × ((es : List Event) → length es ≡ l.n → StandFrom l.records 0 es → (l.next + length (left line es l.i) ≡ l.at + length (lines es)) × (sets l.out l.next (left line es l.i) ≡ sets l.fn.out l.at (lines es)))
