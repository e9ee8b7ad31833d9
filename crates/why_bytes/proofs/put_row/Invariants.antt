-- `why_bytes::put_row` meets its contract. The loop's invariant: with the reasons of the events that are left, of any whose records these are,
-- the lent bytes would hold those of all of them.
use mathlib.Core.Path.{◌≡◌}
use mathlib.Core.List.{List}
use Prim.Native.Nat.{◌+◌, ◌*◌}
use lib.ListN.{length, drop}
use lib.Seq.{sets}
use Rattle.effects.specs.declared.Event.{Event}
use Rattle.effects.specs.Records.{StandFrom}
use Rattle.why_bytes.specs.Bytes.{reason_length}
use Rattle.why_bytes.specs.Rows.{record_reasons}
use Rattle.why_bytes.proofs.put_row.Given as goal

abbrev pub invariant-loop-i : goal.invariant-loop-i
invariant-loop-i l =
    (length l.out ≡ length l.initial.out)
    × ((es : List Event) → length es ≡ l.n → StandFrom l.records 0 es → sets l.out (l.at + reason_length * l.i) (record_reasons l.sight l.associations (drop l.i es)) ≡ sets l.initial.out l.at (record_reasons l.sight l.associations es))
