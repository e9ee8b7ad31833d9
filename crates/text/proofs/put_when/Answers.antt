-- `text::put_when` meets its contract: three fields, one after the other.
use mathlib.Core.List.{◌++◌}
use Rattle.bits.specs.Decimal.{ascii, decimal}
use Rattle.text.specs.Pieces.{when}
use Rattle.bits.proofs.Puts.{put_then}
use Rattle.text.proofs.put_when.Goals as goal

pub returns : goal.returns
unfolding when
returns c =
    let a = c.args in
    let e = a.e in
    let last = decimal e.effect ++ ascii " " in
    let later = put_then _ _ _ _ _ _ (decimal e.scan ++ ascii " ") last c.put_field-effect.ensures c.put_field.ensures in
    put_then a.out.now _ _ a.at _ _ (decimal e.seq ++ ascii " ") (decimal e.scan ++ ascii " " ++ last) c.put_field-scan.ensures later
