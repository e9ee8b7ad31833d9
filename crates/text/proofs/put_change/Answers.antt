-- `text::put_change` meets its contract: three fields, one after the other.
use mathlib.Core.List.{[], ◌∷◌, ◌++◌}
use Rattle.bits.specs.Decimal.{ascii, decimal}
use Rattle.text.specs.Text.{name}
use Rattle.text.specs.Pieces.{change}
use Rattle.bits.proofs.Puts.{put_then}
use Rattle.text.proofs.put_change.Goals as goal

pub returns : goal.returns
unfolding change
returns c =
    let a = c.args in
    let e = a.e in
    let last = decimal e.first_out ++ (a.end ∷ []) in
    let later = put_then _ _ _ _ _ _ (name e.to ++ ascii " ") last c.put_field-first.ensures c.put_field.ensures in
    put_then a.out.now _ _ a.at _ _ (name e.from ++ ascii " ") (name e.to ++ ascii " " ++ last) c.put_field-to.ensures later
