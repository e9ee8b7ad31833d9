-- `text::put_total` meets its contract: two fields, one after the other.
use mathlib.Core.List.{[], ◌∷◌, ◌++◌}
use Rattle.bits.specs.Decimal.{ascii, decimal}
use Rattle.text.specs.Pieces.{total}
use Rattle.bits.proofs.Puts.{put_then}
use Rattle.text.proofs.put_total.Goals as goal

pub returns : goal.returns
unfolding total
returns c =
    let a = c.args in
    put_then a.out.now _ _ a.at _ _ (a.word.now ++ ascii " ") (decimal a.v ++ (a.end ∷ [])) c.put_field-next.ensures c.put_field.ensures
