-- `text::put_field` meets its contract: the field, and one store more behind it.
use mathlib.Core.List.{[], ◌∷◌}
use native.Mathlib.Omega.{arith}
use lib.ListN.{length-append}
use Rattle.bits.proofs.Numbers.{put_last}
use Rattle.text.proofs.put_field.Goals as goal

pub returns : goal.returns
returns g c =
    let a = c.args in
    let field = g.F.Field.text a.field in
    let p = c.put-last.ensures in
    (omega (arith, length-append field (a.end ∷ [])), put_last a.out.now _ a.at _ field a.end p.1 p.0)
