-- `effects::put_record` meets its contract: the bytes of its two numbers, one after the other, are those of the fields.
use mathlib.Core.Path.{refl, ap₂, ◌∙◌}
use mathlib.Core.List.{List, ◌++◌}
use Prim.Native.Nat.{ℕ}
use lib.Seq.{sets}
use Rattle.bits.specs.Numbers.{digits}
use Rattle.bits.proofs.Numbers.{sets_then}
use Rattle.effects.proofs.put_record.Goals as goal

pub returns : goal.returns
returns c =
    let a = c.args in
    let l = a.buf.now in
    sets_then l _ _ a.at 8 (digits 8 c.head_of.result) (digits 4 c.tail_of.result) c.put.ensures c.put-2.ensures refl
    ∙ ap₂ (λ (x y : List ℕ). sets l a.at (x ++ y)) c.head_of.ensures c.tail_of.ensures
