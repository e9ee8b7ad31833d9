-- `reason_bytes::put_numbers` meets its contract: its numbers, one after the other.
use mathlib.Core.Path.{refl, ap, ◌∙◌}
use mathlib.Core.List.{[], ◌∷◌, ◌++◌}
use lib.Seq.{sets}
use Rattle.bits.specs.Numbers.{digits}
use Rattle.bits.specs.Layout.{pack}
use Rattle.bits.proofs.Numbers.{sets_then}
use Rattle.reason_bytes.specs.declared.Numbers.{Numbers}
use Rattle.reason_bytes.specs.Bytes.{numbers_of}
use Rattle.reason_bytes.proofs.put_numbers.Goals as goal

pub returns : goal.returns
unfolding numbers_of
returns c =
    let a = c.args in
    let l = a.out.now in
    let x = c.numbers_in-kind.result in
    let k = digits 1 x.kind in
    let n = digits 1 x.missing in
    let w = digits 2 x.mask in
    let two = sets_then l _ _ a.at 1 k n c.put.ensures c.put-2.ensures refl in
    let three = sets_then l _ _ a.at 2 (k ++ n) w two c.put-3.ensures refl in
    sets_then l _ _ a.at 4 (k ++ n ++ w) (digits 4 x.millis) three c.put-4.ensures refl
    ∙ ap (λ (y : Numbers). sets l a.at (pack (1 ∷ 1 ∷ 2 ∷ 4 ∷ []) (y.kind ∷ y.missing ∷ y.mask ∷ y.millis ∷ []))) c.numbers_in-kind.ensures
