-- `pieces::put_row` meets its contract, from what its callees ensure and the tests on the way.
use mathlib.Core.List.{◌∷◌, [], flat_map}
use mathlib.Core.Path.{refl}
use Rattle.bits.specs.Numbers.{digits}
use Rattle.bits.proofs.Numbers.{sets_then}
use Rattle.layout.specs.Entries.{put_row}
use Rattle.pieces.proofs.put_row.Goals as goal

pub returns : goal.returns
unfolding put_row flat_map
returns c =
    let a = c.args in
    let w = a.row.words in
    sets_then a.s.now _ _ a.at 4 (digits 4 a.row.hold)
    (flat_map (digits 2) (w.values ∷ w.bad ∷ w.mask ∷ w.require_reset ∷ w.reset_permit ∷ w.start_permit ∷ w.reset ∷ w.force_permit ∷ w.force_trip ∷ w.force_normal ∷ []))
    c.put.ensures
    c.put_words.ensures
    refl
