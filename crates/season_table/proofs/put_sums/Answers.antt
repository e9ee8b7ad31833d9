-- `season_table::put_sums` meets its contract. The loop's invariant: the first sums stand.
use mathlib.Core.Path.{◌≡◌, refl}
use native.Mathlib.Omega.{arith}
use lib.ListN.{get_or}
use Rattle.bits.proofs.Decimal.{length_of_64_bits}
use Rattle.bits.proofs.Puts.{put_then}
use Rattle.tally.specs.Tally.{sums_of_effect, state_sum}
use Rattle.season_table.specs.Pieces.{spaced, sums_text}
use Rattle.season_table.proofs.Texts.{one_sum_more, own_many, own_sum}
use Rattle.season_table.proofs.put_sums.Goals as goal

pub loop-sum-init : goal.loop-sum-init
unfolding sums_text
loop-sum-init c = (omega arith, (omega arith, refl))

pub put_named-next-requires : goal.put_named-next-requires
put_named-next-requires c =
    let a = c.args in
    let j = c.loop-sum.sum-index in
    let many = own_many a.sums.now a.i c.told-sums c.requires.0 in
    let is = own_sum a.sums.now a.i c.told-sums c.requires.0 j (omega (arith, many)) in
    rw is (omega (arith, c.loop-sum.invariant.0, many, length_of_64_bits (get_or a.sums.now (state_sum a.i j) 0) (c.fits-sums _)))

pub loop-sum-preserved : goal.loop-sum-preserved
loop-sum-preserved c =
    let a = c.args in
    let l = c.loop-sum in
    let j = l.sum-index in
    let sums = a.sums.now in
    let many = own_many sums a.i c.told-sums c.requires.0 in
    let p = rw (own_sum sums a.i c.told-sums c.requires.0 j (omega (arith, many))) at c.put_named-next.ensures in (
      omega (arith, p.0, l.invariant.0, length_of_64_bits (get_or sums (state_sum a.i j) 0) (c.fits-sums _)),
      rw (one_sum_more sums a.i j) (put_then a.out.now _ _ a.at _ _ (sums_text sums a.i j) (spaced (get_or sums (state_sum a.i j) 0)) l.invariant.1 p),
    )

pub returns : goal.returns
returns c =
    let a = c.args in
    let l = c.loop-sum in
    let all : l.sum-index ≡ sums_of_effect = omega (arith, own_many a.sums.now a.i c.told-sums c.requires.0) in record {
      value = rw all at l.invariant.1;
      upper_bound = omega (arith, l.invariant.0);
    }
