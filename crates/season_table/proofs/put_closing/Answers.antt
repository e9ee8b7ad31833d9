-- `season_table::put_closing` meets its contract: three words with their numbers, one after the other.
use mathlib.Core.List.{◌++◌}
use native.Mathlib.Omega.{arith}
use Rattle.bits.specs.Decimal.{ascii}
use Rattle.text.specs.Pieces.{total}
use Rattle.bits.proofs.Puts.{put_then}
use Rattle.season_table.proofs.Texts.{closing_pieces, closing_at_most}
use Rattle.season_table.proofs.put_closing.Goals as goal

pub put_total-second-requires : goal.put_total-second-requires
put_total-second-requires c = omega (arith, closing_at_most c.args.recordings c.args.refused c.args.exercised c.ranges.recordings.fits c.ranges.refused.fits c.ranges.exercised.fits)

pub put_total-third-requires : goal.put_total-third-requires
put_total-third-requires c = omega (arith, closing_at_most c.args.recordings c.args.refused c.args.exercised c.ranges.recordings.fits c.ranges.refused.fits c.ranges.exercised.fits)

pub put_total-requires : goal.put_total-requires
put_total-requires c =
    omega (arith, closing_at_most c.args.recordings c.args.refused c.args.exercised c.ranges.recordings.fits c.ranges.refused.fits c.ranges.exercised.fits)

pub returns : goal.returns
returns c =
    let a = c.args in
    let recordings = total (ascii "recordings") a.recordings 32 in
    let refused = total (ascii "refused") a.refused 32 in
    let exercised = total (ascii "exercised") a.exercised 10 in
    let both = put_then a.out.now _ _ a.at _ _ recordings refused c.put_total-second.ensures c.put_total-third.ensures in
    let all = put_then a.out.now _ _ a.at _ _ (recordings ++ refused) exercised both c.put_total.ensures in record {
      value = rw (closing_pieces a.recordings a.refused a.exercised) all;
      upper_bound = omega (arith, closing_at_most c.args.recordings c.args.refused c.args.exercised c.ranges.recordings.fits c.ranges.refused.fits c.ranges.exercised.fits, c.put_total-second.ensures.0, c.put_total-third.ensures.0, c.put_total.ensures.0);
    }
