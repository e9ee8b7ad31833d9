-- `reports::put_refused_at` meets its contract: two words with their numbers, and a space.
use mathlib.Core.List.{◌++◌}
use native.Mathlib.Omega.{arith}
use Rattle.bits.specs.Decimal.{ascii}
use Rattle.text.specs.Pieces.{total}
use Rattle.bits.proofs.Puts.{put_then}
use Rattle.reports.specs.Reports.{refused_at}
use Rattle.reports.proofs.Front.{short_number, short_place}
use Rattle.reports.proofs.put_refused_at.Goals as goal

pub returns : goal.returns
unfolding refused_at
returns c =
    let a = c.args in
    let number = total (ascii ": refused") a.number 32 in
    let place = total (ascii "at") a.place 58 in
    let both = put_then a.out.now _ _ a.at _ _ number place c.put_total-second.ensures c.put_total-end.ensures in
    let all = put_then a.out.now _ _ a.at _ _ (number ++ place) (ascii " ") both c.put_text.ensures in record {
      value = all;
      upper_bound = omega (
        arith,
        c.put_text.ensures.0,
        c.put_total-end.ensures.0,
        c.put_total-second.ensures.0,
        short_number a.number c.ranges.number.fits,
        short_place a.place c.ranges.place.fits,
      );
    }
