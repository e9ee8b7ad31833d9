-- `reports::put_accepted` meets its contract: three texts and a number, one after the other.
use mathlib.Core.List.{◌++◌}
use Rattle.bits.specs.Decimal.{ascii, decimal}
use Rattle.bits.proofs.Decimal.{length-decimal}
use Rattle.reports.specs.Reports.{accepted_line}
use Rattle.bits.proofs.Puts.{put_then}
use Rattle.reports.proofs.Front.{front, accepted_at_most}
use native.Mathlib.Omega.{arith}
use Rattle.reports.proofs.put_accepted.Goals as goal

pub put_decimal-end-requires : goal.put_decimal-end-requires
put_decimal-end-requires c =
    omega (arith, length-decimal 4 c.args.rows (omega (arith, c.ranges.rows.fits)))

pub put_text-requires : goal.put_text-requires
put_text-requires c =
    omega (arith, length-decimal 4 c.args.rows (omega (arith, c.ranges.rows.fits)))

pub returns : goal.returns
returns c =
    let out = c.args.out.now in
    let name = c.args.name.now in
    let rows = c.args.rows in
    let worded = put_then out _ _ 0 _ _ name (ascii ": accepted, ") c.put_text-word.ensures c.put_text-number.ensures in
    let counted = put_then out _ _ 0 _ _ (name ++ ascii ": accepted, ") (decimal rows) worded c.put_decimal-end.ensures in
    let line = put_then out _ _ 0 _ _ (name ++ ascii ": accepted, " ++ decimal rows) (ascii " rows\n") counted c.put_text.ensures in
    let both = front out _ _ (accepted_line name rows) line (omega (arith, accepted_at_most name rows c.requires.0 c.ranges.rows.fits, c.requires.1)) in
    record { value = both.0; upper_bound = both.1 }
