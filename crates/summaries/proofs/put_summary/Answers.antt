-- `summaries::put_summary` meets its contract: the field of the name, a comma, and the numbers.
use mathlib.Core.List.{◌++◌}
use native.Mathlib.Omega.{arith}
use Rattle.bits.specs.Decimal.{ascii}
use Rattle.bits.proofs.Puts.{put_then}
use Rattle.summaries.specs.Summaries.{field, numbers, summary_line}
use Rattle.reports.proofs.Front.{front-within}
use Rattle.summaries.proofs.Fields.{at_front, summary_pieces}
use Rattle.summaries.proofs.put_summary.Goals as goal

pub returns : goal.returns
returns c =
    let out = c.args.out.now in
    let name = c.args.name.now in
    let r = c.args.r in
    let named = put_then out _ _ 0 _ _ (field name) (ascii ",") (at_front out _ _ (field name) c.put_field-comma.ensures.value) c.put_text-at.ensures in
    let line = put_then out _ _ 0 _ _ (field name ++ ascii ",") (numbers r) named c.put_numbers.ensures.value in
    let both = front-within out _ _ (summary_line name r) (rw (summary_pieces name r) line)
    (omega (arith, c.put_numbers.ensures.upper_bound, c.put_text-at.ensures.0, c.put_field-comma.ensures.upper_bound, c.requires.1)) in
    record { value = both.0; upper_bound = both.1 }
