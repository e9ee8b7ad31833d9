-- `summaries::put_numbers` meets its contract. The loop's invariant: the fields so far are put, a comma behind each.
use mathlib.Core.List.{◌++◌}
use native.Mathlib.Omega.{arith}
use Rattle.bits.specs.Decimal.{ascii, decimal}
use Rattle.bits.proofs.Puts.{put_then}
use Rattle.summaries.specs.Summaries.{fields}
use Rattle.wording.proofs.Turns.{none_put, put_more, all_put}
use Rattle.summaries.proofs.Fields.{comma, number_at_most, numbers_pieces}
use Rattle.summaries.proofs.put_numbers.Goals as goal

pub loop-field-init : goal.loop-field-init
loop-field-init c = (none_put comma (fields c.args.r) c.args.out.now c.args.at, omega arith)

pub put_field-next-requires : goal.put_field-next-requires
put_field-next-requires c = omega (arith, c.loop-field.invariant.1, number_at_most _ 44 c.loop-field-test.element_fits.fits)

pub loop-field-preserved : goal.loop-field-preserved
loop-field-preserved c =
    let a = c.args in
    let p = c.put_field-next.ensures in (
      put_more comma c.fields_of-field-items.result a.out.now _ _ a.at _ _ c.loop-field.field-index 0 (omega arith) c.loop-field.invariant.0 p,
      omega (arith, p.0, number_at_most _ 44 c.loop-field-test.element_fits.fits, c.loop-field.invariant.1),
    )

pub put_field-requires : goal.put_field-requires
put_field-requires c = omega (arith, c.loop-field.invariant.1, number_at_most c.args.r.records 10 (omega arith))

pub returns-clause-value : goal.returns-clause-value
returns-clause-value c =
    let a = c.args in
    let p = rw (all_put comma c.fields_of-field-items.result c.loop-field.field-index (omega arith)) at c.loop-field.invariant.0 in
    rw (numbers_pieces a.r, ← c.fields_of-field-items.ensures) (put_then a.out.now _ _ a.at _ _ _ (decimal c.args.r.records ++ ascii "\n") p c.put_field.ensures)

pub returns-clause-upper_bound : goal.returns-clause-upper_bound
returns-clause-upper_bound c = omega (arith, c.put_field.ensures.0, c.loop-field.invariant.1, number_at_most c.args.r.records 10 (omega arith))
