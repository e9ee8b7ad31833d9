-- `layout::quick::right_rows` meets its contract: a row that the masks pass is whole and valid.
use mathlib.Core.Path.{sym, ◌∙◌}
use native.Mathlib.Omega.{arith}
use borrow.Author.Tests.{eqb-true}
use Rattle.layout.specs.declared.Kind.TheVariants.{Rows}
use Rattle.layout.specs.Sections.{width_of, test_of}
use Rattle.layout.proofs.Skipped.{one-skipped}
use Rattle.layout.proofs.quick.right_rows.Goals as goal

pub loop-i-preserved : goal.loop-i-preserved
loop-i-preserved c =
    let l = c.loop-i in
    let a = c.args in
    one-skipped (test_of Rows a.known a.s.now) (width_of Rows) _ a.n a.at l.i (omega arith) (omega arith) (eqb-true _ 0 (sym (c.row_right.ensures a.known c.bars_of-bars.ensures) ∙ c.if-not-row_right.false)) l.invariant
