-- `layout::quick::right_rows` meets its contract. The loop's invariant: the rows before i are whole and valid.
use Rattle.layout.specs.declared.Kind.TheVariants.{Rows}
use lib.ListN.{length}
use Rattle.layout.specs.Sections.{width_of, test_of}
use Rattle.layout.specs.Barred.{Skipped}
use Rattle.layout.proofs.quick.right_rows.Given as goal

abbrev pub invariant-loop-i : goal.invariant-loop-i
invariant-loop-i l = Skipped (test_of Rows l.fn.known l.s) (width_of Rows) (length l.s) l.n l.at l.i
