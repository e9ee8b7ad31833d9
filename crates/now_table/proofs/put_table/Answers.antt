-- `now_table::put_table` meets its contract: the header, and the lines behind it.
use mathlib.Core.Path.{◌∙◌}
use native.Mathlib.Nat.{zero-add}
use native.Mathlib.Omega.{arith}
use Rattle.bits.specs.Decimal.{ascii}
use Rattle.bits.proofs.Puts.{put_then}
use Rattle.now_table.specs.Now.{now_header}
use Rattle.now_table.specs.Lines.{standing_lines}
use Rattle.now_table.proofs.put_table.Goals as goal

pub returns : goal.returns
unfolding now_header
returns c =
    let a = c.args in
    let first = c.put_text-first.ensures in
    let put = c.put_effects.ensures in
    let w = put_then a.out.now _ _ 0 _ _ (ascii "effect state first reason\n") (standing_lines a.st a.x a.st.count) first put.value in record {
      value = (w.0 ∙ zero-add _, w.1);
      upper_bound = omega (arith, put.upper_bound);
    }
