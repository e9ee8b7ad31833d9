-- `reports::put_heading` meets its contract: three texts, one after the other.
use mathlib.Core.List.{◌++◌}
use Rattle.bits.specs.Decimal.{ascii}
use Rattle.reports.specs.Reports.{heading}
use Rattle.bits.proofs.Puts.{put_then}
use Rattle.reports.proofs.Front.{front, heading_at_most}
use native.Mathlib.Omega.{arith}
use Rattle.reports.proofs.put_heading.Goals as goal

pub returns : goal.returns
returns c =
    let out = c.args.out.now in
    let name = c.args.name.now in
    let named = put_then out _ _ 0 _ _ (ascii "== ") name c.put_text-from.ensures c.put_text-to.ensures in
    let line = put_then out _ _ 0 _ _ (ascii "== " ++ name) (ascii " ==\n") named c.put_text.ensures in
    let both = front out _ _ (heading name) line (omega (arith, heading_at_most name c.requires.0, c.requires.1)) in
    record { value = both.0; upper_bound = both.1 }
