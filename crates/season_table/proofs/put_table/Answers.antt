-- `season_table::put_table` meets its contract: the first line, the lines of the effects and the last line.
use mathlib.Core.List.{◌++◌}
use native.Mathlib.Nat.{zero-add}
use native.Mathlib.Omega.{arith}
use lib.ListN.{get_or}
use Rattle.bits.proofs.Puts.{put_then}
use Rattle.tally.specs.Tally.{exercised_sum}
use Rattle.season_table.specs.Lines.{table_header, effect_lines, closing_line, table_text}
use Rattle.season_table.proofs.put_table.Goals as goal

pub returns : goal.returns
unfolding table_header table_text
returns c =
    let out = c.args.out.now in
    let t = c.args.t in
    let sums = t.report.sums in
    let lines = effect_lines sums t.effects in
    let last = closing_line t.recordings t.refused (get_or sums exercised_sum 0) in
    let both = put_then out _ _ 0 _ _ table_header lines c.put_text-first.ensures c.put_effects-last.ensures.value in
    let all = put_then out _ _ 0 _ _ (table_header ++ lines) last both c.put_closing.ensures.value in record {
      value = (rw zero-add at all.0, all.1);
      upper_bound = omega (arith, c.put_text-first.ensures.0, c.put_effects-last.ensures.upper_bound, c.put_closing.ensures.upper_bound);
    }
