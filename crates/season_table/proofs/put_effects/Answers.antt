-- `season_table::put_effects` meets its contract. The loop's invariant: the lines of the first i effects stand.
use native.Mathlib.Omega.{arith}
use Rattle.bits.proofs.Puts.{put_then}
use Rattle.season_table.specs.Lines.{effect_line, effect_lines}
use Rattle.season_table.proofs.Texts.{one_line_more}
use Rattle.season_table.proofs.put_effects.Goals as goal

pub loop-i-preserved : goal.loop-i-preserved
loop-i-preserved c =
    let l = c.loop-i in
    let a = c.args in
    let p = c.put_effect-next.ensures in
    let sums = a.sums.now in (
      omega (arith, p.upper_bound, l.invariant.0),
      rw (one_line_more sums l.i) (put_then a.out.now _ _ a.at _ _ (effect_lines sums l.i) (effect_line sums l.i) l.invariant.1 p.value),
    )
