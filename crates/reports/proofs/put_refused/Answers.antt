-- `reports::put_refused` meets its contract: two texts and a refusal's line, one after the other.
use mathlib.Core.List.{◌++◌}
use Rattle.bits.specs.Decimal.{ascii}
use Rattle.text.specs.Text.{refusal_line}
use Rattle.reports.specs.Reports.{refused_line}
use Rattle.bits.proofs.Puts.{put_then}
use Rattle.reports.proofs.Front.{front, refused_at_most}
use native.Mathlib.Omega.{arith}
use Rattle.reports.proofs.put_refused.Goals as goal

pub returns : goal.returns
returns c =
    let a = c.args in
    let out = a.out.now in
    let name = a.name.now in
    let named = put_then out _ _ 0 _ _ name (ascii ": ") c.put_text-colon.ensures c.put_text-at.ensures in
    let line = put_then out _ _ 0 _ _ (name ++ ascii ": ") (refusal_line a.number a.place) named c.put_refusal.ensures.value in
    let both = front out _ _ (refused_line name a.number a.place) line (omega (arith, refused_at_most name a.number a.place c.requires.0 c.ranges.number.fits c.ranges.place.fits, c.requires.1)) in
    record { value = both.0; upper_bound = both.1 }
