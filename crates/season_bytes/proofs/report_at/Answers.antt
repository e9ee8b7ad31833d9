-- `season_bytes::report_at` meets its contract. The loop's invariant: the sums before k stand, and the rest is 0.
use mathlib.Core.Path.{◌≡◌, refl}
use mathlib.Core.List.{append-nil}
use native.Mathlib.Omega.{arith}
use lib.ListN.{replicate}
use Rattle.bits.specs.Lists.{tabulate}
use Rattle.bits.proofs.Lists.{fill}
use Rattle.tally.specs.Tally.{sum_count}
use Rattle.season_bytes.specs.Bytes.{report_of}
use Rattle.season_bytes.proofs.report_at.Goals as goal

pub loop-k-init : goal.loop-k-init
unfolding tabulate
loop-k-init c = refl

pub loop-k-preserved : goal.loop-k-preserved
loop-k-preserved c =
    let l = c.loop-k in
    rw (l.invariant, c.get.ensures) (fill _ (replicate sum_count 0) l.k 0 (omega arith))

pub returns : goal.returns
unfolding report_of
returns c =
    let e : c.loop-k.k ≡ sum_count = omega arith in
    rw (c.loop-k.invariant, e, append-nil)
