-- `why_bytes::put_effects` meets its contract. The loop's invariant: the reasons of the first i effects stand.
use mathlib.Core.Path.{refl, ◌∙◌}
use mathlib.Core.List.{flat_map}
use Prim.Native.Nat.{◌*◌}
use lib.Seq.{sets}
use Rattle.bits.specs.Lists.{tabulate}
use Rattle.reason_bytes.specs.Bytes.{numbers_of}
use Rattle.standing.specs.Stands.{reason_now}
use Rattle.why_bytes.specs.Bytes.{reason_length}
use Rattle.why_bytes.proofs.Rows.{one_more}
use Rattle.why_bytes.proofs.put_effects.Goals as goal

pub loop-i-init : goal.loop-i-init
unfolding tabulate flat_map
loop-i-init c = refl

pub loop-i-preserved : goal.loop-i-preserved
loop-i-preserved c =
    let a = c.args in
    c.put_numbers.ensures
    ∙ (λ j. sets (c.loop-i.invariant j) (reason_length * c.loop-i.i) (numbers_of (c.reason_now-r.ensures j)))
    ∙ one_more a.out.now (reason_now a.st a.x) c.loop-i.i
