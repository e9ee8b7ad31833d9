-- `why_bytes::put_effects` meets its contract. The loop's invariant: the reasons of the first i effects stand.
use mathlib.Core.Path.{◌≡◌}
use mathlib.Core.List.{flat_map}
use lib.Seq.{sets}
use Rattle.bits.specs.Lists.{tabulate}
use Rattle.reason_bytes.specs.Bytes.{numbers_of}
use Rattle.standing.specs.Stands.{reason_now}
use Rattle.why_bytes.proofs.put_effects.Given as goal

abbrev pub invariant-loop-i : goal.invariant-loop-i
invariant-loop-i l = l.out ≡ sets l.initial.out 0 (flat_map numbers_of (tabulate (reason_now l.st l.x) l.i))
