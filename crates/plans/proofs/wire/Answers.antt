-- `plans::wire` meets its contract, from what its callees ensure.
use Rattle.std.proofs.Common.{rules}
use Rattle.plans.specs.Plans.{association_at, delay_at, wired_into}
use Rattle.plans.proofs.wire.Goals as goal

pub returns : goal.returns
unfolding wired_into
returns c =
    let associations = c.fill.ensures (association_at c.args.st) (λ i v k e. search rules) in
    let delays = c.fill-2.ensures (delay_at c.args.st) (λ i v k e. search rules) in
    rw (delays, associations)
