-- `cells::slots::load` meets its contract, from what its callees ensure.
use Rattle.std.proofs.Common.{get_or, rules}
use Rattle.rules.specs.Rules.{no_slot}
use Rattle.cells.specs.Loaded.{loaded_into}
use Rattle.cells.proofs.slots.load.Goals as goal

pub returns : goal.returns
unfolding loaded_into
returns c =
    let xs = c.args.xs in
    let timers = c.fill.ensures (λ i. (get_or xs i no_slot).timer) (λ i v k e. search rules) in
    let firsts = c.fill-2.ensures (λ i. (get_or xs i no_slot).first_out) (λ i v k e. search rules) in
    (c.planes_of.ensures, rw (firsts, timers))
