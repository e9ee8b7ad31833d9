-- `plans::watched_word` meets its contract. The loop's invariant: the word is the union of the first i association words.
use Rattle.std.proofs.Common.{◌≡◌, refl, add-one, arith}
use Rattle.plans.specs.Plans.{union_to}
use Rattle.plans.proofs.watched_word.Goals as goal

pub loop-i-init : goal.loop-i-init
unfolding union_to
loop-i-init c = refl

pub loop-i-preserved : goal.loop-i-preserved
unfolding union_to
loop-i-preserved c = rw (c.loop-i.invariant, add-one)

pub returns : goal.returns
returns c =
    let e : c.loop-i.i ≡ c.args.count = omega arith in
    rw (c.loop-i.invariant, e)
