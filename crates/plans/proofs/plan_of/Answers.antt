-- `plans::plan_of` meets its contract, from what its callees ensure.
use Rattle.std.proofs.Common.{true, ltb, rules}
use Rattle.plans.specs.Plans.{delay_at, plan_of}
use Rattle.plans.proofs.plan_of.Goals as goal

pub returns : goal.returns
unfolding plan_of
returns c =
    let all = c.word_where.ensures (λ i. true) (λ i b k e. search rules) in
    let with_delay = c.word_where-2.ensures (λ i. ltb 0 (delay_at c.args.st i)) (λ i b k e. search rules) in
    rw (c.watched_word.ensures, with_delay, all)
