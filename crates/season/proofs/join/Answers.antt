-- `season::join` meets its contract: 11 if a sum would pass 64 bits, else the sums of both.
use mathlib.Core.Path.{◌≡◌, ap, sym, ◌∙◌}
use Prim.Native.Nat.{ℕ}
use borrow.Author.Rules.{rules}
use lib.ListN.{length, get_or}
use Rattle.bits.proofs.Lists.{length_mapped}
use Rattle.sums.specs.Sums.{summed}
use Rattle.tally.specs.Tally.{sum_count}
use Rattle.season.proofs.Joins.{refused_sums, joined_sums}
use Rattle.season.proofs.join.Goals as goal

pub returns-then-not-in_range : goal.returns-then-not-in_range
returns-then-not-in_range c =
    let a = c.args in
    c.not_added.ensures ∙ refused_sums a.r a.effects a.more (sym c.in_range.ensures ∙ c.if-not-in_range.true)

pub returns : goal.returns
returns c =
    let a = c.args in
    let long : length c.args.r.sums ≡ sum_count = search (rules, length_mapped) in
    joined_sums a.r a.effects a.more (sym c.in_range.ensures ∙ c.if-not-in_range.false) _
    (c.add_all.ensures ∙ ap (λ (n : ℕ). summed (λ k. get_or a.more k 0) n a.r.sums) long)
