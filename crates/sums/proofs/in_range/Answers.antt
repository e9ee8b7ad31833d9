-- `sums::in_range` meets its contract.
use mathlib.Core.Path.{◌∙◌}
use Prim.Native.Nat.{◌+◌}
use borrow.Author.Tests.{tests}
use lib.Dec.{leb}
use Rattle.std.proofs.Common.{rules}
use Rattle.std.proofs.lemmas.Iterator.{YieldsList-from_slice, YieldsList-from_zip}
use Rattle.std.proofs.lemmas.Iterator.Search.{all_from_yields_List}
use Rattle.sums.specs.Sums.{most_sum}
use Rattle.sums.proofs.Sums.{range_of_pairs}
use Rattle.sums.proofs.in_range.Goals as goal

pub returns : goal.returns
returns c =
    let a = c.args.a.now in
    let b = c.args.b.now in
    all_from_yields_List (λ p. leb (p.0 + p.1) most_sum) c.all.new.self _ _ c.all.ensures.ran (YieldsList-from_zip (YieldsList-from_slice a (cc)) (YieldsList-from_slice b (cc))) (λ x b q k. search (rules, tests))
    ∙ range_of_pairs a b c.requires
