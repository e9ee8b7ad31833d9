-- `summaries::put_quoted` meets its contract: a quote, the name whose quotes stand twice, and a quote.
use mathlib.Core.List.{[], ◌∷◌, ◌++◌}
use native.Mathlib.Nat.{zero-add}
use native.Mathlib.Omega.{arith}
use Rattle.bits.proofs.Puts.{put_then}
use Rattle.summaries.specs.Summaries.{quote, doubled, quoted}
use Rattle.summaries.proofs.put_quoted.Goals as goal

pub returns : goal.returns
unfolding quoted
returns c =
    let out = c.args.out.now in
    let name = c.args.name.now in
    let opened = put_then out _ _ 0 _ _ (quote ∷ []) (doubled name) c.put_text-from.ensures c.put_doubled-last.ensures.value in
    let p = put_then out _ _ 0 _ _ (quote ∷ [] ++ doubled name) (quote ∷ []) opened c.put_text.ensures in record {
      value = (rw zero-add at p.0, p.1);
      upper_bound = omega (arith, c.put_text.ensures.0, c.put_doubled-last.ensures.upper_bound, c.put_text-from.ensures.0);
    }
