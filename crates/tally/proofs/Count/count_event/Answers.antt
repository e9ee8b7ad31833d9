-- `tally::Count::count_event` meets its contract. The two sums that grow are two: the highest code is below the place of the trips.
use mathlib.Core.Path.{◌≡◌, ap}
use mathlib.Core.List.{List}
use Prim.Native.Nat.{ℕ, ◌-◌}
use borrow.Author.Rules.{rules}
use lib.ListN.{length}
use Rattle.bits.proofs.Lists.{length_mapped}
use Rattle.bits.specs.Words.{one}
use Rattle.rules.specs.declared.EffectState.TheVariants.{Tripped}
use Rattle.rules.specs.Limits.{most_effects}
use Rattle.rules.specs.Rules.{code, same}
use Rattle.tally.specs.Tally.{slot_of, trip_sum, count_of, closed_at, raised}
use Rattle.tally.specs.Shown.{shown}
use Rattle.tally.proofs.Shown.{put_shown}
use Rattle.tally.proofs.Count.count_event.Goals as goal

pub returns : goal.returns
returns c =
    let e = c.args.e in
    let t = c.args.self.now in
    let i = slot_of e in
    let long : length t.stretches ≡ most_effects = search (rules, length_mapped) in
    rw (c.close.ensures, c.saturating_sub-since.ensures, c.is_tripped.ensures.0, c.from-code.ensures)
    (ap (λ (l : List ℕ). count_of (raised (closed_at i (e.scan - 1) (shown t)) (trip_sum i) (one (same e.to Tripped))) l)
    (put_shown t.stretches long i c.requires.closable.slot_fits (record { since = e.scan - 1; code = code e.to })))
