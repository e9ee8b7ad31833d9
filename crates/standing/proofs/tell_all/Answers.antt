-- `standing::tell_all` meets its contract. The loop's invariant: with the events that are left, of any whose records these are, the slots
-- would be those after all of them.
use mathlib.Core.Path.{sym, ◌∙◌}
use native.Mathlib.Omega.{arith}
use lib.ListN.{get_or}
use Rattle.rules.specs.Limits.{most_effects}
use Rattle.effects.proofs.Records.{no_event, nth, numbered_at}
use Rattle.standing.proofs.Records.{read_is, left_told}
use Rattle.standing.proofs.tell_all.Goals as goal

pub event_at-e-requires : goal.event_at-e-requires
event_at-e-requires c =
    let a = c.args in
    let g = c.requires in
    (get_or g.0 c.loop-i.i no_event, nth a.records.now g.0 a.n c.loop-i.i g.1 g.2 (omega arith))

pub tell-requires : goal.tell-requires
tell-requires c =
    let g = c.requires in
    rw (read_is c.args.records.now c.args.n c.loop-i.i _ c.event_at-e.ensures (omega arith) g.0 g.1 g.2) (numbered_at most_effects g.0 c.loop-i.i no_event g.3 (omega (arith, g.1)))

pub loop-i-preserved : goal.loop-i-preserved
loop-i-preserved c =
    let a = c.args in
    λ es n h. rw (c.tell.ensures, read_is c.args.records.now c.args.n c.loop-i.i _ c.event_at-e.ensures (omega arith) es n h) (sym (left_told a.scan es c.loop-i.i c.loop-i.slots (omega (arith, n))) ∙ c.loop-i.invariant es n h)
