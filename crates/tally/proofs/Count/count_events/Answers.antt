-- `tally::Count::count_events` meets its contract. The loop's invariant: of the events whose records these are, with those that are left the
-- count would be whole, and they can be counted.
use mathlib.Core.Path.{◌≡◌, sym, ◌∙◌}
use mathlib.Core.List.{List}
use Prim.Native.Nat.{◌*◌}
use native.Mathlib.Omega.{arith}
use lib.ListN.{length, get_or}
use Rattle.effects.specs.declared.Event.{Event}
use Rattle.effects.specs.Records.{record_length, StandFrom}
use Rattle.effects.proofs.Records.{no_event, nth, one_event}
use Rattle.tally.specs.Shown.{shown}
use Rattle.tally.proofs.Counting.{left_counted, left_countable}
use Rattle.tally.proofs.Count.count_events.Goals as goal

pub event_at-e-requires : goal.event_at-e-requires
event_at-e-requires c =
    let a = c.args in
    let g = c.requires in
    (get_or g.0 c.loop-i.i no_event, nth a.records.now g.0 a.n c.loop-i.i g.1 g.2 (omega arith))

pub count_event-requires : goal.count_event-requires
count_event-requires c =
    let a = c.args in
    let g = c.requires in
    let i = c.loop-i.i in
    let is = one_event a.records.now (record_length * i) c.event_at-e.result _ c.event_at-e.ensures (nth a.records.now g.0 a.n i g.1 g.2 (omega arith)) in
    rw is (left_countable g.0 i (omega (arith, g.1)) (shown c.loop-i.self) (c.loop-i.invariant.1 g.0 g.1 g.3 g.2)).0

pub loop-i-preserved : goal.loop-i-preserved
loop-i-preserved c =
    let a = c.args in
    let records = a.records.now in
    let i = c.loop-i.i in
    let t = shown c.loop-i.self in
    let next = c.count_event.ensures in
    let is : (es : List Event) → length es ≡ a.n → StandFrom records 0 es → c.event_at-e.result ≡ get_or es i no_event =
    λ es n h. one_event records (record_length * i) c.event_at-e.result _ c.event_at-e.ensures (nth records es a.n i n h (omega arith))
    in (
      λ es n h. rw (next, is es n h) (sym (left_counted es i (omega (arith, n)) t) ∙ c.loop-i.invariant.0 es n h),
      λ es n all h. rw (next, is es n h) (left_countable es i (omega (arith, n)) t (c.loop-i.invariant.1 es n all h)).1,
    )
