-- `text::put_lines` meets its contract. The loop's invariant: for any events whose records these are, the text written so far and the
-- lines that are left make the whole text.
use mathlib.Core.Path.{◌≡◌, sym, ap, ◌∙◌}
use mathlib.Core.List.{List}
use Prim.Native.Nat.{◌+◌, ◌*◌}
use native.Mathlib.Omega.{arith}
use lib.ListN.{length, get_or}
use lib.Seq.{sets, length-sets}
use Rattle.bits.proofs.Numbers.{sets-append}
use Rattle.rules.specs.Limits.{most_effects}
use Rattle.effects.specs.declared.Event.{Event}
use Rattle.effects.specs.Records.{record_length, StandFrom}
use Rattle.effects.proofs.Records.{no_event, nth, one_event, numbered_at}
use Rattle.text.specs.Pieces.{column_line, column_lines}
use Rattle.text.proofs.Lines.{left_turn, left_length, left-none}
use Rattle.text.proofs.Room.{lines_at_most}
use Rattle.text.proofs.put_lines.Goals as goal

pub event_at-requires : goal.event_at-requires
event_at-requires c =
    let g = c.requires.1 in
    (get_or g.0 c.loop-i.i no_event, nth c.args.records.now g.0 c.args.n c.loop-i.i g.1 g.2 (omega arith))

pub put_line-next-requires : goal.put_line-next-requires
put_line-next-requires c =
    let a = c.args in
    let g = c.requires.1 in
    let line = column_line a.column a.associations.now in
    let is = one_event a.records.now (record_length * c.loop-i.i) c.event_at.result _ c.event_at.ensures (nth a.records.now g.0 a.n c.loop-i.i g.1 g.2 (omega arith)) in
    let number = numbered_at most_effects g.0 c.loop-i.i no_event g.3 (omega (arith, g.1)) in
    let same = ap (λ (e : Event). e.effect) is in
    (omega (arith, number.0, same), omega (arith, number.1, same), omega (arith, lines_at_most a.column c.requires.3 a.associations.now a.records.now (λ i. (c.type_inv.records i).fits) 0 g.0 g.2, c.requires.2, left_length line g.0 c.loop-i.i no_event (omega (arith, g.1)), ap (λ (e : Event). length (line e)) is, (c.loop-i.invariant.1 g.0 g.1 g.2).0, g.1))

pub loop-i-preserved : goal.loop-i-preserved
loop-i-preserved c =
    let a = c.args in
    let line = column_line a.column a.associations.now in
    let p = c.put_line-next.ensures in
    let e = c.event_at in (
      rw (p.1, length-sets) c.loop-i.invariant.0,
      λ es n h.
          let is = one_event a.records.now (record_length * c.loop-i.i) e.result _ e.ensures (nth a.records.now es a.n c.loop-i.i n h (omega arith)) in
          let v = c.loop-i.invariant.1 es n h in
          let t = left_turn line es c.loop-i.i no_event (omega (arith, n)) in (
            omega (arith, p.0, left_length line es c.loop-i.i no_event (omega (arith, n)), ap (λ (x : Event). length (line x)) is, v.0),
            rw (p.1, p.0, is) (sym (sets-append c.loop-i.out c.loop-i.next (line (get_or es c.loop-i.i no_event)) _) ∙ ap (sets c.loop-i.out c.loop-i.next) (sym t) ∙ v.1),
          ),
    )

pub returns : goal.returns
returns c =
    let a = c.args in
    let line = column_line a.column a.associations.now in
    let lines = column_lines a.column a.associations.now in
    let ended : (es : List Event) → length es ≡ a.n → StandFrom a.records.now 0 es → (c.loop-i.next ≡ a.at + length (lines es)) × (c.loop-i.out ≡ sets a.out.now a.at (lines es)) =
    λ es n h.
    let none_left = left-none line es c.loop-i.i (omega (arith, n)) in
    let v = c.loop-i.invariant.1 es n h in
    (omega (arith, v.0, ap length none_left), rw none_left at v.1)
    in
    let g = c.requires.1 in
    record { lines_put = ended; upper_bound = omega (arith, lines_at_most a.column c.requires.3 a.associations.now a.records.now (λ i. (c.type_inv.records i).fits) 0 g.0 g.2, c.requires.2, (ended g.0 g.1 g.2).0, g.1) }
