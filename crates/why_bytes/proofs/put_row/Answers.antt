-- `why_bytes::put_row` meets its contract. The loop's invariant: with the reasons of the events that are left, of any whose records these are,
-- the lent bytes would hold those of all of them.
use mathlib.Core.Path.{ap, ◌∙◌}
use mathlib.Core.List.{List}
use Prim.Native.Nat.{ℕ, ◌+◌, ◌*◌}
use native.Mathlib.Omega.{arith}
use lib.ListN.{drop, get_or}
use lib.Seq.{sets, length-sets}
use Rattle.bits.proofs.Lists.{store_turn, store_ends}
use Rattle.rules.specs.Limits.{most_effects}
use Rattle.effects.specs.declared.Event.{Event}
use Rattle.effects.proofs.Records.{no_event, nth, numbered_at}
use Rattle.reasons.specs.Reasons.{reason_in}
use Rattle.reason_bytes.specs.Bytes.{numbers_of}
use Rattle.standing.proofs.Records.{read_is}
use Rattle.why_bytes.specs.Bytes.{reason_length}
use Rattle.why_bytes.specs.Rows.{record_reasons}
use Rattle.why_bytes.proofs.Rows.{length-reason}
use Rattle.why_bytes.proofs.put_row.Goals as goal

pub event_at-e-requires : goal.event_at-e-requires
event_at-e-requires c =
    let a = c.args in
    let g = c.requires.0 in
    (get_or g.0 c.loop-i.i no_event, nth a.records.now g.0 a.n c.loop-i.i g.1 g.2 (omega arith))

pub reason_in-r-requires : goal.reason_in-r-requires
reason_in-r-requires c =
    let g = c.requires.0 in
    rw (read_is c.args.records.now c.args.n c.loop-i.i _ c.event_at-e.ensures (omega arith) g.0 g.1 g.2) (numbered_at most_effects g.0 c.loop-i.i no_event g.3 (omega (arith, g.1)))

pub loop-i-preserved : goal.loop-i-preserved
loop-i-preserved c =
    let a = c.args in
    let piece : Event → List ℕ = λ e. numbers_of (reason_in a.sight a.associations.now e) in (
      rw (c.put_numbers.ensures, length-sets) c.loop-i.invariant.0,
      λ es n h.
          let is = c.reason_in-r.ensures ∙ ap (reason_in a.sight a.associations.now) (read_is c.args.records.now c.args.n c.loop-i.i _ c.event_at-e.ensures (omega arith) es n h) in
          ap (λ (l : List ℕ). sets l (a.at + reason_length * (c.loop-i.i + 1)) (record_reasons a.sight a.associations.now (drop (c.loop-i.i + 1) es)))
          (c.put_numbers.ensures ∙ ap (λ r. sets c.loop-i.out (a.at + reason_length * c.loop-i.i) (numbers_of r)) is)
          ∙ store_turn piece reason_length (λ e. length-reason (reason_in a.sight a.associations.now e)) c.loop-i.out a.at c.loop-i.i es no_event (omega (arith, n))
          ∙ c.loop-i.invariant.1 es n h,
    )

pub returns : goal.returns
returns c =
    let a = c.args in
    λ es n h.
    store_ends (λ (e : Event). numbers_of (reason_in a.sight a.associations.now e)) c.loop-i.out _ (a.at + reason_length * c.loop-i.i) c.loop-i.i es (omega (arith, n)) (c.loop-i.invariant.1 es n h)
