-- `why_bytes::put_rows` meets its contract. The loop's invariant: the reasons of the rows so far stand.
use mathlib.Core.Path.{refl, ap, sym, ◌∙◌}
use mathlib.Core.List.{List}
use Prim.Native.Nat.{ℕ, ◌*◌}
use native.Mathlib.Omega.{arith}
use lib.ListN.{length}
use lib.Seq.{sets, length-sets}
use Rattle.reasoned.specs.Reasoned.{reasoned_row}
use Rattle.why_bytes.specs.Bytes.{reason_length, reason_bytes}
use Rattle.why_bytes.proofs.Rows.{same-room, after, after_none, after_more, after_all}
use Rattle.why_bytes.proofs.put_rows.Goals as goal

pub loop-t-init : goal.loop-t-init
loop-t-init c =
    let a = c.args in
    (c.requires.0, refl, after_none a.s.now a.out.now a.run.rows c.requires.1)

pub loop-t-preserved : goal.loop-t-preserved
loop-t-preserved c =
    let l = c.loop-t in
    let a = c.args in
    let r = c.put_next-next.ensures in
    let those = reason_bytes (reasoned_row a.s.now l.t.rows) in
    let same = ap length r.laid ∙ length-sets l.out (reason_length * l.t.records) those in (
      same-room r.telling (sym same),
      same ∙ l.invariant.1,
      r.laid
          ∙ ap (λ (o : List ℕ). sets o (reason_length * l.t.records) those) l.invariant.2
          ∙ after_more a.s.now a.out.now l.t.rows l.t.records l.invariant.0.told
          ∙ ap (after a.s.now a.out.now) (sym r.onward),
    )

pub returns : goal.returns
returns c =
    let l = c.loop-t in
    let a = c.args in
    let g = l.invariant.0.going in
    l.invariant.2 ∙ after_all a.s.now a.out.now g (omega (arith, c.loop-t-test.false, g.many, g.counted))
