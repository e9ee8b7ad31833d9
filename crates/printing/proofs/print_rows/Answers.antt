-- `printing::print_rows` meets its contract: buffer after buffer, the loop goes on from the row that did not fit.
use mathlib.Core.Path.{refl, sym}
use native.Mathlib.Omega.{arith}
use lib.ListN.{take-append-drop}
use Rattle.std.proofs.lemmas.Result.{IfOk-weaker}
use Rattle.listing.specs.Printed.{listing_of}
use Rattle.printing.proofs.Handed.{appends_then, gone_with}
use Rattle.printing.proofs.Parts.{next, goes, filled}
use Rattle.printing.proofs.Turn.{rest_follows, later, counted}
use Rattle.printing.proofs.print_rows.Goals as goal

pub flush-requires-clause-next_part : goal.flush-requires-clause-next_part
flush-requires-clause-next_part g c =
    let i = rw c.in-Full.is at c.loop-filled.invariant.0 in
    next i.waits _ (rest_follows i)

pub loop-filled-preserved : goal.loop-filled-preserved
loop-filled-preserved g c =
    let sent = c.in_ok-sent-in-Full.ensures in
    let i = rw c.in-Full.is at c.loop-filled.invariant.0 in
    let f = c.fill-filled-in-Full.ensures in
    let n = next i.waits _ (rest_follows i) in (
      record {
        going = f.going;
        buffer = i.buffer;
        long = omega (arith, i.long);
        within = omega (arith, f.within (omega arith));
        waits = filled (goes i.waits _ (rest_follows i) sent.written sent.gone_after) f;
        small = later i refl sent.gone_after f;
        last = f.last;
      },
      rw (sym (gone_with n sent.gone_after)) (appends_then _ _ _ _ _ c.loop-filled.invariant.1 sent.handed),
    )

pub print_closing-requires-clause-at_in_bounds : goal.print_closing-requires-clause-at_in_bounds
print_closing-requires-clause-at_in_bounds g c =
    let i = rw c.in-Last.is at c.loop-filled.invariant.0 in
    (omega (arith, i.within), rw i.long i.buffer, counted i)

pub returns-in-Last-clause-handed : goal.returns-in-Last-clause-handed
returns-in-Last-clause-handed g c =
    let l = listing_of c.args.why c.args.s.now in
    rw (sym (take-append-drop c.loop-filled.sent.gone l)) (IfOk-weaker _ _ _ (λ _. appends_then _ _ _ _ _ c.loop-filled.invariant.1) c.print_closing.ensures.handed)
