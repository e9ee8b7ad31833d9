-- `engine::scan` meets its contract, from what its callees ensure.
use Rattle.std.proofs.Common.{◌≡◌, ℕ, ◌+◌, Bool, true, false, refl, ap, ◌∙◌, arith}
use Rattle.std.specs.Int.{from_bool}
use Rattle.bits.specs.Words.{one}
use lib.Bits.{or_lt}
use Rattle.boards.proofs.Picked.{picked_le}
use Rattle.engine.proofs.Marks.{between, settles, same_ticks, narrow_then, fits_then, scanned_is}
use Rattle.engine.proofs.scan.Goals as goal

pub tick-due-requires : goal.tick-due-requires
tick-due-requires c =
    let h = c.requires in
    (h.few, h.within.0, h.settled.still)

pub put_changed-at-requires : goal.put_changed-at-requires
put_changed-at-requires c =
    let h = c.requires in
    let seen = c.args.seen in
    let t = c.tick-due.ensures in
    record {
      long = (same_ticks h t.value c.planes_after-is.ensures c.changed-ch.ensures t.board_after).long;
      countable = h.countable;
      narrow = narrow_then h (settles c.requires t.value c.planes_after-is.ensures c.changed-ch.ensures t.board_after refl) (or_lt 16 seen.tripped seen.bad (omega (arith, c.well_formed)) (omega (arith, c.well_formed)));
      fits = fits_then h (settles c.requires t.value c.planes_after-is.ensures c.changed-ch.ensures t.board_after refl) c.changed-ch.ensures;
    }

pub seq_after-requires : goal.seq_after-requires
seq_after-requires c = between _ _ _ c.put_changed-at.ensures.value (picked_le _ _ 16)

counted : (b : Bool) → from_bool b ≡ one b
counted true = refl
counted false = refl

pub returns : goal.returns
returns c =
    let t = c.tick-due.ensures in
    let e = c.put_changed-at.ensures in
    scanned_is c.requires (settles c.requires t.value c.planes_after-is.ensures c.changed-ch.ensures t.board_after e.board_after) c.changed-ch.ensures e.value c.seq_after.ensures (ap (λ (n : ℕ). c.args.x.live + n) (c.from.ensures ∙ counted _)) e.buf_after
