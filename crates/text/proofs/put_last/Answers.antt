-- `text::put_last` meets its contract: four words with their numbers, one after the other.
use mathlib.Core.List.{◌++◌}
use Prim.Native.Nat.{ℕ, ◌+◌, ◌^◌, ◌≤◌, ◌<◌}
use native.Mathlib.Omega.{arith}
use lib.ListN.{length}
use Rattle.bits.specs.Decimal.{ascii}
use Rattle.text.specs.Room.{most_piece}
use Rattle.text.specs.Pieces.{total}
use Rattle.text.proofs.Lines.{last_pieces, length_last}
use Rattle.bits.proofs.Puts.{put_then}
use Rattle.text.proofs.Room.{last_at_most}
use Rattle.text.proofs.put_last.Goals as goal

-- the pieces of the last line have together at most `most_piece` bytes
short : (rows scans live exercised : ℕ) → rows < 2 ^ 32 → scans < 2 ^ 32 → live < 2 ^ 32 → exercised < 2 ^ 32
    → length (total (ascii "rows") rows 32) + (length (total (ascii "scans") scans 32) + (length (total (ascii "live") live 32) + length (total (ascii "exercised") exercised 10))) ≤ most_piece
short r s l x hr hs hl hx = rw (← length_last r s l x) (last_at_most r s l x hr hs hl hx)

pub put_total-second-requires : goal.put_total-second-requires
put_total-second-requires c =
    let a = c.args in
    let r = c.ranges in
    omega (arith, short a.rows a.scans a.live a.exercised r.rows.fits r.scans.fits r.live.fits r.exercised.fits)

pub put_total-third-requires : goal.put_total-third-requires
put_total-third-requires c =
    let a = c.args in
    let r = c.ranges in
    omega (arith, short a.rows a.scans a.live a.exercised r.rows.fits r.scans.fits r.live.fits r.exercised.fits)

pub put_total-fourth-requires : goal.put_total-fourth-requires
put_total-fourth-requires c =
    let a = c.args in
    let r = c.ranges in
    omega (arith, short a.rows a.scans a.live a.exercised r.rows.fits r.scans.fits r.live.fits r.exercised.fits)

pub put_total-requires : goal.put_total-requires
put_total-requires c =
    let a = c.args in
    let r = c.ranges in
    omega (arith, short a.rows a.scans a.live a.exercised r.rows.fits r.scans.fits r.live.fits r.exercised.fits)

pub returns : goal.returns
returns c =
    let a = c.args in
    let r = c.ranges in
    let rows = total (ascii "rows") a.rows 32 in
    let scans = total (ascii "scans") a.scans 32 in
    let live = total (ascii "live") a.live 32 in
    let exercised = total (ascii "exercised") a.exercised 10 in
    let two = put_then _ _ _ _ _ _ live exercised c.put_total-fourth.ensures c.put_total.ensures in
    let three = put_then _ _ _ _ _ _ scans (live ++ exercised) c.put_total-third.ensures two in
    record {
      value = rw (last_pieces a.rows a.scans a.live a.exercised)
          (put_then a.out.now _ _ a.at _ _ rows (scans ++ (live ++ exercised)) c.put_total-second.ensures three);
      upper_bound = omega (arith, short a.rows a.scans a.live a.exercised r.rows.fits r.scans.fits r.live.fits r.exercised.fits);
    }
