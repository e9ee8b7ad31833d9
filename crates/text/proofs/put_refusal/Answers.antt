-- `text::put_refusal` meets its contract: two words with their numbers, one after the other.
use Prim.Native.Nat.{ℕ, ◌+◌, ◌^◌, ◌≤◌, ◌<◌}
use native.Mathlib.Omega.{arith}
use lib.ListN.{length}
use Rattle.bits.specs.Decimal.{ascii}
use Rattle.text.specs.Room.{most_piece}
use Rattle.text.specs.Pieces.{total}
use Rattle.text.proofs.Lines.{refusal_pieces, length-refusal}
use Rattle.bits.proofs.Puts.{put_then}
use Rattle.text.proofs.Room.{refusal_at_most}
use Rattle.text.proofs.put_refusal.Goals as goal

-- the pieces of the line of a refusal have together at most `most_piece` bytes
short : (number place : ℕ) → number < 256 → place < 2 ^ 64 → length (total (ascii "refused") number 32) + length (total (ascii "at") place 10) ≤ most_piece
short n p hn hp = rw (← length-refusal n p) (refusal_at_most n p hn hp)

pub put_total-second-requires : goal.put_total-second-requires
put_total-second-requires c = omega (arith, short c.args.number c.args.place c.ranges.number.fits c.ranges.place.fits)

pub put_total-requires : goal.put_total-requires
put_total-requires c = omega (arith, short c.args.number c.args.place c.ranges.number.fits c.ranges.place.fits)

pub returns : goal.returns
returns c =
    let a = c.args in
    let refused = total (ascii "refused") a.number 32 in
    let place = total (ascii "at") a.place 10 in
    record {
      value = rw (refusal_pieces a.number a.place) (put_then a.out.now _ _ a.at _ _ refused place c.put_total-second.ensures c.put_total.ensures);
      upper_bound = omega (arith, short a.number a.place c.ranges.number.fits c.ranges.place.fits, length-refusal a.number a.place);
    }
