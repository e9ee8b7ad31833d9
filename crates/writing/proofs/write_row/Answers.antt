-- `writing::write_row` meets its contract, from what its callees ensure and the tests on the way.
use Rattle.pieces.proofs.Opening.{row_length}
use Rattle.layout.specs.Entries.{put_row}
use Rattle.writing.specs.Writer.{row_piece_number}
use mathlib.Core.Path.{◌≡◌, refl, sym, ◌∙◌}
use Rattle.writing.proofs.Pieces.{piece_short, piece_fits}
use native.Mathlib.Omega.{arith}
use Prim.Native.Nat.{◌<◌}
use lib.ListN.{length}
use Rattle.writing.proofs.write_row.Goals as goal

pub returns-then-out-width : goal.returns-then-out-width
returns-then-out-width c =
    let a = c.args in
    let right : 0 ≡ row_piece_number a.st a.row = c.in_ok-check_row_piece.ensures in
    let short : length a.out.now < length (put_row a.row) = rw row_length (omega (arith, c.width_of-width.ensures, c.if-out-width.true)) in
    let r = piece_short _ _ (put_row a.row) a.out.now right refl short in
    record { value = r.0; out_after = r.1 }

pub returns : goal.returns
returns c =
    let n = c.width_of-width.ensures in
    let a = c.args in
    let right : 0 ≡ row_piece_number a.st a.row = c.in_ok-check_row_piece.ensures in
    let r = piece_fits _ _ (put_row a.row) a.out.now right refl _ (row_length a.row ∙ sym n) _ c.if-out-width.false c.put_row.ensures in
    record { value = r.0; out_after = r.1 }
