-- `cells::settle` meets its contract, from what its callees ensure: an entry of the array is the entry of its part.
use Rattle.std.proofs.Common.{◌≡◌, ◌+◌, cond, get_or, bit_and, sym, ◌∙◌}
use Rattle.bits.specs.Words.{bit_of}
use Rattle.cells.specs.Array.{delays_at, firsts_at}
use Rattle.cells.proofs.Filled.{get_or_association, get_d_part}
use Rattle.cells.proofs.settle.Goals as goal
use Rattle.cells.proofs.settle.Goals.{then-bit, else-bit, then-bit-2, else-bit-2+then-bit-3, else-bit-2+else-bit-3}

pub returns : goal.returns
returns c =
    let a = c.args in
    let b = a.board.now in
    let i = a.i in
    let timer : c.if-bit.board ≡ cond (bit_of a.delayed i) (get_or b (delays_at + i) 0) 0 =
    elim c.if-bit.branch [
      | then-bit w ↦ rw (w.board-is, sym c.bit.ensures ∙ w.if-bit.true)
      | else-bit w ↦ rw (w.board-is, sym c.bit.ensures ∙ w.if-bit.false)
    ]
    in
    let first : c.if-bit-2.board ≡ cond (bit_of a.is i) 0 (cond (bit_of a.was i) (bit_and (get_or b i 0) a.causes) (get_or b (firsts_at + i) 0)) =
    elim c.if-bit-2.branch [
      | then-bit-2 w ↦ rw (w.board-is, sym c.bit-2.ensures ∙ w.if-bit-2.true)
      | else-bit-2+then-bit-3 w ↦ rw (w.board-is, sym c.bit-2.ensures ∙ w.if-bit-2.false, sym w.bit-else-bit-2.ensures ∙ w.if-bit-3.true)
      | else-bit-2+else-bit-3 w ↦ rw (w.board-is, sym c.bit-2.ensures ∙ w.if-bit-2.false, sym w.bit-else-bit-2.ensures ∙ w.if-bit-3.false)
    ]
    in
    rw (timer, first, get_d_part delays_at b i c.requires, get_d_part firsts_at b i c.requires, get_or_association b i c.requires)
