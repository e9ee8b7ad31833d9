-- `bits::U32BigEndian::put` meets its contract: the bytes that std gives are those of the number.
use Rattle.std.proofs.Common.{◌∙◌, arith}
use Rattle.bits.specs.Numbers.{digits}
use Rattle.bits.proofs.Numbers.{part_text, be_four}
use Rattle.bits.proofs.U32BigEndian.put.Goals as goal

pub returns : goal.returns
returns c =
    let a = c.args in
    part_text (digits 4 a.v) a.s.now _ a.at _ c.requires (omega arith) (c.copy_from_slice.ensures.after ∙ c.to_be_bytes.ensures ∙ be_four a.v (omega arith))
