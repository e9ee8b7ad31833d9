-- `wording::put_named` meets its contract: the word, and the number behind it.
use Rattle.bits.specs.Decimal.{decimal}
use Rattle.bits.proofs.Puts.{put_then}
use Rattle.wording.proofs.put_named.Goals as goal

pub returns : goal.returns
returns c =
    let a = c.args in
    put_then a.out.now _ _ a.at _ _ a.word.now (decimal a.v) c.put_text-next.ensures c.put_decimal.ensures
