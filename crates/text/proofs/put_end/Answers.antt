-- `text::put_end` meets its contract: the words, and one store more behind them.
use native.Mathlib.Omega.{arith}
use lib.ListN.{length-append}
use Rattle.bits.specs.Decimal.{ascii}
use Rattle.bits.proofs.Numbers.{put_last}
use Rattle.wording.specs.Text.{words_of}
use Rattle.text.proofs.put_end.Goals as goal

pub put_reason-last-requires : goal.put_reason-last-requires
put_reason-last-requires c = omega (arith, length-append (words_of c.args.r) (ascii "\n"))

pub bounds-out-last : goal.bounds-out-last
bounds-out-last c = omega (arith, length-append (words_of c.args.r) (ascii "\n"))

pub overflow_add-result : goal.overflow_add-result
overflow_add-result c = omega (arith, length-append (words_of c.args.r) (ascii "\n"))

pub returns : goal.returns
returns c =
    let a = c.args in
    let p = c.put_reason-last.ensures in
    (omega (arith, length-append (words_of a.r) (ascii "\n")), put_last a.out.now _ a.at _ (words_of a.r) 10 p.1 p.0)
