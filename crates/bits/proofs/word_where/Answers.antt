-- `bits::word_where` meets its contract. The loop's invariant: the word has no bit at i or above, and is that of the first i indices.
use Rattle.std.proofs.Common.{refl, arith}
use Rattle.bits.specs.Words.{word_of}
use Rattle.bits.proofs.Words.{more_lt, word_of_more}
use Rattle.bits.proofs.word_where.Goals as goal

pub loop-i-init : goal.loop-i-init
unfolding word_of
loop-i-init g c = (omega arith, λ t h. refl)

pub loop-i-preserved : goal.loop-i-preserved
loop-i-preserved g c =
    let v = c.loop-i.invariant in (
      rw c.put_bit-word.ensures (more_lt _ _ c.test.result v.0),
      λ t h. rw (c.put_bit-word.ensures, v.1 t h, h _ _ c.loop-i-test.true c.test.ensures, word_of_more),
    )
