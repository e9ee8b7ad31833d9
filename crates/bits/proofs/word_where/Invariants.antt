-- `bits::word_where` meets its contract. The loop's invariant: the word has no bit at i or above, and is that of the first i indices.
use Rattle.std.proofs.Common.{◌≡◌, ℕ, Bool, ◌^◌, ◌<◌}
use Rattle.bits.specs.Words.{word_of}
use Rattle.bits.proofs.word_where.Given as goal

abbrev pub invariant-loop-i : goal.invariant-loop-i
invariant-loop-i g l =
    (l.word < 2 ^ l.i)
    × ((t : ℕ → Bool) → ((i : ℕ) (b : Bool) → i < l.count → goal.F-post g l.test i b → b ≡ t i) → l.word ≡ word_of t l.i)
