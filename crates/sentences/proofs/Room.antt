-- How long sentences are at most.
use mathlib.Core.List.{List, ◌++◌}
use Prim.Native.Nat.{ℕ, ◌+◌, ◌≤◌, ◌<◌}
use native.Mathlib.Omega.{arith}
use mathlib.Core.Path.{◌≡◌}
use lib.Dec.{lit≤}
use lib.ListN.{length, length-append}
use Rattle.bits.specs.Decimal.{ascii, decimal}
use Rattle.bits.proofs.Decimal.{length-decimal}
use Rattle.layout.specs.declared.Kind.{Kind}
use Rattle.layout.specs.declared.Kind.TheVariants.{Block, Effects, Rows}
use Rattle.findings.specs.declared.RowWord.{RowWord}
use Rattle.findings.specs.declared.RowWord.TheVariants.{Values, Bad, Mask, RequireReset, ResetPermit, StartPermit, Reset, ForcePermit, ForceTrip, ForceNormal}
use Rattle.findings.specs.declared.Fault.{Fault}
use Rattle.findings.specs.declared.Fault.TheVariants.{CauseCount, Options, Period, NoCause, AbsentCause, Delay, Hold, Word, BothForces, SeveralForced, LastScan}
use Rattle.sentences.specs.Sentences.{most_words, numbered, word_text, fault_text, count_ends, entry_ends, count_wrong, entry_name, entry_wrong}

pub length-numbered : (text : List ℕ) (n : ℕ) → length (numbered text n) ≡ length text + length (decimal n)
unfolding numbered
length-numbered text n = length-append text (decimal n)

-- a number of 16 bits behind a text
numbered_most : (text : List ℕ) (n : ℕ) → n < 65536 → length (numbered text n) ≤ length text + 5
numbered_most text n h = omega (arith, length-numbered text n, length-decimal 4 n (omega arith))

word_most : (w : RowWord) → length (word_text w) ≤ 52
unfolding word_text
word_most Values = lit≤ tt
word_most Bad = lit≤ tt
word_most Mask = lit≤ tt
word_most RequireReset = lit≤ tt
word_most ResetPermit = lit≤ tt
word_most StartPermit = lit≤ tt
word_most Reset = lit≤ tt
word_most ForcePermit = lit≤ tt
word_most ForceTrip = lit≤ tt
word_most ForceNormal = lit≤ tt

fault_most : (f : Fault) → length (fault_text f) ≤ 52
unfolding fault_text
fault_most CauseCount = lit≤ tt
fault_most Options = lit≤ tt
fault_most Period = lit≤ tt
fault_most NoCause = lit≤ tt
fault_most AbsentCause = lit≤ tt
fault_most Delay = lit≤ tt
fault_most Hold = lit≤ tt
fault_most (Word w) = word_most w
fault_most BothForces = lit≤ tt
fault_most SeveralForced = lit≤ tt
fault_most LastScan = lit≤ tt

pub count_ends_most : (k : Kind) → length (count_ends k) ≤ most_words
unfolding count_ends
count_ends_most Block = lit≤ tt
count_ends_most Effects = lit≤ tt
count_ends_most Rows = lit≤ tt

pub count_wrong_most : (k : Kind) → length (count_wrong k) ≤ most_words
unfolding count_wrong
count_wrong_most Block = lit≤ tt
count_wrong_most Effects = lit≤ tt
count_wrong_most Rows = lit≤ tt

pub entry_ends_most : (k : Kind) (i : ℕ) → i < 65536 → length (entry_ends k i) ≤ most_words
unfolding entry_ends
entry_ends_most Block i h = lit≤ tt
entry_ends_most Effects i h = omega (arith, numbered_most (ascii "the bytes end in effect ") i h)
entry_ends_most Rows i h = omega (arith, numbered_most (ascii "the bytes end in row ") i h)

name_most : (k : Kind) (i : ℕ) → i < 65536 → length (entry_name k i) ≤ 12
unfolding entry_name
name_most Block i h = lit≤ tt
name_most Effects i h = numbered_most (ascii "effect ") i h
name_most Rows i h = omega (arith, numbered_most (ascii "row ") i h)

pub length-wrong : (k : Kind) (i : ℕ) (f : Fault) → length (entry_wrong k i f) ≡ length (entry_name k i) + (2 + length (fault_text f))
unfolding entry_wrong
length-wrong k i f = omega (arith, length-append (entry_name k i) (ascii ": " ++ fault_text f), length-append (ascii ": ") (fault_text f))

pub entry_wrong_most : (k : Kind) (i : ℕ) (f : Fault) → i < 65536 → length (entry_wrong k i f) ≤ most_words
entry_wrong_most k i f h = omega (arith, length-wrong k i f, name_most k i h, fault_most f)
