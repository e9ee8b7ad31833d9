-- A finding in words, as bytes, with no line end. The words are ours; the limits that they name are document 01's, "Settings, row, state".
use Rattle.std.specs.Prelude.{ℕ, ◌+◌, List, [], ◌++◌}
use Rattle.bits.specs.Decimal.{ascii, decimal}
use Rattle.layout.specs.declared.Kind.{Kind}
use Rattle.layout.specs.declared.Kind.TheVariants.{Block, Effects, Rows}
use Rattle.findings.specs.declared.RowWord.{RowWord}
use Rattle.findings.specs.declared.RowWord.TheVariants.{Values, Bad, Mask, RequireReset, ResetPermit, StartPermit, Reset, ForcePermit, ForceTrip, ForceNormal}
use Rattle.findings.specs.declared.Fault.{Fault}
use Rattle.findings.specs.declared.Fault.TheVariants.{CauseCount, Options, Period, NoCause, AbsentCause, Delay, Hold, Word, BothForces, SeveralForced, LastScan}
use Rattle.findings.specs.declared.Finding.{Finding}
use Rattle.findings.specs.declared.Finding.TheVariants.{Nothing, CountEnds, EntryEnds, CountWrong, EntryWrong, Spare}

-- the most bytes of a sentence: `effect ` and a number of 16 bits, a colon and a space, and the longest fault
abbrev pub most_words : ℕ
most_words = 7 + 5 + 2 + 52

-- a text and the number behind it
unfoldable pub numbered : List ℕ → ℕ → List ℕ
numbered text n = text ++ decimal n

-- ## What is wrong

unfoldable pub word_text : RowWord → List ℕ
word_text Values = ascii "its values word has a bit of an absent cause"
word_text Bad = ascii "its bad word has a bit of an absent cause"
word_text Mask = ascii "its mask word has a bit of an absent cause"
word_text RequireReset = ascii "its require reset word has a bit of an absent effect"
word_text ResetPermit = ascii "its reset permit word has a bit of an absent effect"
word_text StartPermit = ascii "its start permit word has a bit of an absent effect"
word_text Reset = ascii "its reset word has a bit of an absent effect"
word_text ForcePermit = ascii "its force permit is not 0 or 1"
word_text ForceTrip = ascii "its force trip word has a bit of an absent effect"
word_text ForceNormal = ascii "its force normal word has a bit of an absent effect"

unfoldable pub fault_text : Fault → List ℕ
fault_text CauseCount = ascii "its cause count is not 1 to 16"
fault_text Options = ascii "its options have a bit above 2"
fault_text Period = ascii "its period is not 1 to 1,000"
fault_text NoCause = ascii "it has no cause"
fault_text AbsentCause = ascii "it has a cause above the cause count"
fault_text Delay = ascii "its delay is above 3,600,000"
fault_text Hold = ascii "its hold is not 1 to 1,000,000"
fault_text (Word w) = word_text w
fault_text BothForces = ascii "an effect is in both force words"
fault_text SeveralForced = ascii "several effects are forced without option bit 2"
fault_text LastScan = ascii "it ends after scan 1,000,000,000"

-- ## Where

unfoldable pub count_ends : Kind → List ℕ
count_ends Block = ascii "the bytes end in the block count"
count_ends Effects = ascii "the bytes end in the effect count"
count_ends Rows = ascii "the bytes end in the row count"

unfoldable pub entry_ends : Kind → ℕ → List ℕ
entry_ends Block entry = ascii "the bytes end in the block"
entry_ends Effects entry = numbered (ascii "the bytes end in effect ") entry
entry_ends Rows entry = numbered (ascii "the bytes end in row ") entry

unfoldable pub count_wrong : Kind → List ℕ
count_wrong Block = ascii "the block count is not 1"
count_wrong Effects = ascii "the effect count is not 1 to 16"
count_wrong Rows = ascii "the row count is not 1 to 2,048"

unfoldable pub entry_name : Kind → ℕ → List ℕ
entry_name Block entry = ascii "block"
entry_name Effects entry = numbered (ascii "effect ") entry
entry_name Rows entry = numbered (ascii "row ") entry

unfoldable pub entry_wrong : Kind → ℕ → Fault → List ℕ
entry_wrong kind entry fault = entry_name kind entry ++ (ascii ": " ++ fault_text fault)

-- ## The whole

unfoldable pub sentence : Finding → List ℕ
sentence Nothing = []
sentence (CountEnds kind) = count_ends kind
sentence (EntryEnds kind entry) = entry_ends kind entry
sentence (CountWrong kind) = count_wrong kind
sentence (EntryWrong kind entry fault) = entry_wrong kind entry fault
sentence Spare = ascii "bytes follow the last row"
