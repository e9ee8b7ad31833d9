-- What is wrong with an entry that is refused: the first of its tests that fails, in the order of its fields. Document 01, "Settings,
-- row, state" and "Refusal numbers". The tests are those of the settings and of the rows (settings, specs/Right).
use Rattle.std.specs.Prelude.{ℕ, ◌^◌, Bool, false, cond, not, ◌||◌, List, leb, ltb}
use Rattle.bits.specs.Numbers.{num_at}
use Rattle.bits.specs.Words.{bit_of}
use Rattle.rules.specs.Limits.{between, most_causes, most_period, most_delay, most_hold}
use Rattle.settings.specs.declared.Effect.{Effect}
use Rattle.settings.specs.declared.Row.{Row}
use Rattle.settings.specs.declared.Words.{Words}
use Rattle.settings.specs.Right.{apart, several}
use Rattle.layout.specs.declared.Kind.{Kind}
use Rattle.layout.specs.declared.Kind.TheVariants.{Block, Effects, Rows}
use Rattle.layout.specs.Entries.{block_at, effect_at, row_at}
use Rattle.layout.specs.Sections.{width_of}
use Rattle.findings.specs.declared.Fault.{Fault}
use Rattle.findings.specs.declared.Fault.TheVariants.{CauseCount, Options, Period, NoCause, AbsentCause, Delay, Hold, Word, BothForces, SeveralForced, LastScan}
use Rattle.findings.specs.declared.RowWord.{RowWord}
use Rattle.findings.specs.declared.RowWord.TheVariants.{Values, Bad, Mask, RequireReset, ResetPermit, StartPermit, Reset, ForcePermit, ForceTrip, ForceNormal}

-- the fault, unless its test holds; then the next
abbrev pub or_next : Bool → Fault → Fault → Fault
or_next ok fault next = cond ok next fault

-- ## The block and an effect: where the fields before it are valid, the last one is wrong

unfoldable pub block_fault : (causes options period : ℕ) → Fault
block_fault causes options period = or_next (between 1 most_causes causes) CauseCount (or_next (ltb options 8) Options Period)

unfoldable pub effect_fault : (causes : ℕ) → Effect → Fault
effect_fault causes e = or_next (leb 1 e.association) NoCause (or_next (ltb e.association (2 ^ causes)) AbsentCause Delay)

-- ## A row, the last field first

-- at most one effect is forced, or option bit 2 is set
abbrev pub permitted : (options : ℕ) → Words → Bool
permitted options w = bit_of options 2 || not (several w)

-- the force words together; a row with nothing wrong in itself ends after the last scan that is counted, which a replay finds
unfoldable pub together_fault : (options : ℕ) → Words → Fault
together_fault options w = or_next (apart w) BothForces (or_next (permitted options w) SeveralForced LastScan)

unfoldable pub forces_fault : (count options : ℕ) → Words → Fault
forces_fault count options w =
    or_next (leb w.force_permit 1) (Word ForcePermit)
    (or_next (ltb w.force_trip (2 ^ count)) (Word ForceTrip)
    (or_next (ltb w.force_normal (2 ^ count)) (Word ForceNormal)
    (together_fault options w)))

unfoldable pub resets_fault : (count options : ℕ) → Words → Fault
resets_fault count options w =
    or_next (ltb w.require_reset (2 ^ count)) (Word RequireReset)
    (or_next (ltb w.reset_permit (2 ^ count)) (Word ResetPermit)
    (or_next (ltb w.start_permit (2 ^ count)) (Word StartPermit)
    (or_next (ltb w.reset (2 ^ count)) (Word Reset)
    (forces_fault count options w))))

unfoldable pub inputs_fault : (causes count options : ℕ) → Words → Fault
inputs_fault causes count options w =
    or_next (ltb w.values (2 ^ causes)) (Word Values)
    (or_next (ltb w.bad (2 ^ causes)) (Word Bad)
    (or_next (ltb w.mask (2 ^ causes)) (Word Mask)
    (resets_fault count options w)))

unfoldable pub row_fault : (causes count options : ℕ) → Row → Fault
row_fault causes count options r = or_next (between 1 most_hold r.hold) Hold (inputs_fault causes count options r.words)

-- ## The entry at a place, by the cause count, options and effect count of the file

abbrev pub causes_in : List ℕ → ℕ
causes_in s = (block_at s 2).causes

abbrev pub options_in : List ℕ → ℕ
options_in s = (block_at s 2).options

abbrev pub effects_in : List ℕ → ℕ
effects_in s = num_at 2 s 6

abbrev pub fault_at : Kind → List ℕ → ℕ → Fault
fault_at Block s at = block_fault (block_at s at).causes (block_at s at).options (block_at s at).period
fault_at Effects s at = effect_fault (causes_in s) (effect_at s at)
fault_at Rows s at = row_fault (causes_in s) (effects_in s) (options_in s) (row_at (width_of Rows) s at)

-- ## What a fault says of the entry: its refusal number, and the test that fails

abbrev pub fault_number : Fault → ℕ
fault_number CauseCount = 2
fault_number Options = 2
fault_number Period = 2
fault_number NoCause = 3
fault_number AbsentCause = 3
fault_number Delay = 3
fault_number Hold = 4
fault_number (Word w) = 4
fault_number BothForces = 5
fault_number SeveralForced = 6
fault_number LastScan = 9

abbrev pub word_test : (causes count : ℕ) → Words → RowWord → Bool
word_test causes count w Values = ltb w.values (2 ^ causes)
word_test causes count w Bad = ltb w.bad (2 ^ causes)
word_test causes count w Mask = ltb w.mask (2 ^ causes)
word_test causes count w RequireReset = ltb w.require_reset (2 ^ count)
word_test causes count w ResetPermit = ltb w.reset_permit (2 ^ count)
word_test causes count w StartPermit = ltb w.start_permit (2 ^ count)
word_test causes count w Reset = ltb w.reset (2 ^ count)
word_test causes count w ForcePermit = leb w.force_permit 1
word_test causes count w ForceTrip = ltb w.force_trip (2 ^ count)
word_test causes count w ForceNormal = ltb w.force_normal (2 ^ count)

-- of the entry at a place; that a row ends too late is no test of the row alone, so that it counts as failed here
abbrev pub fault_test : List ℕ → ℕ → Fault → Bool
fault_test s at CauseCount = between 1 most_causes (block_at s at).causes
fault_test s at Options = ltb (block_at s at).options 8
fault_test s at Period = between 1 most_period (block_at s at).period
fault_test s at NoCause = leb 1 (effect_at s at).association
fault_test s at AbsentCause = ltb (effect_at s at).association (2 ^ causes_in s)
fault_test s at Delay = leb (effect_at s at).delay most_delay
fault_test s at Hold = between 1 most_hold (row_at (width_of Rows) s at).hold
fault_test s at (Word word) = word_test (causes_in s) (effects_in s) (row_at (width_of Rows) s at).words word
fault_test s at BothForces = apart (row_at (width_of Rows) s at).words
fault_test s at SeveralForced = permitted (options_in s) (row_at (width_of Rows) s at).words
fault_test s at LastScan = false
