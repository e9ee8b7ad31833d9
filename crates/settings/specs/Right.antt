-- What is valid, and which refusal number refuses the rest. Document 01, "Settings, row, state" and "Refusal numbers".
use Rattle.std.specs.Prelude.{ℕ, ◌+◌, ◌^◌, Bool, cond, not, ◌&&◌, ◌||◌, leb, ltb, eqb}
use Rattle.std.specs.Int.Bits.{bit_and}
use Rattle.std.specs.Int.Count.{ones}
use Rattle.bits.specs.Lists.{all_from}
use Rattle.bits.specs.Words.{bit_of}
use Rattle.settings.specs.declared.Effect.{Effect}
use Rattle.settings.specs.declared.Settings.{Settings}
use Rattle.settings.specs.declared.Words.{Words}
use Rattle.settings.specs.declared.Row.{Row}
use Rattle.settings.specs.declared.Known.{Known}
use Rattle.rules.specs.Limits.{between, most_causes, most_effects, most_period, most_delay, most_hold}
use Rattle.settings.specs.Refusals.{unless, or_else}

-- ## Settings: refusal number 2, then 3

-- cause count 1..16; options, bits 3 to 7 zero (as "Recordings" says of a file); scan period 1..1,000 ms
abbrev pub block_ok : (causes options period : ℕ) → Bool
block_ok causes options period = leb 1 causes && leb causes most_causes && ltb options 8 && leb 1 period && leb period most_period

abbrev pub block_number : (causes options period : ℕ) → ℕ
block_number causes options period = unless (block_ok causes options period) 2

-- an association word that is not zero and has only existing causes, and a delay 0..3,600,000 ms
abbrev pub effect_ok : (causes : ℕ) → Effect → Bool
effect_ok causes e = leb 1 e.association && ltb e.association (2 ^ causes) && leb e.delay most_delay

abbrev pub effect_number : (causes : ℕ) → Effect → ℕ
effect_number causes e = unless (effect_ok causes e) 3

-- an effect count of 1..16
abbrev pub count_ok : ℕ → Bool
count_ok count = between 1 most_effects count

abbrev pub known_of : Settings → Known
known_of st = record { causes = st.causes; count = st.count; options = st.options }

-- slot i, from 0, holds a valid effect; slots past the effect count are zero
abbrev pub slot_ok : Known → ℕ → Effect → Bool
slot_ok k i e = cond (ltb i k.count) (effect_ok k.causes e) (eqb e.association 0 && eqb e.delay 0)

abbrev pub effects_number : Settings → ℕ
effects_number st = unless (count_ok st.count && all_from (slot_ok (known_of st)) 0 st.effects) 3

unfoldable pub settings_number : Settings → ℕ
settings_number st = or_else (block_number st.causes st.options st.period) (effects_number st)

-- ## Rows: refusal numbers 4, 5, then 6

-- words 1 to 3 have only bits of existing causes, words 4 to 7, 9 and 10 only of existing effects; force permit is 0 or 1
abbrev pub words_ok : Known → Words → Bool
words_ok k w =
    ltb w.values (2 ^ k.causes)
    && ltb w.bad (2 ^ k.causes)
    && ltb w.mask (2 ^ k.causes)
    && ltb w.require_reset (2 ^ k.count)
    && ltb w.reset_permit (2 ^ k.count)
    && ltb w.start_permit (2 ^ k.count)
    && ltb w.reset (2 ^ k.count)
    && leb w.force_permit 1
    && ltb w.force_trip (2 ^ k.count)
    && ltb w.force_normal (2 ^ k.count)

abbrev pub fields_number : Known → Words → ℕ
fields_number k w = unless (words_ok k w) 4

-- no effect stands in both force words
abbrev pub apart : Words → Bool
apart w = eqb (bit_and w.force_trip w.force_normal) 0

abbrev pub apart_number : Words → ℕ
apart_number w = unless (apart w) 5

-- several forced: the two force words hold more than one bit together
abbrev pub several : Words → Bool
several w = ltb 1 (ones w.force_trip + ones w.force_normal)

-- refusal number 6: several forced without option bit 2, whether or not forces are permitted
abbrev pub several_number : Known → Words → ℕ
several_number k w = unless (bit_of k.options 2 || not (several w)) 6

unfoldable pub words_number : Known → Words → ℕ
words_number k w = or_else (fields_number k w) (or_else (apart_number w) (several_number k w))

-- a hold of 1..1,000,000 scans
abbrev pub hold_number : ℕ → ℕ
hold_number hold = unless (between 1 most_hold hold) 4

unfoldable pub row_number : Known → Row → ℕ
row_number k r = or_else (hold_number r.hold) (words_number k r.words)
