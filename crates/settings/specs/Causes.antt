-- What the block sees of the causes in a scan. Document 01, "The rules of one scan" (active); document 02, L3 (Bad trip). No other definition
-- of what a scan does reads the values, the Bad status and the mask.
use Rattle.std.specs.Prelude.{ℕ, ◌-◌, cond}
use Rattle.std.specs.Int.Bits.{bit_and}
use Rattle.bits.specs.Words.{bit_of}
use Rattle.rules.specs.declared.Seen.{Seen}
use Rattle.settings.specs.declared.Words.{Words}

-- the causes of a word, less the masked causes
abbrev pub unmasked : (mask causes : ℕ) → ℕ
unmasked mask causes = bit_and causes (65535 - mask)

-- tripped: the causes whose value is not 1, less the masked causes. Bad: with option bit 0 the causes with Bad status, less the masked
-- causes, and without it none. Bits of absent causes are in no association word
abbrev pub seen_of : (options : ℕ) → Words → Seen
seen_of options w =
    record {
      tripped = unmasked w.mask (65535 - w.values);
      bad = cond (bit_of options 0) (unmasked w.mask w.bad) 0;
    }
