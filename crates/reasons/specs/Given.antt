-- What a reason reads of a row: the forces that count, and the causes that are seen. Document 02, L4 (rules 1 to 3, and active); document
-- 01, "The rules of one scan".
use Rattle.std.specs.Prelude.{ℕ, ◌^◌, ◌<◌, cond}
use Rattle.std.specs.Int.Bits.{bit_and}
use Rattle.bits.specs.Words.{bit_of}
use Rattle.rules.specs.Signals.{Signals}
use Rattle.settings.specs.declared.Words.{Words}
use Rattle.settings.specs.Causes.{seen_of}
use Rattle.settings.specs.Signals.{forces_count}
use Rattle.reasons.specs.declared.Sight.{Sight}
use Rattle.reasons.specs.declared.Signs.{Signs}

-- of what an effect sees
abbrev pub signs_of : Signals → Signs
signs_of s = record { trip = s.trip; normal = s.normal; bad = s.bad; active = s.active }

-- ## For all effects at once

-- of the ten words, with these options
unfoldable pub sight_of : (options : ℕ) → Words → Sight
sight_of options w =
    record {
      trip = cond (forces_count options w) w.force_trip 0;
      normal = cond (forces_count options w) w.force_normal 0;
      seen = seen_of options w;
    }

-- what is seen of the causes has 16 bits
pub record Narrow (sight : Sight) : Type 0 where
  pub tripped : sight.seen.tripped < 2 ^ 16
  pub bad : sight.seen.bad < 2 ^ 16

-- for the effect in slot i, from 0, with this association word
unfoldable pub signs_in : Sight → (association i : ℕ) → Signs
signs_in sight association i =
    record {
      trip = bit_of sight.trip i;
      normal = bit_of sight.normal i;
      bad = bit_and association sight.seen.bad;
      active = bit_and association sight.seen.tripped;
    }
