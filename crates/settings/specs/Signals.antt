-- What an effect sees in a scan, of the settings and the ten words. Document 01, "The rules of one scan"; document 02, L3 (Bad trip).
use Rattle.std.specs.Prelude.{ℕ, Bool, ◌&&◌, ◌||◌, List, eqb, get_or}
use Rattle.std.specs.Int.Bits.{bit_and}
use Rattle.bits.specs.Lists.{tabulate}
use Rattle.bits.specs.Words.{bit_of}
use Rattle.rules.specs.Signals.{Signals}
use Rattle.settings.specs.declared.Effect.{Effect}
use Rattle.settings.specs.declared.Settings.{Settings}
use Rattle.settings.specs.declared.Words.{Words}
use Rattle.settings.specs.Causes.{seen_of}

-- forces count only if force permit is 1 or option bit 1 is set
abbrev pub forces_count : (options : ℕ) → Words → Bool
forces_count options w = eqb w.force_permit 1 || bit_of options 1

-- the settings of no effect
abbrev pub no_effect : Effect
no_effect = record { association = 0; delay = 0 }

-- what effect i sees, counted from 0: of the causes, those in its association word
unfoldable pub signals_of : Settings → Words → ℕ → Signals
signals_of st w i =
    record {
      active = bit_and (get_or st.effects i no_effect).association (seen_of st.options w).tripped;
      bad = bit_and (get_or st.effects i no_effect).association (seen_of st.options w).bad;
      trip = forces_count st.options w && bit_of w.force_trip i;
      normal = forces_count st.options w && bit_of w.force_normal i;
      require = bit_of w.require_reset i;
      permit = bit_of w.reset_permit i;
      start = bit_of w.start_permit i;
      reset = bit_of w.reset i;
      delay = (get_or st.effects i no_effect).delay;
      period = st.period;
    }

-- what the effects see, in their order
abbrev pub signals : Settings → Words → List Signals
signals st w = tabulate (signals_of st w) st.count
