-- What a reason reads of a row for an effect is what it reads of that effect's signals.
use mathlib.Core.Path.{◌≡◌}
use mathlib.Core.Bool.{Bool, true, false, cond}
use Prim.Native.Nat.{ℕ, ◌-◌, ◌^◌, ◌<◌}
use native.Mathlib.Omega.{arith}
use lib.Bits.{bit_and, and_le_r}
use lib.Dec.{lit≤}
use lib.ListN.{get_or}
use Rattle.bits.specs.Words.{bit_of}
use Rattle.bits.proofs.Words.{bit_if}
use Rattle.settings.specs.declared.Settings.{Settings}
use Rattle.settings.specs.declared.Words.{Words}
use Rattle.settings.specs.Signals.{no_effect, forces_count, signals_of}
use Rattle.reasons.specs.Given.{signs_of, sight_of, Narrow, signs_in}

pub signs_of_an_effect : (st : Settings) (w : Words) (i : ℕ)
    → signs_in (sight_of st.options w) (get_or st.effects i no_effect).association i ≡ signs_of (signals_of st w i)
unfolding sight_of signs_in signals_of
signs_of_an_effect st w i = rw (bit_if (forces_count st.options w) w.force_trip i, bit_if (forces_count st.options w) w.force_normal i)

-- what is seen of a row has 16 bits
seen_if : (b : Bool) (v m : ℕ) → cond b (bit_and v (65535 - m)) 0 < 2 ^ 16
seen_if true v m = omega (arith, and_le_r v (65535 - m))
seen_if false v m = lit≤ tt

pub sight_is_narrow : (options : ℕ) (w : Words) → Narrow (sight_of options w)
unfolding sight_of
sight_is_narrow options w =
    record { tripped = omega (arith, and_le_r (65535 - w.values) (65535 - w.mask)); bad = seen_if (bit_of options 0) w.bad w.mask }
