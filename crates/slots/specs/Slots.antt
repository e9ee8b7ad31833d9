-- When the slot of an effect is valid. Document 01, "Settings, row, state".
use Rattle.std.specs.Prelude.{ℕ, Bool, cond, ◌&&◌, leb, ltb, eqb, get_or}
use Rattle.std.specs.Int.Bits.{bit_and}
use Rattle.rules.specs.declared.EffectState.TheVariants.{Tripped, Normal, Delayed}
use Rattle.rules.specs.declared.Slot.{Slot}
use Rattle.rules.specs.Rules.{same}
use Rattle.settings.specs.declared.Effect.{Effect}
use Rattle.settings.specs.declared.Settings.{Settings}
use Rattle.settings.specs.Signals.{no_effect}

-- the timer is 1..delay in Delayed and 0 otherwise
abbrev pub timer_right : (delay : ℕ) → Slot → Bool
timer_right delay x = cond (same x.state Delayed) (leb 1 x.timer && leb x.timer delay) (eqb x.timer 0)

-- first-out lies inside the association word and is 0 in Normal
abbrev pub first_right : (association : ℕ) → Slot → Bool
first_right association x = cond (same x.state Normal) (eqb x.first_out 0) (eqb (bit_and x.first_out association) x.first_out)

abbrev pub slot_right : Effect → Slot → Bool
slot_right e x = timer_right e.delay x && first_right e.association x

-- an unused slot: Tripped, 0, 0
abbrev pub slot_unused : Slot → Bool
slot_unused x = same x.state Tripped && eqb x.timer 0 && eqb x.first_out 0

-- slot i, from 0, is valid; slots past the effect count are unused
abbrev pub slot_ok : Settings → ℕ → Slot → Bool
slot_ok st i x = cond (ltb i st.count) (slot_right (get_or st.effects i no_effect) x) (slot_unused x)
