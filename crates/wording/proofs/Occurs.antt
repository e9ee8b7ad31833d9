-- Each case of a reason occurs, and its words: a row a case. Computed.
use Prim.Native.Nat.{ℕ}
use mathlib.Core.Path.{◌≡◌, refl}
use mathlib.Core.Bool.{Bool, true, false}
use mathlib.Core.List.{List}
use Rattle.bits.specs.Decimal.{ascii, decimal, at_most}
use Rattle.rules.specs.declared.EffectState.{EffectState}
use Rattle.rules.specs.declared.EffectState.TheVariants.{Tripped, Ready, WaitStart, Normal, Delayed}
use Rattle.rules.specs.declared.Slot.{Slot}
use Rattle.rules.specs.Signals.{Signals}
use Rattle.reasons.specs.Reasons.{reason_of}
use Rattle.wording.specs.Text.{waiting, words_of}

-- what an effect with a delay of 500 and a period of 100 sees, where the forces, permits and reset are given
abbrev sees : (trip normal : Bool) → (bad active : ℕ) → (require permit start reset : Bool) → Signals
sees t n b a q p s r =
    record { active = a; bad = b; trip = t; normal = n; require = q; permit = p; start = s; reset = r; delay = 500; period = 100 }

-- an effect in a state, its timer at 250
abbrev stands : EffectState → Slot
stands p = record { state = p; timer = 250; first_out = 0 }

-- the words of the reason of a scan
abbrev says : Signals → EffectState → List ℕ
says s p = words_of (reason_of s (stands p))

pub words_of_each_case :
    (says (sees true false 1 1 true true true true) Normal ≡ ascii "forced tripped")
    × (says (sees false true 1 1 true true true true) Delayed ≡ ascii "forced normal")
    × (says (sees false false 3 1 true true true true) Delayed ≡ ascii "Bad 3")
    × (says (sees false false 0 3 true true true true) Normal ≡ ascii "active 3")
    × (says (sees false false 0 3 true true true true) Delayed ≡ ascii "delay running 150")
    × (says (sees false false 0 3 false true true true) WaitStart ≡ ascii "active 3")
    × (says (sees false false 0 0 true false true true) Ready ≡ ascii "waiting reset permit")
    × (says (sees false false 0 0 true true true false) Tripped ≡ ascii "waiting reset")
    × (says (sees false false 0 0 true true false true) Ready ≡ ascii "waiting start permit")
    × (says (sees false false 0 0 true true true true) Ready ≡ ascii "cleared")
    × (says (sees false false 0 0 true true true true) Normal ≡ ascii "at rest")
unfolding words_of waiting decimal at_most
words_of_each_case = (refl, refl, refl, refl, refl, refl, refl, refl, refl, refl, refl)

-- a timer at the period ends the delay
pub words_of_a_delay_ended :
    words_of (reason_of (sees false false 0 3 true true true true) (record { state = Delayed; timer = 100; first_out = 3 })) ≡ ascii "delay ended"
unfolding words_of
words_of_a_delay_ended = refl
