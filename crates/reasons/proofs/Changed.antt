-- The reason of a change is told without the timer: the timer is read only where Delayed stays.
use Prim.Native.Nat.{ℕ}
use mathlib.Core.Path.{◌≡◌, refl, ap}
use mathlib.Core.Bool.{cond, not, true, false≢true}
use lib.Dec.{ltb}
use Rattle.rules.specs.declared.EffectState.{EffectState}
use Rattle.rules.specs.declared.EffectState.TheVariants.{Tripped, WaitReset, Ready, WaitStart, Normal, Delayed}
use Rattle.rules.specs.Rules.{same}
use Rattle.reasons.specs.declared.Signs.{Signs}
use Rattle.reasons.specs.declared.Reason.{Reason}
use Rattle.reasons.specs.declared.Reason.TheVariants.{ForcedTripped, ForcedNormal, Bad}
use Rattle.reasons.specs.Reasons.{unforced_by, reason_by}

untimed : (w : ℕ) (p q : EffectState) (t : ℕ) → not (same q p) ≡ true → unforced_by w p q t ≡ unforced_by w p q 0
untimed w Tripped q t e = refl
untimed w WaitReset q t e = refl
untimed w Ready q t e = refl
untimed w WaitStart q t e = refl
untimed w Normal q t e = refl
untimed w Delayed Tripped t e = refl
untimed w Delayed WaitReset t e = refl
untimed w Delayed Ready t e = refl
untimed w Delayed WaitStart t e = refl
untimed w Delayed Normal t e = refl
untimed w Delayed Delayed t e = absurd (false≢true e)

pub change_reads_no_timer : (r : Signs) (p q : EffectState) (t : ℕ) → not (same q p) ≡ true → reason_by r p q t ≡ reason_by r p q 0
change_reads_no_timer r p q t e =
    ap (λ (v : Reason). cond r.trip ForcedTripped (cond r.normal ForcedNormal (cond (ltb 0 r.bad) (Bad r.bad) v)))
    (untimed r.active p q t e)
