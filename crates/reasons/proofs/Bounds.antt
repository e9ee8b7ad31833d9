-- The causes that a reason names are no more than those that it reads, and its milliseconds are the timer's or none.
use Prim.Native.Nat.{ℕ, ◌^◌, ◌≤◌, ◌<◌}
use mathlib.Core.Bool.{Bool, true, false, cond}
use native.Mathlib.Omega.{arith}
use lib.Bits.{and_le_r}
use lib.Dec.{ltb}
use Rattle.rules.specs.declared.EffectState.{EffectState}
use Rattle.rules.specs.declared.EffectState.TheVariants.{Tripped, WaitReset, Ready, WaitStart, Normal, Delayed}
use Rattle.rules.specs.Rules.{same}
use Rattle.reasons.specs.declared.Sight.{Sight}
use Rattle.reasons.specs.declared.Signs.{Signs}
use Rattle.reasons.specs.Given.{Narrow, signs_in}
use Rattle.reasons.specs.declared.Reason.{Reason}
use Rattle.reasons.specs.Reasons.{mask, millis, quiet_by, reason_by}

-- a reason names causes below n and at most so many milliseconds
abbrev Small : (n timer : ℕ) → Reason → Type 0
Small n timer r = (mask r < n) × (millis r ≤ timer)

either : (n timer : ℕ) (c : Bool) (r q : Reason) → Small n timer r → Small n timer q → Small n timer (cond c r q)
either n timer true r q e h = e
either n timer false r q e h = h

quiet_small : (n timer : ℕ) (p q : EffectState) → 0 < n → Small n timer (quiet_by p q)
quiet_small n timer p Tripped z = (z, omega arith)
quiet_small n timer p WaitReset z = (z, omega arith)
quiet_small n timer p Ready z = (z, omega arith)
quiet_small n timer p WaitStart z = (z, omega arith)
quiet_small n timer p Normal z = either n timer (same p Normal) _ _ (z, omega arith) (z, omega arith)
quiet_small n timer p Delayed z = (z, omega arith)

reason_small : (r : Signs) (p q : EffectState) (timer n : ℕ) → r.bad < n → r.active < n
    → (mask (reason_by r p q timer) < n) × (millis (reason_by r p q timer) ≤ timer)
reason_small r p q timer n bad active =
    let z : 0 < n = omega (arith, bad) in
    let l : 0 ≤ timer = omega arith in
    either n timer r.trip _ _ (z, l)
    (either n timer r.normal _ _ (z, l)
    (either n timer (ltb 0 r.bad) _ _ (bad, l)
    (either n timer (same p Delayed) _ _ (either n timer (same q Delayed) _ _ (z, omega arith) (z, l))
    (either n timer (ltb 0 r.active) _ _ (active, l) (quiet_small n timer p q z)))))

-- where what is seen has 16 bits, so have the causes that are named
pub narrow_reason : (sight : Sight) → Narrow sight → (association i : ℕ) (p q : EffectState) (timer : ℕ)
    → let r = reason_by (signs_in sight association i) p q timer in (mask r < 2 ^ 16) × (millis r ≤ timer)
unfolding signs_in
narrow_reason sight narrow a i p q timer =
    reason_small (signs_in sight a i) p q timer (2 ^ 16)
    (omega (arith, and_le_r a sight.seen.bad, narrow.bad))
    (omega (arith, and_le_r a sight.seen.tripped, narrow.tripped))
