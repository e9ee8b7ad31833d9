-- A test that holds at every answer to what the rules ask, and at every state, holds of any: it is computed at all of them.
use mathlib.Core.Path.{◌≡◌}
use mathlib.Core.Bool.{Bool, true, false, ◌&&◌}
use Rattle.bits.proofs.Lists.{and_left, and_right}
use Rattle.rules.specs.declared.EffectState.{EffectState}
use Rattle.rules.specs.declared.EffectState.TheVariants.{Tripped, WaitReset, Ready, WaitStart, Normal, Delayed}
use Rattle.rules.specs.Signals.{Asks}

-- the test holds of both bools
unfoldable pub both : (Bool → Bool) → Bool
both f = f true && f false

-- the test holds of all states
unfoldable pub all_states : (EffectState → Bool) → Bool
all_states f = f Tripped && (f WaitReset && (f Ready && (f WaitStart && (f Normal && f Delayed))))

-- the test holds of all answers, of a timer due or not, and of all states
unfoldable pub every : (Asks → Bool → EffectState → Bool) → Bool
every f =
    both λ trip. both λ normal. both λ bad. both λ active. both λ require. both λ permit. both λ start. both λ reset. both λ delayed. both λ due.
    all_states λ p. f (record { trip = trip; normal = normal; bad = bad; active = active; require = require; permit = permit; start = start; reset = reset; delayed = delayed }) due p

-- a test that holds of both bools holds of any
both_at : (f : Bool → Bool) → both f ≡ true → (b : Bool) → f b ≡ true
unfolding both
both_at f e true = and_left (f true) (f false) e
both_at f e false = and_right (f true) (f false) e

-- a test that holds of all states holds of any
pub states-at : (f : EffectState → Bool) → all_states f ≡ true → (p : EffectState) → f p ≡ true
unfolding all_states
states-at f e Tripped = and_left (f Tripped) _ e
states-at f e WaitReset = and_left (f WaitReset) _ (and_right (f Tripped) _ e)
states-at f e Ready = and_left (f Ready) _ (and_right (f WaitReset) _ (and_right (f Tripped) _ e))
states-at f e WaitStart = and_left (f WaitStart) _ (and_right (f Ready) _ (and_right (f WaitReset) _ (and_right (f Tripped) _ e)))
states-at f e Normal = and_left (f Normal) _ (and_right (f WaitStart) _ (and_right (f Ready) _ (and_right (f WaitReset) _ (and_right (f Tripped) _ e))))
states-at f e Delayed = and_right (f Normal) _ (and_right (f WaitStart) _ (and_right (f Ready) _ (and_right (f WaitReset) _ (and_right (f Tripped) _ e))))

-- a test that holds of all answers and states holds of any
pub every-at : (f : Asks → Bool → EffectState → Bool) → every f ≡ true → (a : Asks) (due : Bool) (p : EffectState) → f a due p ≡ true
unfolding every
every-at f e a due p =
    let e₁ = both_at _ e a.trip in
    let e₂ = both_at _ e₁ a.normal in
    let e₃ = both_at _ e₂ a.bad in
    let e₄ = both_at _ e₃ a.active in
    let e₅ = both_at _ e₄ a.require in
    let e₆ = both_at _ e₅ a.permit in
    let e₇ = both_at _ e₆ a.start in
    let e₈ = both_at _ e₇ a.reset in
    let e₉ = both_at _ e₈ a.delayed in
    states-at _ (both_at _ e₉ due) p
