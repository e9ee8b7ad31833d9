-- One effect: the scans that `quiet` counts leave its state as it is, the scan after them moves it, and it moves at most
-- twice in a held run. What depends on the rules alone is computed at every answer to what they ask, so a changed rule
-- changes no proof; the timer is arithmetic beside it.
use mathlib.Core.Path.{◌≡◌, refl, ap, sym, ◌∙◌, subst}
use mathlib.Core.Bool.{Bool, true, false, cond, not}
use Prim.Native.Nat.{ℕ, zero, suc, ◌+◌, ◌-◌, ◌*◌, ◌/◌, min, ◌≤◌, ◌<◌}
use native.Mathlib.Omega.{arith}
use native.Mathlib.Nat.{le-div_iff_mul-le, div-lt_iff_lt-mul}
use lib.Dec.{leb}
use borrow.Author.Tests.{leb-true, lt-leb, le-leb}
use Rattle.bits.specs.Words.{one}
use Rattle.rules.specs.declared.EffectState.{EffectState}
use Rattle.rules.specs.declared.EffectState.TheVariants.{Tripped, WaitReset, Ready, WaitStart, Normal, Delayed}
use Rattle.rules.specs.declared.Slot.{Slot}
use Rattle.rules.specs.Signals.{Signals, Asks}
use Rattle.rules.specs.Rules.{same, rule, asks, after, enter, next, moved}
use Rattle.rounds.specs.Steps.{clear, moves}
use Rattle.rounds.specs.Stroke.{quiet, advance}
use Rattle.rules.proofs.Answers.{both, all_states, every, every-at}
use Rattle.rules.proofs.States.{same_eq, same_refl}

-- ## A slot that a step has left

-- the timer is 0 except in Delayed, and the first-out is 0 in Normal
abbrev pub Settled : Slot → Type 0
Settled x = (cond (same x.state Delayed) 0 x.timer ≡ 0) × (cond (same x.state Normal) x.first_out 0 ≡ 0)

-- a slot is settled whatever state it enters
settled_enter : (s : Signals) (x : Slot) (q : EffectState) → Settled (enter s x q)
settled_enter s x Tripped = (refl, refl)
settled_enter s x WaitReset = (refl, refl)
settled_enter s x Ready = (refl, refl)
settled_enter s x WaitStart = (refl, refl)
settled_enter s x Normal = (refl, refl)
settled_enter s x Delayed = (refl, refl)

-- a slot is settled after any scan
pub settled_next : (s : Signals) (x : Slot) → Settled (next s x)
settled_next s x = settled_enter s x (after s x)

-- a slot by its parts
abbrev slot : EffectState → ℕ → ℕ → Slot
slot p t f = record { state = p; timer = t; first_out = f }

-- slots of equal parts are equal
slot_path : (p : EffectState) {t t' f f' : ℕ} → t ≡ t' → f ≡ f' → slot p t f ≡ slot p t' f'
slot_path p e h = λ i. slot p (e i) (h i)

-- where the state stays, a scan advances the slot once more
rests : (k : ℕ) (s : Signals) (p : EffectState) (t f : ℕ) → Settled (slot p t f) → enter s (advance k s (slot p t f)) p ≡ advance (suc k) s (slot p t f)
rests k s Tripped t f h = slot_path Tripped (omega arith) refl
rests k s WaitReset t f h = slot_path WaitReset (omega arith) refl
rests k s Ready t f h = slot_path Ready (omega arith) refl
rests k s WaitStart t f h = slot_path WaitStart (omega arith) refl
rests k s Normal t f h = slot_path Normal (omega arith) (omega arith)
rests k s Delayed t f h = slot_path Delayed (omega arith) refl

-- k is below `cond (not b) 0 m` only where b holds and k is below m
lt_cond : (b : Bool) (m k : ℕ) → k < cond (not b) 0 m → (b ≡ true) × (k < m)
lt_cond true m k h = (refl, h)
lt_cond false m k h = absurd (omega arith)

-- scans below those that `quiet` counts leave the timer above the period
runs_on : (n k t p : ℕ) → 0 < p → k < min n ((t - 1) / p) → p < t - k * p
runs_on n k t p h w =
    let v : suc k * p ≤ t - 1 = (le-div_iff_mul-le h).0 (omega arith) in
    omega (arith, v)

-- scans below those that `quiet` counts leave the state as it is: the rules read nothing of the timer but whether it is due
stays : (n k : ℕ) (s : Signals) (p : EffectState) (t f : ℕ) → 0 < s.period → k < quiet n s (slot p t f) → after s (advance k s (slot p t f)) ≡ p
stays n k s Tripped t f h w = same_eq _ Tripped (lt_cond _ n k w).0
stays n k s WaitReset t f h w = same_eq _ WaitReset (lt_cond _ n k w).0
stays n k s Ready t f h w = same_eq _ Ready (lt_cond _ n k w).0
stays n k s WaitStart t f h w = same_eq _ WaitStart (lt_cond _ n k w).0
stays n k s Normal t f h w = same_eq _ Normal (lt_cond _ n k w).0
stays n k s Delayed t f h w =
    let u = lt_cond (same (after s (slot Delayed t f)) Delayed) (min n ((t - 1) / s.period)) k w in
    let v = runs_on n k t s.period h u.1 in
    ap (λ (d : Bool). rule (asks s) d Delayed) (lt-leb (t - k * s.period) s.period v ∙ sym (lt-leb t s.period (omega arith)))
    ∙ same_eq _ Delayed u.0

-- the law of a skip: one scan more is a longer skip
pub more : (n k : ℕ) (s : Signals) (x : Slot) → 0 < s.period → Settled x → k < quiet n s x → next s (advance k s x) ≡ advance (suc k) s x
more n k s x h g w =
    ap (enter s (advance k s x)) (stays n k s x.state x.timer x.first_out h w) ∙ rests k s x.state x.timer x.first_out g

-- a scan below those that `quiet` counts is not live
pub unmoved : (n k : ℕ) (s : Signals) (x : Slot) → 0 < s.period → k < quiet n s x → moved s (advance k s x) ≡ false
unmoved n k s x h w = rw (stays n k s x.state x.timer x.first_out h w) (ap not (same_refl x.state))

-- a skip of no scans changes nothing
pub none : (s : Signals) (x : Slot) → advance 0 s x ≡ x
none s x = slot_path x.state (omega arith) refl

-- each case of `quiet` is at most n
quiet_cond : (b d : Bool) (n m : ℕ) → cond b 0 (cond d (min n m) n) ≤ n
quiet_cond true d n m = omega arith
quiet_cond false true n m = omega arith
quiet_cond false false n m = omega arith

-- `quiet` is at most its cap
pub within : (n : ℕ) (s : Signals) (x : Slot) → quiet n s x ≤ n
within n s x = quiet_cond (moved s x) (same x.state Delayed) n ((x.timer - 1) / s.period)

-- ## The scan after those that `quiet` counts moves the effect

-- a timer that is due moves a Delayed effect, whatever else is asked
due_test : Asks → Bool → EffectState → Bool
due_test a d p = not (same (rule a true Delayed) Delayed)

due_all : every due_test ≡ true
unfolding both all_states every due_test
due_all = refl

-- an effect in Delayed whose timer is due moves, for any answers
due_moves : (a : Asks) → not (same (rule a true Delayed) Delayed) ≡ true
unfolding due_test
due_moves a = every-at due_test due_all a true Delayed

-- where no timer runs, `quiet` is below n only if the effect moves at once
cond_lt : (b : Bool) (n : ℕ) → cond b 0 n < n → b ≡ true
cond_lt true n h = refl
cond_lt false n h = absurd (omega arith)

-- after the scans that `quiet` counts the timer is due
runs-out : (n t p : ℕ) → 0 < p → min n ((t - 1) / p) < n → t - min n ((t - 1) / p) * p ≤ p
runs-out n t p h w =
    let e : min n ((t - 1) / p) ≡ (t - 1) / p = omega arith in
    let u : t - 1 < suc ((t - 1) / p) * p = (div-lt_iff_lt-mul h).0 (omega arith) in
    rw e (omega arith)

-- state by state: the effect moves at once, or when its timer is due
wakes_at : (n : ℕ) (s : Signals) (p : EffectState) (t f : ℕ) → 0 < s.period → quiet n s (slot p t f) < n
    → moved s (advance (quiet n s (slot p t f)) s (slot p t f)) ≡ true
wakes_at n s Tripped t f h w = cond_lt _ n w
wakes_at n s WaitReset t f h w = cond_lt _ n w
wakes_at n s Ready t f h w = cond_lt _ n w
wakes_at n s WaitStart t f h w = cond_lt _ n w
wakes_at n s Normal t f h w = cond_lt _ n w
wakes_at n s Delayed t f h w = go (moved s x) refl
  where
    x : Slot
    x = slot Delayed t f

    m : ℕ
    m = min n ((t - 1) / s.period)

    go : (b : Bool) → moved s x ≡ b → moved s (advance (quiet n s x) s x) ≡ true
    go true e = subst (λ (j : ℕ). moved s (advance j s x) ≡ true) (sym (ap (λ (b : Bool). cond b 0 m) e)) (ap (moved s) (none s x) ∙ e)
    go false e =
        let q : quiet n s x ≡ m = ap (λ (b : Bool). cond b 0 m) e in
        let v : t - m * s.period ≤ s.period = runs-out n t s.period h (omega arith) in
        subst (λ (j : ℕ). moved s (advance j s x) ≡ true) (sym q)
        (ap (λ (d : Bool). not (same (rule (asks s) d Delayed) Delayed)) (le-leb (t - m * s.period) s.period v) ∙ due_moves (asks s))

-- the law of the scan after a skip: it moves the effect
pub wakes : (n : ℕ) (s : Signals) (x : Slot) → 0 < s.period → quiet n s x < n → moved s (advance (quiet n s x) s x) ≡ true
wakes n s x h w = wakes_at n s x.state x.timer x.first_out h w

-- ## Each effect moves at most twice

-- what is asked, without the reset
abbrev unreset : Asks → Asks
unreset a =
    record {
      trip = a.trip;
      normal = a.normal;
      bad = a.bad;
      active = a.active;
      require = a.require;
      permit = a.permit;
      start = a.start;
      reset = false;
      delayed = a.delayed;
    }

-- the state that follows p in scans without reset, at once or when its timer has run out
abbrev goes : Asks → EffectState → EffectState
goes a p = rule (unreset a) true p

-- how many moves are left to the effect, in scans without reset
pub rank : Asks → EffectState → ℕ
rank a p = one (not (same (goes a p) p)) + one (not (same (goes a (goes a p)) (goes a p)))

-- a move and the moves left after it are at most two
two-test : Asks → Bool → EffectState → Bool
two-test a d p = leb (one (not (same (rule a d p) p)) + rank a (rule a d p)) 2

two_all : every two-test ≡ true
unfolding both all_states every two-test rank
two_all = refl

-- without reset, a move and the moves left after it are at most the moves left before it
falls_test : Asks → Bool → EffectState → Bool
falls_test a d p = leb (one (not (same (rule (unreset a) d p) p)) + rank a (rule (unreset a) d p)) (rank a p)

falls_all : every falls_test ≡ true
unfolding both all_states every falls_test rank
falls_all = refl

-- in the first scan, with the reset as given, the move and the moves left after it are at most two
pub two : (s : Signals) (x : Slot) → one (moved s x) + rank (asks s) (after s x) ≤ 2
unfolding two-test
two s x = leb-true _ _ (every-at two-test two_all (asks s) (leb x.timer s.period) x.state)

-- in the scans after the first, each move takes one of the moves left
pub falls : (s : Signals) (x : Slot) → one (moved (clear s) x) + rank (asks s) (after (clear s) x) ≤ rank (asks s) x.state
unfolding falls_test
falls s x = leb-true _ _ (every-at falls_test falls_all (asks s) (leb x.timer s.period) x.state)

-- the reset does not matter to the count of moves left
pub rank_clear : (s : Signals) (p : EffectState) → rank (asks (clear s)) p ≡ rank (asks s) p
unfolding rank
rank_clear s p = refl

-- the moves in scans without reset are at most the moves left
moves_left : (s : Signals) (n : ℕ) (x : Slot) → moves (clear s) n x ≤ rank (asks s) x.state
moves_left s zero x = omega arith
moves_left s (suc n) x = omega (arith, falls s x, moves_left s n (next (clear s) x))

-- whatever the signals, the effect's state changes in at most two of the scans of a held run
pub moves_at_most_two : (s : Signals) (n : ℕ) (x : Slot) → moves s n x ≤ 2
moves_at_most_two s zero x = omega arith
moves_at_most_two s (suc n) x = omega (arith, two s x, moves_left s n (next s x))
