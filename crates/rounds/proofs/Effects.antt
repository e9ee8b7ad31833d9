-- All effects: what holds of one effect holds of the lists, by recursion on both signals and slots.
use mathlib.Core.Path.{◌≡◌, refl, ap, ap₂, sym, subst}
use mathlib.Core.Bool.{Bool, true, false, cond, ◌||◌}
use mathlib.Core.List.{List, [], ◌∷◌, ◌++◌, map}
use mathlib.Core.Logic.{⊎_elim}
use Prim.Native.Nat.{ℕ, zero, suc, ◌+◌, ◌*◌, ◌≤◌, ◌<◌}
use native.Mathlib.Nat.{eq-or-lt_of_le, le_trans, lt_of_lt_of_le}
use native.Mathlib.Omega.{arith}
use lib.ListN.{length}
use Rattle.bits.specs.Lists.{tabulate}
use Rattle.bits.specs.Words.{one}
use Rattle.bits.proofs.Lists.{or-none}
use Rattle.rules.specs.Limits.{most_period}
use Rattle.rules.specs.declared.Slot.{Slot}
use Rattle.rules.specs.Signals.{Signals}
use Rattle.rules.specs.Rules.{asks, moved}
use Rattle.effects.specs.Scan.{steps, any_moved, wrapped, seq_after, events_from, event}
use Rattle.effects.proofs.Records.{length-only}
use Rattle.rounds.specs.Steps.{clear}
use Rattle.rounds.specs.Stroke.{quiet, advance, quiets, advances}
use Rattle.rounds.proofs.Effect as each

-- every period is 1 to 1,000
abbrev pub Timed : List Signals → Type 0
Timed [] = Unit {0}
Timed (s ∷ ss) = (0 < s.period) × (s.period ≤ most_period) × Timed ss

timed_append : (ss ts : List Signals) → Timed ss → Timed ts → Timed (ss ++ ts)
timed_append [] ts h k = k
timed_append (s ∷ ss) ts h k = (h.0, h.1, timed_append ss ts h.2 k)

pub timed_tabulate : (f : ℕ → Signals) (n : ℕ) → ((i : ℕ) → (0 < (f i).period) × ((f i).period ≤ most_period)) → Timed (tabulate f n)
unfolding tabulate
timed_tabulate f zero h = tt
timed_tabulate f (suc n) h = timed_append (tabulate f n) (f n ∷ []) (timed_tabulate f n h) ((h n).0, (h n).1, tt)

-- ## The resets cleared

-- clearing the resets again changes nothing
pub clear_clear : (ss : List Signals) → map clear (map clear ss) ≡ map clear ss
clear_clear [] = refl
clear_clear (s ∷ ss) = ap (◌∷◌ (clear s)) (clear_clear ss)

-- clearing the resets keeps the periods
pub timed_clear : (ss : List Signals) → Timed ss → Timed (map clear ss)
timed_clear [] h = tt
timed_clear (s ∷ ss) h = (h.0, h.1, timed_clear ss h.2)

-- ## The slots that a scan has left

-- the slot of every effect is settled
abbrev pub Settled : List Signals → List Slot → Type 0
Settled [] xs = Unit {0}
Settled (s ∷ ss) [] = Unit {0}
Settled (s ∷ ss) (x ∷ xs) = each.Settled x × Settled ss xs

-- after any scan, from any slots, the slot of every effect is settled
pub settled_steps : (ss : List Signals) (xs : List Slot) → Settled ss (steps ss xs)
settled_steps [] xs = tt
settled_steps (s ∷ ss) [] = tt
settled_steps (s ∷ ss) (x ∷ xs) = (each.settled_next s x, settled_steps ss xs)

-- whether slots are settled does not depend on the signals
pub settled_clear : (ss : List Signals) (xs : List Slot) → Settled ss xs → Settled (map clear ss) xs
settled_clear [] xs g = tt
settled_clear (s ∷ ss) [] g = tt
settled_clear (s ∷ ss) (x ∷ xs) g = (g.0, settled_clear ss xs g.1)

-- ## Scans that are not live

-- `quiets` is at most its cap
pub quiets_le : (n : ℕ) (ss : List Signals) (xs : List Slot) → quiets n ss xs ≤ n
quiets_le n [] xs = omega arith
quiets_le n (s ∷ ss) [] = omega arith
quiets_le n (s ∷ ss) (x ∷ xs) = le_trans (quiets_le (quiet n s x) ss xs) (each.within n s x)

-- a skip of no scans changes nothing
pub advances_none : (ss : List Signals) (xs : List Slot) → advances 0 ss xs ≡ xs
advances_none [] xs = refl
advances_none (s ∷ ss) [] = refl
advances_none (s ∷ ss) (x ∷ xs) = ap₂ ◌∷◌ (each.none s x) (advances_none ss xs)

-- below those that `quiets` counts, a scan advances the slots once more
pub steps_more : (n k : ℕ) (ss : List Signals) (xs : List Slot) → Timed ss → Settled ss xs → k < quiets n ss xs
    → steps ss (advances k ss xs) ≡ advances (suc k) ss xs
steps_more n k [] xs h g w = refl
steps_more n k (s ∷ ss) [] h g w = refl
steps_more n k (s ∷ ss) (x ∷ xs) h g w =
    ap₂ ◌∷◌
    (each.more n k s x h.0 g.0 (lt_of_lt_of_le w (quiets_le (quiet n s x) ss xs)))
    (steps_more (quiet n s x) k ss xs h.2 g.1 w)

-- below those that `quiets` counts, a scan is not live
pub still : (n k : ℕ) (ss : List Signals) (xs : List Slot) → Timed ss → k < quiets n ss xs → any_moved ss (advances k ss xs) ≡ false
still n k [] xs h w = refl
still n k (s ∷ ss) [] h w = refl
still n k (s ∷ ss) (x ∷ xs) h w =
    ap₂ ◌||◌
    (each.unmoved n k s x h.0 (lt_of_lt_of_le w (quiets_le (quiet n s x) ss xs)))
    (still (quiet n s x) k ss xs h.2 w)

-- a scan that is not live gives no event
pub no_events : (q c i : ℕ) (ss : List Signals) (xs : List Slot) → any_moved ss xs ≡ false → events_from q c i ss xs ≡ []
no_events q c i [] xs e = refl
no_events q c i (s ∷ ss) [] e = refl
no_events q c i (s ∷ ss) (x ∷ xs) e =
    let h = or-none (moved s x) (any_moved ss xs) e in
    rw h.0 (no_events q c (suc i) ss xs h.1)

-- a scan that is not live takes no sequence number
pub same_seq : (q : ℕ) (ss : List Signals) (xs : List Slot) → any_moved ss xs ≡ false → seq_after q ss xs ≡ q
same_seq q [] xs e = refl
same_seq q (s ∷ ss) [] e = refl
same_seq q (s ∷ ss) (x ∷ xs) e =
    let h = or-none (moved s x) (any_moved ss xs) e in
    rw h.0 (same_seq q ss xs h.1)

-- a disjunction holds if its second test does
or_right : (a b : Bool) → b ≡ true → (a || b) ≡ true
or_right true b e = refl
or_right false b e = e

-- the scan after those that `quiets` counts is live
pub wakes : (n : ℕ) (ss : List Signals) (xs : List Slot) → Timed ss → quiets n ss xs < n
    → any_moved ss (advances (quiets n ss xs) ss xs) ≡ true
wakes n [] xs h w = absurd (omega arith)
wakes n (s ∷ ss) [] h w = absurd (omega arith)
wakes n (s ∷ ss) (x ∷ xs) h w =
    let k = quiets (quiet n s x) ss xs in
    ⊎_elim
    (λ (e : k ≡ quiet n s x). ap (λ (b : Bool). b || any_moved ss (advances k ss xs))
    (subst (λ (j : ℕ). moved s (advance j s x) ≡ true) (sym e) (each.wakes n s x h.0 (omega arith))))
    (λ (v : k < quiet n s x). or_right (moved s (advance k s x)) (any_moved ss (advances k ss xs)) (wakes (quiet n s x) ss xs h.2 v))
    (eq-or-lt_of_le (quiets_le (quiet n s x) ss xs))

-- ## The moves left

-- how many moves are left to all effects, in scans without reset
pub ranks : List Signals → List Slot → ℕ
ranks [] xs = 0
ranks (s ∷ ss) [] = 0
ranks (s ∷ ss) (x ∷ xs) = each.rank (asks s) x.state + ranks ss xs

-- the reset does not matter to the count of moves left
pub ranks_clear : (ss : List Signals) (xs : List Slot) → ranks (map clear ss) xs ≡ ranks ss xs
unfolding ranks
ranks_clear [] xs = refl
ranks_clear (s ∷ ss) [] = refl
ranks_clear (s ∷ ss) (x ∷ xs) = ap₂ ◌+◌ (each.rank_clear s x.state) (ranks_clear ss xs)

-- the timers do not matter to the count of moves left
pub ranks_advances : (k : ℕ) (ss cs : List Signals) (xs : List Slot) → ranks ss (advances k cs xs) ≡ ranks ss xs
unfolding ranks
ranks_advances k [] cs xs = refl
ranks_advances k (s ∷ ss) [] xs = refl
ranks_advances k (s ∷ ss) (c ∷ cs) [] = refl
ranks_advances k (s ∷ ss) (c ∷ cs) (x ∷ xs) = ap (λ (m : ℕ). each.rank (asks s) x.state + m) (ranks_advances k ss cs xs)

-- each event of a scan without reset takes one of the moves left
pub events_fall : (q c i : ℕ) (ss : List Signals) (xs : List Slot)
    → length (events_from q c i (map clear ss) xs) + ranks ss (steps (map clear ss) xs) ≤ ranks ss xs
unfolding ranks
events_fall q c i [] xs = omega arith
events_fall q c i (s ∷ ss) [] = omega arith
events_fall q c i (s ∷ ss) (x ∷ xs) =
    let m = moved (clear s) x in
    let r = cond m (wrapped q) q in
    omega (arith, length-only m (event q c i (clear s) x) (events_from r c (suc i) (map clear ss) xs), each.falls s x, events_fall r c (suc i) ss xs)

-- the events of the first scan and the moves left after it are at most two an effect
pub events_two : (q c i : ℕ) (ss : List Signals) (xs : List Slot) → length (events_from q c i ss xs) + ranks ss (steps ss xs) ≤ 2 * length ss
unfolding ranks
events_two q c i [] xs = omega arith
events_two q c i (s ∷ ss) [] = omega arith
events_two q c i (s ∷ ss) (x ∷ xs) =
    let r = cond (moved s x) (wrapped q) q in
    omega (arith, length-only (moved s x) (event q c i s x) (events_from r c (suc i) ss xs), each.two s x, events_two r c (suc i) ss xs)

-- a disjunction counts at most as much as its two tests
one_or : (a b : Bool) → one (a || b) ≤ one a + one b
one_or true b = omega arith
one_or false b = omega arith

-- a live scan gives an event
pub live_recorded : (q c i : ℕ) (ss : List Signals) (xs : List Slot) → one (any_moved ss xs) ≤ length (events_from q c i ss xs)
live_recorded q c i [] xs = omega arith
live_recorded q c i (s ∷ ss) [] = omega arith
live_recorded q c i (s ∷ ss) (x ∷ xs) =
    let r = cond (moved s x) (wrapped q) q in
    omega (arith, one_or (moved s x) (any_moved ss xs), length-only (moved s x) (event q c i s x) (events_from r c (suc i) ss xs), live_recorded r c (suc i) ss xs)
