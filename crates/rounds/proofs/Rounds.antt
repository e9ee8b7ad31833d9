-- Rounds give what single steps give, if the fuel is the rank or more: a skip is as many steps as `quiet` counts, and the
-- step after it lowers the rank, so the fuel suffices. Nothing here knows of effects.
use mathlib.Core.Path.{◌≡◌, refl, ap, sym, ◌∙◌}
use Prim.Native.Nat.{ℕ, zero, suc, ◌+◌, ◌-◌, ◌≤◌, ◌<◌}
use native.Mathlib.Nat.{zero-add, suc-add, add-sub_of_le}
use native.Mathlib.Omega.{arith}

module _ {X : Type 0} (step : X → X) where
  -- n single steps
  abbrev pub iterate : ℕ → X → X
  iterate zero x = x
  iterate (suc n) x = iterate n (step x)

  module _ (skip : ℕ → X → X) (quiet : ℕ → X → ℕ) where
    -- n steps in rounds: one step, and then a skip of the steps that `quiet` counts, at most those left
    abbrev pub rounds : ℕ → ℕ → X → X
    rounds zero n x = x
    rounds (suc f) zero x = x
    rounds (suc f) (suc n) x = let y = step x in let k = quiet n y in rounds f (n - k) (skip k y)

module _ {X : Type 0} (step : X → X) where
  -- a number of steps with the last step taken apart
  iterate_suc : (n : ℕ) (x : X) → iterate step (suc n) x ≡ step (iterate step n x)
  iterate_suc zero x = refl
  iterate_suc (suc n) x = iterate_suc n (step x)

  -- k + n steps are k steps, and then n steps
  iterate-add : (k n : ℕ) (x : X) → iterate step (k + n) x ≡ iterate step n (iterate step k x)
  iterate-add zero n x = rw zero-add
  iterate-add (suc k) n x = rw suc-add (iterate-add k n (step x))

-- what a skip has to satisfy: zero steps change nothing; below those that `quiet` counts, one step more is a longer skip; `quiet`
-- is at most its cap; `Good` holds after every step; `rank` falls at the step after a skip that left steps over
pub record Skips {X : Type 0} (step : X → X) (skip : ℕ → X → X) (quiet : ℕ → X → ℕ) (rank : X → ℕ) (Good : X → Type 0) : Type 0 where
  pub none : (x : X) → skip 0 x ≡ x
  pub more : (n k : ℕ) (x : X) → Good x → k < quiet n x → step (skip k x) ≡ skip (suc k) x
  pub within : (n : ℕ) (x : X) → quiet n x ≤ n
  pub good : (x : X) → Good (step x)
  pub falls : (n : ℕ) (x : X) → Good x → quiet n x < n → rank (step (skip (quiet n x) x)) < rank x

module _ {X : Type 0} {step : X → X} {skip : ℕ → X → X} {quiet : ℕ → X → ℕ} {rank : X → ℕ} {Good : X → Type 0} (L : Skips step skip quiet rank Good) where
  -- as many steps as `quiet` counts are a skip
  skipped : (n k : ℕ) (x : X) → Good x → k ≤ quiet n x → iterate step k x ≡ skip k x
  skipped n zero x g h = sym (L.none x)
  skipped n (suc k) x g h = iterate_suc step k x ∙ ap step (skipped n k x g (omega arith)) ∙ L.more n k x g h

  -- a skip and the steps after it are the steps
  pub joined : (n m : ℕ) (y : X) → Good y → quiet n y + m ≡ n → iterate step m (skip (quiet n y) y) ≡ iterate step n y
  joined n m y g e =
      ap (iterate step m) (sym (skipped n (quiet n y) y g (omega arith))) ∙ sym (iterate-add step (quiet n y) m y) ∙ ap (λ (j : ℕ). iterate step j y) e

  -- from a good state, a skip and then rounds give the single steps
  settles : (f n m : ℕ) (y : X) → Good y → rank y ≤ f → quiet n y + m ≡ n → rounds step skip quiet f m (skip (quiet n y) y) ≡ iterate step n y
  settles zero n zero y g h e = joined n 0 y g e
  settles zero n (suc m) y g h e = let w = L.falls n y g (omega arith) in absurd (omega arith)
  settles (suc f) n zero y g h e = joined n 0 y g e
  settles (suc f) n (suc m) y g h e =
      let z = skip (quiet n y) y in
      let w = L.falls n y g (omega arith) in
      settles f m (m - quiet m (step z)) (step z) (L.good z) (omega arith) (add-sub_of_le (L.within m (step z))) ∙ joined n (suc m) y g e

  -- from a good state, a skip and then rounds give the single steps, where the steps left are computed
  pub rounds_are_steps : (f n : ℕ) (y : X) → Good y → rank y ≤ f → rounds step skip quiet f (n - quiet n y) (skip (quiet n y) y) ≡ iterate step n y
  rounds_are_steps f n y g h = settles f n (n - quiet n y) y g h (add-sub_of_le (L.within n y))
