-- Laws of entries read one after the other, and of an array that is filled from its start.
use mathlib.Core.Path.{◌≡◌, refl, ap}
use mathlib.Core.List.{List, [], ◌∷◌, ◌++◌, append_assoc}
use Prim.Native.Nat.{ℕ, zero, suc, ◌+◌, ◌-◌, ◌*◌, ◌<◌}
use native.Mathlib.Nat.{add-zero, mul-suc, mul-zero}
use native.Mathlib.Numerals.{add-one}
use native.Mathlib.Omega.{arith}
use lib.ListN.{length, set, replicate}
use lib.Seq.{set_at}
use Rattle.bits.specs.Lists.{list_of}

module _ {A : Type 0} where
  pub length-list_of : (get : ℕ → A) (w n at : ℕ) → length (list_of get w n at) ≡ n
  length-list_of get w zero at = refl
  length-list_of get w (suc n) at = ap suc (length-list_of get w n (at + w))

  pub list_of_snoc : (get : ℕ → A) (w n at : ℕ) → list_of get w (n + 1) at ≡ list_of get w n at ++ (get (at + w * n) ∷ [])
  list_of_snoc get w zero at = rw (mul-zero, add-zero)
  list_of_snoc get w (suc n) at =
      let place : at + w + w * n ≡ at + w * suc n = omega (arith, mul-suc w n) in
      rw (add-one, ← place) (ap {B = List _} (λ r. get at ∷ r) (rw add-one at (list_of_snoc get w n (at + w))))

  one_more : (xs : List A) (n i : ℕ) (z v : A) → length xs ≡ i → i < n → set (xs ++ replicate (n - i) z) i v ≡ (xs ++ (v ∷ [])) ++ replicate (n - (i + 1)) z
  one_more xs n i z v e h =
      let step : n - i ≡ suc (n - (i + 1)) = omega arith in
      rw (step, set_at xs z (replicate (n - (i + 1)) z) v i e, append_assoc xs (v ∷ []) (replicate (n - (i + 1)) z))

  -- an array whose first i slots hold the entries read so far takes one more
  pub fill_list : (get : ℕ → A) (w at n i place : ℕ) (z v : A) (arr : List A)
      → arr ≡ list_of get w i at ++ replicate (n - i) z → place ≡ at + w * i → v ≡ get place → i < n
      → set arr i v ≡ list_of get w (i + 1) at ++ replicate (n - (i + 1)) z
  fill_list get w at n i place z v arr ea ep ev h =
      rw (ea, ev, ep, list_of_snoc get w i at) (one_more (list_of get w i at) n i z (get (at + w * i)) (length-list_of get w i at) h)
