-- The open stretches as numbers: what a stretch that is put in makes of them, and that they tell the stretches.
use mathlib.Core.Path.{◌≡◌, refl, ap, ap₂, sym, ◌∙◌}
use mathlib.Core.List.{List, [], ◌∷◌, ◌++◌, map}
use Prim.Native.Nat.{ℕ, ◌+◌, ◌-◌, ◌<◌}
use native.Mathlib.Omega.{arith}
use lib.ListN.{length, set, length-map, length-set, length-append}
use Rattle.std.proofs.lemmas.List.{map-set, set-append_left, set-append_right}
use Rattle.rules.specs.Limits.{most_effects}
use Rattle.tally.specs.declared.Stretch.{Stretch}
use Rattle.tally.specs.declared.Count.{Count}
use Rattle.tally.specs.Tally.{Count as Counted}
use Rattle.tally.specs.Shown.{cells, shown}

module _ (xs : List Stretch) (long : length xs ≡ most_effects) (i : ℕ) (h : i < most_effects) where
  abbrev sinces : List ℕ
  sinces = map (λ (x : Stretch). x.since) xs

  abbrev codes : List ℕ
  codes = map (λ (x : Stretch). x.code) xs

  long_sinces : length sinces ≡ most_effects
  long_sinces = length-map xs (λ (x : Stretch). x.since) ∙ long

  behind : most_effects + i - most_effects ≡ i
  behind = omega arith

  pub put_shown : (x : Stretch) → cells (set xs i x) ≡ set (set (cells xs) i x.since) (most_effects + i) x.code
  put_shown x =
      let left = set-append_left sinces codes i x.since (omega (arith, long_sinces)) in
      let as_long : length (set sinces i x.since) ≡ most_effects = length-set sinces i x.since ∙ long_sinces in
      ap₂ (λ (a b : List ℕ). a ++ b) (map-set (λ (y : Stretch). y.since) xs i x) (map-set (λ (y : Stretch). y.code) xs i x)
      ∙ sym
      (ap (λ (l : List ℕ). set l (most_effects + i) x.code) left
      ∙ set-append_right (set sinces i x.since) codes most_effects (most_effects + i) x.code as_long (omega arith)
      ∙ ap (λ (k : ℕ). set sinces i x.since ++ set codes k x.code) behind)

-- ## What is shown tells the count

-- from since when the stretches are open and the codes of their states, the stretches
told_apart : (xs ys : List Stretch) → map (λ (x : Stretch). x.since) xs ≡ map (λ (x : Stretch). x.since) ys
    → map (λ (x : Stretch). x.code) xs ≡ map (λ (x : Stretch). x.code) ys → xs ≡ ys
told_apart [] [] e f = refl
told_apart [] (y ∷ ys) e f = (cc)
told_apart (x ∷ xs) [] e f = (cc)
told_apart (x ∷ xs) (y ∷ ys) e f =
    let since : x.since ≡ y.since = cc in
    let code : x.code ≡ y.code = cc in
    let same : x ≡ y = λ j. record { since = since j; code = code j } in
    ap₂ (λ (z : Stretch) (zs : List Stretch). z ∷ zs) same (told_apart xs ys (cc) (cc))

halves : (a b c d : List ℕ) → length a ≡ length c → a ++ b ≡ c ++ d → (a ≡ c) × (b ≡ d)
halves [] b [] d l e = (refl, e)
halves [] b (z ∷ c) d l e = absurd (omega (arith, l))
halves (y ∷ a) b [] d l e = absurd (omega (arith, l))
halves (y ∷ a) b (z ∷ c) d l e =
    let rest : a ++ b ≡ c ++ d = cc in
    let h = halves a b c d (omega (arith, l)) rest in
    let here : y ≡ z = cc in
    (ap₂ (λ (u : ℕ) (us : List ℕ). u ∷ us) here h.0, h.1)

pub cells_injective : (xs ys : List Stretch) → cells xs ≡ cells ys → xs ≡ ys
cells_injective xs ys e =
    let a = map (λ (x : Stretch). x.since) xs in
    let b = map (λ (x : Stretch). x.code) xs in
    let c = map (λ (x : Stretch). x.since) ys in
    let d = map (λ (x : Stretch). x.code) ys in
    let as_long : length a ≡ length c =
    omega (arith, ap length e, length-append a b, length-append c d, length-map xs (λ (x : Stretch). x.since), length-map xs (λ (x : Stretch). x.code), length-map ys (λ (x : Stretch). x.since), length-map ys (λ (x : Stretch). x.code))
    in
    let h = halves a b c d as_long e in
    told_apart xs ys h.0 h.1

-- two counts that are shown alike are one
pub shown_injective : (t u : Count) → shown t ≡ shown u → t ≡ u
shown_injective t u e =
    let stretches = cells_injective t.stretches u.stretches (ap (λ (c : Counted). c.stretches) e) in
    λ j. record { sums = (e j).sums; stretches = stretches j }
