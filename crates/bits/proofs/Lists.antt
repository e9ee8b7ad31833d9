-- Laws of lists that are made or tested by their index, and of lists joined from pieces.
use mathlib.Core.Path.{◌≡◌, refl, ap, ap₂, sym, ◌∙◌}
use mathlib.Core.Bool.{Bool, true, false, ◌&&◌, ◌||◌, false≢true}
use mathlib.Core.List.{List, [], ◌∷◌, ◌++◌, map, flat_map, append_assoc, append-nil}
use mathlib.Core.Logic.{⊎_elim}
use Prim.Native.Nat.{ℕ, zero, suc, ◌+◌, ◌*◌, ◌<◌, ◌≤◌, suc-le-suc}
use native.Mathlib.Nat.{add-zero, mul-add, mul-suc, mul-zero, eq-or-lt_of_le, le_of_suc-le-suc, not-suc-le-zero}
use native.Mathlib.Numerals.{add-one}
use native.Mathlib.Omega.{arith}
use lib.ListN.{length, take, drop, set, get_or, replicate, length-append, length-map, drop_of_length-le, get_or-append}
use lib.Seq.{set_at, sets, drop-cons, get_or_at, take-suc}
use Rattle.bits.specs.Lists.{tabulate, all_from}
use Rattle.bits.proofs.Numbers.{sets-append}

-- ## Both tests, and neither

pub and_left : (a b : Bool) → (a && b) ≡ true → a ≡ true
and_left true b e = refl
and_left false b e = e

pub and_right : (a b : Bool) → (a && b) ≡ true → b ≡ true
and_right true b e = e
and_right false b e = absurd (false≢true e)

pub both : (a b : Bool) → a ≡ true → b ≡ true → (a && b) ≡ true
both a b e f = rw (e, f)

-- a disjunction that fails: both tests fail
pub or-none : (a b : Bool) → (a || b) ≡ false → (a ≡ false) × (b ≡ false)
or-none true b e = absurd (false≢true (sym e))
or-none false b e = (refl, e)

module _ {A : Type 0} where
  -- ## Made by index

  pub length-tabulate : (f : ℕ → A) (n : ℕ) → length (tabulate f n) ≡ n
  unfolding tabulate
  length-tabulate f zero = refl
  length-tabulate f (suc n) = length-append (tabulate f n) (f n ∷ []) ∙ rw (length-tabulate f n, add-one)

  pub tabulate_more : (f : ℕ → A) (n : ℕ) → tabulate f (n + 1) ≡ tabulate f n ++ (f n ∷ [])
  unfolding tabulate
  tabulate_more f n = rw add-one

  pub tabulate_ext : (f g : ℕ → A) (n : ℕ) → ((i : ℕ) → i < n → f i ≡ g i) → tabulate f n ≡ tabulate g n
  unfolding tabulate
  tabulate_ext f g zero h = refl
  tabulate_ext f g (suc n) h = ap₂ (λ (l : List A) (x : A). l ++ (x ∷ [])) (tabulate_ext f g n (λ i k. h i (omega arith))) (h n (omega arith))

  pub get_or-tabulate : (f : ℕ → A) (n i : ℕ) (d : A) → i < n → get_or (tabulate f n) i d ≡ f i
  unfolding tabulate
  get_or-tabulate f zero i d h = absurd (not-suc-le-zero h)
  get_or-tabulate f (suc n) i d h = ⊎_elim last (λ k. earlier k (get_or-tabulate f n i d k)) (eq-or-lt_of_le (le_of_suc-le-suc h))
    where
      last : i ≡ n → get_or (tabulate f n ++ (f n ∷ [])) i d ≡ f i
      last e = rw e (get_or_at (tabulate f n) (f n) [] d n (length-tabulate f n))

      earlier : i < n → get_or (tabulate f n) i d ≡ f i → get_or (tabulate f n ++ (f n ∷ [])) i d ≡ f i
      earlier k r = get_or-append (tabulate f n) (f n ∷ []) d i (rw length-tabulate k) ∙ r

  -- the first elements of a list, read one by one
  pub tabulate_take : (l : List A) (d : A) (n : ℕ) → n ≤ length l → tabulate (λ i. get_or l i d) n ≡ take n l
  unfolding tabulate
  tabulate_take l d zero h = refl
  tabulate_take l d (suc n) h = ap (λ (k : List A). k ++ (get_or l n d ∷ [])) (tabulate_take l d n (omega arith)) ∙ sym (take-suc l n d h)

  -- a store at the first place past a part that is filled by index
  pub fill : (f : ℕ → A) (l : List A) (i : ℕ) (d : A) → i < length l
      → set (tabulate f i ++ drop i l) i (f i) ≡ tabulate f (i + 1) ++ drop (i + 1) l
  fill f l i d h =
      rw (drop-cons l i d, set_at (tabulate f i) _ _ _ i (length-tabulate f i), tabulate_more, append_assoc, add-one)

  -- a part that is filled by index, with a rest after it
  pub get_or_filled : (f : ℕ → A) (n : ℕ) (l : List A) (i : ℕ) (d : A) → i < n → get_or (tabulate f n ++ l) i d ≡ f i
  get_or_filled f n l i d h = get_or-append (tabulate f n) l d i (rw length-tabulate h) ∙ get_or-tabulate f n i d h

  -- ## Tested by index

  all_step : (t : ℕ → A → Bool) (i : ℕ) (xs : List A) (d : A) → i < length xs
      → all_from t i (drop i xs) ≡ (t i (get_or xs i d) && all_from t (i + 1) (drop (i + 1) xs))
  all_step t i xs d h = ap (all_from t i) (drop-cons xs i d h ∙ ap {B = List A} (λ n. get_or xs i d ∷ drop n xs) (sym (add-one i)))

  -- one turn of a loop that tests element i, where those before it passed
  module _ (t : ℕ → A → Bool) (i : ℕ) (xs : List A) (d : A) (result : Bool) (h : i < length xs)
      (is : result ≡ t i (get_or xs i d)) (inv : all_from t i (drop i xs) ≡ all_from t 0 xs) where
    pub all_fails : result ≡ false → false ≡ all_from t 0 xs
    all_fails n = rw (← inv, all_step t i xs d h, ← is, n)

    pub all_goes_on : result ≡ true → all_from t (i + 1) (drop (i + 1) xs) ≡ all_from t 0 xs
    all_goes_on n = rw (← inv, all_step t i xs d h, ← is, n)

  pub all_ends : (t : ℕ → A → Bool) (i : ℕ) (xs : List A) → length xs ≤ i → all_from t i (drop i xs) ≡ all_from t 0 xs → true ≡ all_from t 0 xs
  all_ends t i xs h inv = rw (← inv, drop_of_length-le xs h)

  -- in a list that passes, each element passes
  pub all-at : (t : ℕ → A → Bool) (i : ℕ) (xs : List A) (d : A) → all_from t i xs ≡ true → (j : ℕ) → j < length xs → t (i + j) (get_or xs j d) ≡ true
  all-at t i [] d e j h = absurd (not-suc-le-zero h)
  all-at t i (x ∷ xs) d e zero h = rw add-zero (and_left (t i x) _ e)
  all-at t i (x ∷ xs) d e (suc j) h =
      let n : i + suc j ≡ i + 1 + j = omega arith in
      rw n (all-at t (i + 1) xs d (and_right (t i x) _ e) j (le_of_suc-le-suc h))

  -- a list passes if each element passes
  pub all_pass : (t : ℕ → A → Bool) (i : ℕ) (xs : List A) (d : A) → ((j : ℕ) → j < length xs → t (i + j) (get_or xs j d) ≡ true) → all_from t i xs ≡ true
  all_pass t i [] d h = refl
  all_pass t i (x ∷ xs) d h =
      both (t i x) _ (rw add-zero at (h 0 (omega arith)))
      (all_pass t (i + 1) xs d (λ j k. let n : i + suc j ≡ i + 1 + j = omega arith in rw n at (h (suc j) (suc-le-suc k))))

  pub all_replicate : (t : ℕ → A → Bool) (i n : ℕ) (x : A) → ((j : ℕ) → t j x ≡ true) → all_from t i (replicate n x) ≡ true
  all_replicate t i zero x h = refl
  all_replicate t i (suc n) x h = both (t i x) _ (h i) (all_replicate t (i + 1) n x h)

-- ## Mapped

module _ {A B : Type 0} (f : A → B) where
  map-append : (xs ys : List A) → map f (xs ++ ys) ≡ map f xs ++ map f ys
  map-append [] ys = refl
  map-append (x ∷ xs) ys = ap (λ (l : List B). f x ∷ l) (map-append xs ys)

  pub map-tabulate : (g : ℕ → A) (n : ℕ) → map f (tabulate g n) ≡ tabulate (λ i. f (g i)) n
  unfolding tabulate
  map-tabulate g zero = refl
  map-tabulate g (suc n) = map-append (tabulate g n) (g n ∷ []) ∙ ap (λ (l : List B). l ++ (f (g n) ∷ [])) (map-tabulate g n)

-- an array as the machine holds it has as many elements
pub length_mapped : (X Y : Type 0) (f : X → Y) (l : List X) (n : ℕ) → length (map f l) ≡ n → length l ≡ n
length_mapped X Y f l n e = sym (length-map l f) ∙ e

-- ## Joined from pieces

module _ {A B : Type 0} (put : A → List B) where
  pub flat_map-append : (xs ys : List A) → flat_map put (xs ++ ys) ≡ flat_map put xs ++ flat_map put ys
  unfolding flat_map
  flat_map-append [] ys = refl
  flat_map-append (x ∷ xs) ys = ap (λ (l : List B). put x ++ l) (flat_map-append xs ys) ∙ sym (append_assoc (put x) (flat_map put xs) (flat_map put ys))

  pub flat_map_snoc : (xs : List A) (x : A) → flat_map put (xs ++ (x ∷ [])) ≡ flat_map put xs ++ put x
  unfolding flat_map
  flat_map_snoc xs x = flat_map-append xs (x ∷ []) ∙ ap (λ (l : List B). flat_map put xs ++ l) (append-nil (put x))

  -- after the last turn of a loop that stores pieces, nothing is left to store
  pub store_ends : (s s' : List B) (at i : ℕ) (xs : List A) → length xs ≤ i → sets s at (flat_map put (drop i xs)) ≡ s' → s ≡ s'
  unfolding flat_map
  store_ends s s' at i xs h e = rw (drop_of_length-le xs h) at e

  -- pieces that all have the same length
  module _ (w : ℕ) (wide : (a : A) → length (put a) ≡ w) where
    pub length-flat_map : (xs : List A) → length (flat_map put xs) ≡ w * length xs
    unfolding flat_map
    length-flat_map [] = rw mul-zero
    length-flat_map (x ∷ xs) = length-append (put x) (flat_map put xs) ∙ omega (arith, wide x, length-flat_map xs, mul-suc w (length xs))

    -- one turn of a loop that stores pieces: the piece of element i is stored, and those of the rest are left
    pub store_turn : (s : List B) (at i : ℕ) (xs : List A) (d : A) → i < length xs
        → sets (sets s (at + w * i) (put (get_or xs i d))) (at + w * (i + 1)) (flat_map put (drop (i + 1) xs)) ≡ sets s (at + w * i) (flat_map put (drop i xs))
    unfolding flat_map
    store_turn s at i xs d h =
        let p : at + w * (i + 1) ≡ at + w * i + length (put (get_or xs i d)) = rw (wide, mul-add w i 1) (omega arith) in
        rw (p, drop-cons xs i d h, sets-append s (at + w * i) (put (get_or xs i d)), add-one)
