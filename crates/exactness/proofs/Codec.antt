-- Sections of entries that are written and read back, for any kind of entry: by recursion on the list of entries.
use mathlib.Core.Path.{◌≡◌, refl, sym, ap, ap₂, ◌∙◌, subst}
use mathlib.Core.List.{List, [], ◌∷◌, ◌++◌, append_assoc, flat_map}
use Prim.Native.Nat.{ℕ, zero, suc, ◌+◌, ◌-◌, ◌*◌, ◌≤◌, ◌<◌}
use native.Mathlib.Nat.{add-zero, mul-suc, mul-zero}
use native.Mathlib.Omega.{arith}
use lib.ListN.{length, take, drop, length-append}
use lib.Seq.{take-add, drop-drop}
use Rattle.bits.specs.Numbers.{Bytes, num_at, digits}
use Rattle.bits.proofs.Lists.{length-flat_map}
use Rattle.bits.proofs.Numbers.{length_digits, digits_num, num_digits}
use Rattle.bits.specs.Lists.{list_of}
use Rattle.recording.specs.Encode.{counted, All}
use Rattle.layout.proofs.Lists.{length-list_of}
use Rattle.recording.specs.Refused.{FirstRight}

-- an entry is read at a place, written as w bytes, and checked; 0 means valid
pub record Codec (A : Type 0) (w : ℕ) (get : List ℕ → ℕ → A) (put : A → List ℕ) (check : A → ℕ) : Type 0 where
  pub width : (a : A) → length (put a) ≡ w
  pub put-get : (s : List ℕ) (at : ℕ) → Bytes s → at + w ≤ length s → put (get s at) ≡ take w (drop at s)
  pub get-put : (a : A) (p q : List ℕ) → check a ≡ 0 → get (p ++ (put a ++ q)) (length p) ≡ a

module _ {A : Type 0} (w : ℕ) (get : List ℕ → ℕ → A) (put : A → List ℕ) (check : A → ℕ) (C : Codec A w get put check) where
  pub length-counted : (xs : List A) → length (counted put xs) ≡ 2 + w * length xs
  length-counted xs =
      length-append (digits 2 (length xs)) (flat_map put xs)
      ∙ omega (arith, length_digits 2 (length xs), length-flat_map put w C.width xs)

  -- ## What is read is written back

  put_list : (s : List ℕ) (n at : ℕ) → Bytes s → at + w * n ≤ length s → flat_map put (list_of (get s) w n at) ≡ take (w * n) (drop at s)
  unfolding flat_map
  put_list s zero at b h = rw mul-zero
  put_list s (suc n) at b h =
      let e : w * suc n ≡ w + w * n = omega (arith, mul-suc w n) in
      rw (C.put-get s at b (omega (arith, e)), put_list s n (at + w) b (omega (arith, e)), e, take-add w (w * n) (drop at s), drop-drop w at s)

  pub all_list : (s : List ℕ) (n at : ℕ) → ((i : ℕ) → i < n → check (get s (at + w * i)) ≡ 0) → All check (list_of (get s) w n at)
  all_list s zero at f = tt
  all_list s (suc n) at f = (
    rw (mul-zero, add-zero) at (f 0 (omega arith)),
    all_list s n (at + w)
        (λ i l. let e : at + w + w * i ≡ at + w * suc i = omega (arith, mul-suc w i) in rw e (f (suc i) (omega arith))),
  )

  -- a section that passes is the bytes of its count and its entries
  pub section_bytes : (s : List ℕ) (at e : ℕ) → Bytes s → at + 2 ≤ length s → at + 2 + w * num_at 2 s at ≤ length s → e ≡ at + 2 + w * num_at 2 s at
      → counted put (list_of (get s) w (num_at 2 s at) (at + 2)) ≡ take (e - at) (drop at s)
  section_bytes s at e b room there next =
      let n = num_at 2 s at in
      let m : e - at ≡ 2 + w * n = omega (arith, next) in
      let front : digits 2 (length (list_of (get s) w n (at + 2))) ≡ take 2 (drop at s) =
      ap (digits 2) (length-list_of (get s) w n (at + 2)) ∙ digits_num 2 s at b room
      in
      let back : flat_map put (list_of (get s) w n (at + 2)) ≡ take (w * n) (drop (at + 2) s) =
      put_list s n (at + 2) b there
      in
      ap₂ (λ (x y : List ℕ). x ++ y) front back ∙ rw (m, take-add 2 (w * n) (drop at s), drop-drop 2 at s)

  -- ## What is written is read back

  get_list : (xs : List A) (p q : List ℕ) (at : ℕ) → at ≡ length p → All check xs → list_of (get (p ++ (flat_map put xs ++ q))) w (length xs) at ≡ xs
  unfolding flat_map
  get_list [] p q at e h = refl
  get_list (a ∷ xs) p q at e h =
      let t = flat_map put xs in
      let again : p ++ ((put a ++ t) ++ q) ≡ (p ++ put a) ++ (t ++ q) = simp append_assoc in
      let here : get (p ++ ((put a ++ t) ++ q)) at ≡ a = rw (append_assoc (put a) t q, e) (C.get-put a p (t ++ q) h.0) in
      let there : list_of (get (p ++ ((put a ++ t) ++ q))) w (length xs) (at + w) ≡ xs =
      rw again (get_list xs (p ++ put a) q (at + w) (omega (arith, length-append p (put a), C.width a)) h.1)
      in
      ap₂ {B = List A} (λ (x : A) (y : List A). x ∷ y) here there

  all-at : (s : List ℕ) (n at : ℕ) → All check (list_of (get s) w n at) → (i : ℕ) → i < n → check (get s (at + w * i)) ≡ 0
  all-at s zero at h i l = absurd (omega arith)
  all-at s (suc n) at h zero l = rw (mul-zero, add-zero) h.0
  all-at s (suc n) at h (suc i) l =
      let e : at + w * suc i ≡ at + w + w * i = omega (arith, mul-suc w i) in
      rw e (all-at s n (at + w) h.1 i (omega arith))

  -- a section that is written passes, and gives its entries back
  pub record Back (s : List ℕ) (at : ℕ) (xs : List A) : Type 0 where
    pub count : num_at 2 s at ≡ length xs
    pub entries : list_of (get s) w (length xs) (at + 2) ≡ xs
    pub room : at + 2 ≤ length s
    pub right : FirstRight (λ i. check (get s i)) w (length s) (at + 2) (length xs)

  pub section_back : (xs : List A) (p q : List ℕ) (at : ℕ) → at ≡ length p → All check xs → length xs < 65536
      → Back (p ++ (counted put xs ++ q)) at xs
  section_back xs p q at e h small =
      let n = length xs in
      let s = p ++ (counted put xs ++ q) in
      let d = digits 2 n in
      let t = flat_map put xs in
      let s₁ : s ≡ p ++ (d ++ (t ++ q)) = ap (λ (l : List ℕ). p ++ l) (append_assoc d t q) in
      let s₂ : s ≡ (p ++ d) ++ (t ++ q) = s₁ ∙ sym (append_assoc p d (t ++ q)) in
      let len : length s ≡ length p + (2 + (w * n + length q)) =
      ap length s₁ ∙ length-append p (d ++ (t ++ q))
      ∙ omega (arith, length-append d (t ++ q), length-append t q, length_digits 2 n, length-flat_map put w C.width xs)
      in
      let c : num_at 2 s at ≡ n = ap (λ (l : List ℕ). num_at 2 l at) s₁ ∙ num_digits 2 n p (t ++ q) at e (omega arith) in
      let l : list_of (get s) w n (at + 2) ≡ xs =
      ap (λ (z : List ℕ). list_of (get z) w n (at + 2)) s₂
      ∙ get_list xs (p ++ d) q (at + 2) (omega (arith, length-append p d, length_digits 2 n)) h
      in
      let all : All check (list_of (get s) w n (at + 2)) = subst (λ (z : List A). All check z) (sym l) h in
      record {
        count = c;
        entries = l;
        room = omega (arith, len);
        right = record { there = omega (arith, len); right = all-at s n (at + 2) all };
      }
