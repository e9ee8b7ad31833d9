-- Laws of numbers of w bytes, of entries of fixed layout, and of runs of stores.
use mathlib.Core.Path.{◌≡◌, refl, sym, ap, ap₂, ◌∙◌}
use mathlib.Core.List.{List, [], ◌∷◌, ◌++◌, append_assoc}
use Prim.Native.Nat.{ℕ, zero, suc, ◌+◌, ◌*◌, ◌/◌, ◌%◌, ◌^◌, ◌≤◌, ◌<◌}
use native.Mathlib.Nat.{add_assoc, add-zero, zero-add, one-mul, div-one, div-add-mod', div-div-eq-div-mul, div-lt_iff_lt-mul, mod-lt, add-suc, suc-add, add-mul, mul_assoc, pow-suc, mul_comm, mul_right_comm}
use native.Mathlib.Numerals.{add-one}
use native.Mathlib.Omega.{arith}
use borrow.Rule.Slice.PartMut.{put_mid}
use lib.ListN.{length, get_or, take, drop, set, length-append}
use lib.Seq.{sets, sets-eq, drop-cons, get_or_at, take-add, drop-drop}
use lib.Pow.{pow-add}
use lib.Arith.{digits_div, digits_mod, digits_lt, mod-mul}
use Rattle.std.specs.Int.{w32, w64, to_be_bytes}
use Rattle.std.proofs.lemmas.Nat.{be_bytes_4, be_bytes_8}
use Rattle.bits.specs.Numbers.{Bytes, num_at, digits}
use Rattle.bits.specs.Layout.{pack}

-- as many numbers as the layout has, each within its width
abbrev pub Fit : List ℕ → List ℕ → Type 0
Fit [] [] = Unit {0}
Fit [] (v ∷ vs) = ⊥
Fit (w ∷ ws) [] = ⊥
Fit (w ∷ ws) (v ∷ vs) = (v < 256 ^ w) × Fit ws vs

-- as many numbers as the layout has, and 0 where a width is 0: such numbers can be read back
abbrev pub Spelled : List ℕ → List ℕ → Type 0
Spelled [] [] = Unit {0}
Spelled [] (v ∷ vs) = ⊥
Spelled (w ∷ ws) [] = ⊥
Spelled (w ∷ ws) (v ∷ vs) = (w ≡ 0 → v ≡ 0) × Spelled ws vs

-- ---- runs of stores

pub sets-append : {A : Type 0} (l : List A) (i : ℕ) (a b : List A) → sets l i (a ++ b) ≡ sets (sets l i a) (i + length a) b
sets-append l i [] b = rw add-zero
sets-append l i (x ∷ a) b = sets-append (set l i x) (suc i) a b ∙ rw (add-suc, suc-add)

-- one store more after a run of stores is a longer run
pub put_last : {A : Type 0} (l l' : List A) (at n : ℕ) (vs : List A) (v : A) → l' ≡ sets l at vs → n ≡ at + length vs
    → set l' n v ≡ sets l at (vs ++ (v ∷ []))
put_last l l' at n vs v p e = rw (p, e) (sym (sets-append l at vs (v ∷ [])))

-- a part from `at` on that becomes vs: vs is stored at `at`
pub part_text : {A : Type 0} (vs l part : List A) (at k : ℕ) → at + length vs ≤ length l → k ≡ length vs → part ≡ vs → put_mid at k l part ≡ sets l at vs
part_text vs l part at k h n e = rw (e, n, drop-drop (length vs) at l, sets-eq vs l at h, append_assoc)

-- ---- a number of w bytes

pow_pos : (w : ℕ) → 0 < 256 ^ w
pow_pos zero = omega arith
pow_pos (suc w) = rw (pow-suc 256 w) (let h = pow_pos w in omega arith)

below_one : (w v : ℕ) → v < 256 ^ w → w ≡ 0 → v ≡ 0
below_one w v h e = omega (arith, ap (λ (n : ℕ). 256 ^ n) e)

pub length_digits : (w v : ℕ) → length (digits w v) ≡ w
length_digits zero v = refl
length_digits (suc w) v = ap suc (length_digits w (v % 256 ^ w))

pub num_lt : (w : ℕ) (s : List ℕ) (at : ℕ) → Bytes s → num_at w s at < 256 ^ w
num_lt zero s at b = omega arith
num_lt (suc w) s at b = rw (pow-suc 256 w, mul_comm (256 ^ w) 256) (digits_lt (b at) (num_lt w s (at + 1) b))

-- the bytes of a number are those of its upper part and those of its lower part
pow_join : (a b : ℕ) → 256 ^ (a + b) ≡ 256 ^ a * 256 ^ b
pow_join zero b = rw zero-add (sym (one-mul (256 ^ b)))
pow_join (suc a) b = rw (suc-add, pow-suc 256 (a + b), pow-suc 256 a, pow_join a b) (mul_right_comm (256 ^ a) (256 ^ b) 256)

pub digits_parts : (a b v : ℕ) → digits (suc (a + b)) v ≡ digits (suc a) (v / 256 ^ b) ++ digits b (v % 256 ^ b)
digits_parts zero b v = rw (zero-add, div-one)
digits_parts (suc a) b v =
    let c = 256 ^ b in
    let m = 256 ^ suc a in
    let e : 256 ^ suc (a + b) ≡ m * c = ap (λ (n : ℕ). 256 ^ n) (sym (suc-add a b)) ∙ pow_join (suc a) b in
    let w : v % 256 ^ suc (a + b) ≡ v / c % m * c + v % c = ap (λ (n : ℕ). v % n) e ∙ mod-mul v (pow_pos (suc a)) (pow_pos b) in
    let high : v / 256 ^ suc (a + b) ≡ v / c / m = ap (λ (n : ℕ). v / n) (e ∙ mul_comm m c) ∙ sym (div-div-eq-div-mul v c m) in
    let low = mod-lt v (pow_pos b) in
    rw suc-add
    (ap₂ (λ (x : ℕ) (l : List ℕ). x ∷ l) high
    (digits_parts a b (v % 256 ^ suc (a + b)) ∙ rw (w, digits_div (v / c % m) low, digits_mod (v / c % m) low)))

-- a number is stored in two parts, one after the other
pub sets_parts : (l l' : List ℕ) (at a b v : ℕ) → l' ≡ sets l at (digits (suc a) (v / 256 ^ b)) → sets l' (at + suc a) (digits b (v % 256 ^ b)) ≡ sets l at (digits (suc (a + b)) v)
sets_parts l l' at a b v e =
    let upper = digits (suc a) (v / 256 ^ b) in
    ap (λ (x : List ℕ). sets x (at + suc a) (digits b (v % 256 ^ b))) e
    ∙ ap (λ (n : ℕ). sets (sets l at upper) (at + n) (digits b (v % 256 ^ b))) (sym (length_digits (suc a) (v / 256 ^ b)))
    ∙ sym (sets-append l at upper (digits b (v % 256 ^ b)))
    ∙ ap (sets l at) (sym (digits_parts a b v))

-- a number that is read is written back as the bytes that it was read from
pub digits_num : (w : ℕ) (s : List ℕ) (at : ℕ) → Bytes s → at + w ≤ length s → digits w (num_at w s at) ≡ take w (drop at s)
digits_num zero s at b h = refl
digits_num (suc w) s at b h =
    let lt = num_lt w s (at + 1) b in
    let inside : at < length s = omega (arith, add-suc at w) in
    let rest : at + 1 + w ≤ length s = omega (arith, add-suc at w) in
    rw (digits_div (get_or s at 0) lt, digits_mod (get_or s at 0) lt, digits_num w s (at + 1) b rest, drop-cons s at 0 inside, add-one)

-- a number that is written is read back, however large: the first byte takes what is above the others. A width of 0 spells 0 only
pub num_spelled : (w v : ℕ) (p q : List ℕ) (at : ℕ) → at ≡ length p → (w ≡ 0 → v ≡ 0) → num_at w (p ++ (digits w v ++ q)) at ≡ v
num_spelled zero v p q at e z = sym (z refl)
num_spelled (suc w) v p q at e z =
    let x = v / 256 ^ w in
    let r = v % 256 ^ w in
    let here : get_or (p ++ (digits (suc w) v ++ q)) at 0 ≡ x = get_or_at p x (digits w r ++ q) 0 at (sym e) in
    let there : num_at w (p ++ (digits (suc w) v ++ q)) (at + 1) ≡ r =
    ap (λ (l : List ℕ). num_at w l (at + 1)) (sym (append_assoc p (x ∷ []) (digits w r ++ q)))
    ∙ num_spelled w r (p ++ (x ∷ [])) q (at + 1) (omega (arith, length-append p (x ∷ []))) (below_one w r (mod-lt v (pow_pos w)))
    in
    rw (here, there) (div-add-mod' v (256 ^ w))

pub num_digits : (w v : ℕ) (p q : List ℕ) (at : ℕ) → at ≡ length p → v < 256 ^ w → num_at w (p ++ (digits w v ++ q)) at ≡ v
num_digits w v p q at e h = num_spelled w v p q at e (below_one w v h)

-- a number of v + w bytes is made of its first v bytes and its last w bytes
pub num_parts : (v w : ℕ) (s : List ℕ) (at : ℕ) → num_at (v + w) s at ≡ num_at v s at * 256 ^ w + num_at w s (at + v)
num_parts zero w s at = rw (zero-add, add-zero) (omega arith)
num_parts (suc v) w s at =
    let next : at + 1 + v ≡ at + suc v = omega arith in
    rw (suc-add, num_parts v w s (at + 1), pow-add 256 v w, next, add-mul, mul_assoc, add_assoc)

-- each digit is a byte
digits_bytes : (w v : ℕ) → v < 256 ^ w → Bytes (digits w v)
digits_bytes zero v h i = omega arith
digits_bytes (suc w) v h zero = (div-lt_iff_lt-mul (pow_pos w)).1 (rw (pow-suc 256 w, mul_comm (256 ^ w) 256) at h)
digits_bytes (suc w) v h (suc i) = digits_bytes w (v % 256 ^ w) (mod-lt v (pow_pos w)) i

-- the bytes that std gives of a number of 32 bits, and of 64
pub be_four : (v : ℕ) → v < 2 ^ 32 → to_be_bytes w32 v ≡ digits 4 v
be_four v h = be_bytes_4 (digits 4 v) v refl (digits_bytes 4 v (omega arith)) (omega arith)

pub be_eight : (v : ℕ) → v < 2 ^ 64 → to_be_bytes w64 v ≡ digits 8 v
be_eight v h = be_bytes_8 (digits 8 v) v refl (digits_bytes 8 v (omega arith)) (omega arith)

-- the bytes of a number that is put together from two are those of the one and then those of the other
pub digits_joined : (a b q r : ℕ) → r < 256 ^ b → digits (suc (a + b)) (q * 256 ^ b + r) ≡ digits (suc a) q ++ digits b r
digits_joined a b q r lt = digits_parts a b (q * 256 ^ b + r) ∙ rw (digits_div q lt, digits_mod q lt)

-- ---- entries of fixed layout

-- how long an entry is
abbrev pub total : List ℕ → ℕ
total [] = 0
total (w ∷ ws) = w + total ws

-- the numbers of an entry that starts at `at`, from its byte `off` on
abbrev pub fields_at : List ℕ → List ℕ → ℕ → ℕ → List ℕ
fields_at [] s at off = []
fields_at (w ∷ ws) s at off = num_at w s (at + off) ∷ fields_at ws s at (off + w)

pub pack_fields : (ws s : List ℕ) (at off : ℕ) → Bytes s → at + off + total ws ≤ length s → pack ws (fields_at ws s at off) ≡ take (total ws) (drop (at + off) s)
pack_fields [] s at off b h = refl
pack_fields (w ∷ ws) s at off b h =
    rw (digits_num w s (at + off) b (omega arith), pack_fields ws s at (off + w) b (omega arith), take-add w (total ws) (drop (at + off) s), drop-drop w (at + off) s, add_assoc at off w)

pub fields_spelled : (ws vs p q : List ℕ) (at off : ℕ) → at + off ≡ length p → Spelled ws vs → fields_at ws (p ++ (pack ws vs ++ q)) at off ≡ vs
fields_spelled [] [] p q at off e f = refl
fields_spelled [] (v ∷ vs) p q at off e f = absurd f
fields_spelled (w ∷ ws) [] p q at off e f = absurd f
fields_spelled (w ∷ ws) (v ∷ vs) p q at off e f =
    let t = pack ws vs in
    let d = digits w v in
    let again : p ++ ((d ++ t) ++ q) ≡ (p ++ d) ++ (t ++ q) = simp append_assoc in
    let here : num_at w (p ++ ((d ++ t) ++ q)) (at + off) ≡ v = rw (append_assoc d t q) (num_spelled w v p (t ++ q) (at + off) e f.0) in
    let there : fields_at ws (p ++ ((d ++ t) ++ q)) at (off + w) ≡ vs =
    ap (λ (l : List ℕ). fields_at ws l at (off + w)) again
    ∙ fields_spelled ws vs (p ++ d) q at (off + w) (omega (arith, length-append p d, length_digits w v)) f.1
    in
    ap₂ (λ (a : ℕ) (b : List ℕ). a ∷ b) here there

fit_spelled : (ws vs : List ℕ) → Fit ws vs → Spelled ws vs
fit_spelled [] [] f = tt
fit_spelled [] (v ∷ vs) f = absurd f
fit_spelled (w ∷ ws) [] f = absurd f
fit_spelled (w ∷ ws) (v ∷ vs) f = (below_one w v f.0, fit_spelled ws vs f.1)

pub fields_pack : (ws vs p q : List ℕ) (at off : ℕ) → at + off ≡ length p → Fit ws vs → fields_at ws (p ++ (pack ws vs ++ q)) at off ≡ vs
fields_pack ws vs p q at off e f = fields_spelled ws vs p q at off e (fit_spelled ws vs f)

-- ---- one run of stores after another is one run
pub sets_then : (l l' l'' : List ℕ) (at n : ℕ) (a b : List ℕ) → l' ≡ sets l at a → l'' ≡ sets l' (at + n) b → length a ≡ n → l'' ≡ sets l at (a ++ b)
sets_then l l' l'' at n a b p q e =
    q ∙ ap (λ (x : List ℕ). sets x (at + n) b) p ∙ ap (λ (k : ℕ). sets (sets l at a) (at + k) b) (sym e) ∙ sym (sets-append l at a b)

pub sets_5 : (l l₁ l₂ l₃ l₄ l₅ : List ℕ) (at a b c d e : ℕ)
    → l₁ ≡ sets l at (digits 2 a) → l₂ ≡ sets l₁ (at + 2) (digits 2 b) → l₃ ≡ sets l₂ (at + 4) (digits 2 c) → l₄ ≡ sets l₃ (at + 6) (digits 2 d) → l₅ ≡ sets l₄ (at + 8) (digits 2 e)
    → l₅ ≡ sets l at (pack (2 ∷ 2 ∷ 2 ∷ 2 ∷ 2 ∷ []) (a ∷ b ∷ c ∷ d ∷ e ∷ []))
sets_5 l l₁ l₂ l₃ l₄ l₅ at a b c d e p₁ p₂ p₃ p₄ p₅ =
    let t₂ = sets_then l l₁ l₂ at 2 (digits 2 a) (digits 2 b) p₁ p₂ refl in
    let t₃ = sets_then l l₂ l₃ at 4 (digits 2 a ++ digits 2 b) (digits 2 c) t₂ p₃ refl in
    let t₄ = sets_then l l₃ l₄ at 6 (digits 2 a ++ digits 2 b ++ digits 2 c) (digits 2 d) t₃ p₄ refl in
    sets_then l l₄ l₅ at 8 (digits 2 a ++ digits 2 b ++ digits 2 c ++ digits 2 d) (digits 2 e) t₄ p₅ refl
