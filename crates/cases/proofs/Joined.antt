-- Laws of bytes laid one after the other: a slot, and a line of digits.
use mathlib.Core.Path.{◌≡◌, refl, ap, ◌∙◌}
use mathlib.Core.List.{List, ◌∷◌, ◌++◌, flat_map}
use Prim.Native.Nat.{ℕ, ◌+◌, ◌*◌, ◌≤◌}
use native.Mathlib.Nat.{zero-add}
use native.Mathlib.Omega.{arith}
use lib.ListN.{length, take, drop, length-append}
use lib.Seq.{sets, sets-eq, take_at}
use Rattle.bits.specs.Numbers.{digits}
use Rattle.bits.proofs.Lists.{length-flat_map}
use Rattle.bits.proofs.Numbers.{sets_then}
use Rattle.rules.specs.declared.Slot.{Slot}
use Rattle.cases.specs.Answers.{slot_bytes, hex_byte, pair_bytes, line_bytes}

-- every slot takes 7 bytes
pub length-slot : (x : Slot) → length (slot_bytes x) ≡ 7
unfolding slot_bytes
length-slot x = refl

-- digits, a space and digits, stored one after the other, are a pair
pub pair_is : (l l₁ l₂ l₃ : List ℕ) (at : ℕ) (a b : List ℕ) → l₁ ≡ sets l at (flat_map hex_byte a) → l₂ ≡ sets l₁ (at + 2 * length a) (digits 1 32)
    → l₃ ≡ sets l₂ (at + 2 * length a + 1) (flat_map hex_byte b) → l₃ ≡ sets l at (pair_bytes a b)
unfolding pair_bytes
pair_is l l₁ l₂ l₃ at a b p q r =
    let later = sets_then l₁ l₂ l₃ (at + 2 * length a) 1 (digits 1 32) (flat_map hex_byte b) q r refl in
    sets_then l l₁ l₃ at (2 * length a) (flat_map hex_byte a) (32 ∷ flat_map hex_byte b) p later (length-flat_map hex_byte 2 (λ x. refl) a)

length-pair : (a b : List ℕ) → length (pair_bytes a b) ≡ 2 * length a + 1 + 2 * length b
unfolding pair_bytes
length-pair a b = rw length-append (omega (arith, length-flat_map hex_byte 2 (λ x. refl) a, length-flat_map hex_byte 2 (λ x. refl) b))

-- a pair, and bytes stored behind it, are one run of stores
pub line-is : (l l₁ l₂ : List ℕ) (n : ℕ) (a b x : List ℕ) → l₁ ≡ sets l 0 (pair_bytes a b) → n ≡ 0 + 2 * length a + 1 + 2 * length b
    → l₂ ≡ sets l₁ n x → l₂ ≡ sets l 0 (pair_bytes a b ++ x)
line-is l l₁ l₂ n a b x p e q = sets_then l l₁ l₂ 0 n (pair_bytes a b) x p (rw zero-add q) (omega (arith, length-pair a b))

-- the front of the buffer is the line
pub line_at_front : (l l₁ : List ℕ) (n : ℕ) (a b : List ℕ) (last : ℕ) → l₁ ≡ sets l 0 (line_bytes a b last) → n ≡ 2 * length a + 2 * length b + 2 → n ≤ length l
    → take n l₁ ≡ line_bytes a b last
line_at_front l l₁ n a b last p e h =
    let text = line_bytes a b last in
    let long : length text ≡ n = length-append (pair_bytes a b) (digits 1 last) ∙ omega (arith, length-pair a b, e) in
    ap (take n) (p ∙ sets-eq text l 0 (omega (arith, long, h))) ∙ take_at text (drop (0 + length text) l) n long
