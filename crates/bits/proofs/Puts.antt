-- Texts written one after the other.
use mathlib.Core.Path.{◌≡◌, refl}
use mathlib.Core.List.{List, ◌++◌}
use Prim.Native.Nat.{ℕ, ◌+◌}
use native.Mathlib.Omega.{arith}
use lib.ListN.{length, length-append}
use lib.Seq.{sets}
use Rattle.bits.proofs.Numbers.{sets_then}

-- a text was written at a place, which made l' of l, and r is the place after it
abbrev pub Put : (l l' : List ℕ) (at r : ℕ) (text : List ℕ) → Type 0
Put l l' at r text = (r ≡ at + length text) × (l' ≡ sets l at text)

pub put_then : (l l₁ l₂ : List ℕ) (at m r : ℕ) (a b : List ℕ) → Put l l₁ at m a → Put l₁ l₂ m r b → Put l l₂ at r (a ++ b)
put_then l l₁ l₂ at m r a b p q =
    let e = p.0 in
    (omega (arith, length-append a b, q.0), sets_then l l₁ l₂ at (length a) a b p.1 (rw p.0 at q.1) refl)
