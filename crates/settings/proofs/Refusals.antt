-- Laws of refusal numbers: what one check gives, and what a chain of checks gives, which returns at the first that is not 0.
use mathlib.Core.Path.{◌≡◌, refl, ap}
use mathlib.Core.Bool.{Bool, true, false}
use Prim.Native.Nat.{ℕ, zero, suc, ◌≤◌, ◌<◌}
use native.Mathlib.Omega.{arith}
use borrow.Author.Tests.{leb-true, leb-false, le-leb, lt-leb}
use lib.Dec.{leb}
use Rattle.std.proofs.Common.{Result, Ok, Err, IsErr, IsErrAnd}
use Rattle.settings.specs.declared.numbers.Refusal.{Refusal}
use Rattle.settings.specs.declared.numbers.Refusal.TheVariants.{Ends, Block, Effects, Rows, BothForces, SeveralForced, LeftOver, State, LastScan, Room, Sums}
use Rattle.settings.specs.Refusals.{unless, or_else, granted, room_number, number_of}

-- ## The refusal numbers

-- 0 is no refusal's number
pub number_some : (r : Refusal) → number_of r ≡ 0 → ⊥
number_some Ends e = absurd (omega (arith, e))
number_some Block e = absurd (omega (arith, e))
number_some Effects e = absurd (omega (arith, e))
number_some Rows e = absurd (omega (arith, e))
number_some BothForces e = absurd (omega (arith, e))
number_some SeveralForced e = absurd (omega (arith, e))
number_some LeftOver e = absurd (omega (arith, e))
number_some State e = absurd (omega (arith, e))
number_some LastScan e = absurd (omega (arith, e))
number_some Room e = absurd (omega (arith, e))
number_some Sums e = absurd (omega (arith, e))

-- what `?` hands on is the error that it met
pub passed_on : {A E : Type 0} (r : Result A E) (e : E) → IsErr r × IsErrAnd r (λ f. f ≡ e) → r ≡ Err e
passed_on (Ok a) e h = absurd h.1
passed_on (Err f) e h = ap Err h.1

-- ## What is granted, and what is refused

module _ {A : Type 0} (a : A) (f : ℕ → A) where
  pub granted_none : (n : ℕ) → n ≡ 0 → granted n a f ≡ a
  granted_none zero e = refl
  granted_none (suc k) e = absurd (omega (arith, e))

  pub granted_refused : (n : ℕ) → (n ≡ 0 → ⊥) → granted n a f ≡ f n
  granted_refused zero h = absurd (h refl)
  granted_refused (suc k) h = refl

  -- what holds of the granted answer and of every refusal holds of the answer
  pub granted_either : (P : A → Type 0) (n : ℕ) → (n ≡ 0 → P a) → ((k : ℕ) → P (f k)) → P (granted n a f)
  granted_either P zero g h = g refl
  granted_either P (suc k) g h = h (suc k)

  -- the refusal number in an answer is the one that it is given for
  pub granted_number : (number : A → ℕ) (n : ℕ) → (n ≡ 0 → number a ≡ 0) → ((k : ℕ) → number (f k) ≡ k) → number (granted n a f) ≡ n
  granted_number number zero g h = g refl
  granted_number number (suc k) g h = h (suc k)

  -- two grants that agree where nothing is refused give the same answer
  pub granted_alike : (n : ℕ) (b : A) → (n ≡ 0 → b ≡ a) → granted n b f ≡ granted n a f
  granted_alike zero b h = h refl
  granted_alike (suc k) b h = refl

-- ## One check

pub unless_none : (ok : Bool) (k : ℕ) → unless ok (suc k) ≡ 0 → ok ≡ true
unless_none true k e = refl
unless_none false k e = absurd (omega arith)

pub unless_refused : (ok : Bool) (n : ℕ) → (unless ok n ≡ 0 → ⊥) → unless ok n ≡ n
unless_refused true n h = absurd (h refl)
unless_refused false n h = refl

-- the check of a limit
module _ (a most : ℕ) where
  pub limit_kept : (k : ℕ) → unless (leb a most) (suc k) ≡ 0 → a ≤ most
  limit_kept k e = leb-true a most (unless_none (leb a most) k e)

  pub limit_passed : (n : ℕ) → (unless (leb a most) n ≡ 0 → ⊥) → most < a
  limit_passed n h = go (leb a most) refl
    where
      go : (b : Bool) → leb a most ≡ b → most < a
      go true e = absurd (h (rw e))
      go false e = leb-false a most e

-- the check of the room
module _ (due room : ℕ) where
  pub room_enough : due ≤ room → room_number due room ≡ 0
  room_enough h = ap (λ (b : Bool). unless b 10) (le-leb due room h)

  pub room_short : room < due → room_number due room ≡ 10
  room_short h = ap (λ (b : Bool). unless b 10) (lt-leb due room h)

-- ## One check after the other

-- the first check refuses
pub or_else_first : (a b n : ℕ) → n ≡ a → (n ≡ 0 → ⊥) → n ≡ or_else a b
or_else_first zero b n e h = absurd (h e)
or_else_first (suc a) b n e h = e

-- the first check passes, and the rest gives m
pub or_else_next : (a b n m : ℕ) → n ≡ a → n ≡ 0 → m ≡ b → m ≡ or_else a b
or_else_next zero b n m e z f = f
or_else_next (suc a) b n m e z f = absurd (omega arith)

-- nothing is refused exactly if no check refuses
pub or_else_none : (a b : ℕ) → or_else a b ≡ 0 → (a ≡ 0) × (b ≡ 0)
or_else_none zero b e = (refl, e)
or_else_none (suc a) b e = absurd (omega arith)

-- a second check that refuses only what the first refuses changes nothing
pub or_else_alone : (a b : ℕ) → (a ≡ 0 → b ≡ 0) → or_else a b ≡ a
or_else_alone zero b h = h refl
or_else_alone (suc a) b h = refl
