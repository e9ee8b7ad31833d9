-- Entries that pass one after the other, for any test of an entry, any width and any count: those left result in what all result in.
use mathlib.Core.Path.{◌≡◌, refl, sym, ◌∙◌}
use Prim.Native.Nat.{ℕ, zero, suc, ◌+◌, ◌-◌, ◌*◌, ◌≤◌, ◌<◌}
use native.Mathlib.Omega.{arith}
use native.Mathlib.Numerals.{add-one, sub-one}
use native.Mathlib.Nat.{mul-suc, mul-zero, add-zero}
use borrow.Author.Tests.{le-leb}
use Rattle.layout.specs.Sections.{entries}
use Rattle.layout.specs.Barred.{Skipped}

module _ (test : ℕ → ℕ) (w len : ℕ) where
  pub entries_step : (n at k : ℕ) → 0 < n → at + w ≤ len → k ≡ test at → k ≡ 0 → entries test w len n at ≡ entries test w len (n - 1) (at + w)
  entries_step zero at k p h e b = absurd (omega arith)
  entries_step (suc n) at k p h e b = rw (le-leb (at + w) len h, ← e, b, sub-one)

  -- no entry is skipped at the start, and an entry that passes is skipped, too
  pub none_skipped : (n at : ℕ) → at ≤ len → Skipped test w len n at 0
  none_skipped n at h =
      let all : n - 0 ≡ n = omega arith in
      record { some = omega arith; inside = rw (mul-zero, add-zero) h; same = rw (mul-zero, add-zero, all) }

  pub one-skipped : (n at i : ℕ) → i < n → at + w * i + w ≤ len → test (at + w * i) ≡ 0 → Skipped test w len n at i → Skipped test w len n at (i + 1)
  one-skipped n at i h k z s =
      let less : n - (i + 1) ≡ n - i - 1 = omega arith in
      let place : at + w * (i + 1) ≡ at + w * i + w = rw add-one (omega (arith, mul-suc w i)) in
      record {
        some = omega arith;
        inside = rw place k;
        same = rw (less, place) (sym (entries_step (n - i) (at + w * i) 0 (omega arith) k (sym z) refl) ∙ s.same);
      }
