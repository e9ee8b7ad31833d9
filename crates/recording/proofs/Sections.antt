-- What a section results in, case by case, for any test of an entry, any width and any count: by recursion on the entries left.
use mathlib.Core.Path.{◌≡◌, refl}
use mathlib.Core.Bool.{Bool, true, false, ◌&&◌}
use mathlib.Core.List.{List}
use Prim.Native.Nat.{ℕ, zero, suc, ◌+◌, ◌*◌, ◌≤◌, ◌<◌}
use native.Mathlib.Omega.{arith}
use native.Mathlib.Nat.{mul-suc, mul-zero, add-zero}
use borrow.Author.Tests.{le-leb, lt-leb, leb-true}
use lib.Dec.{leb}
use lib.ListN.{length}
use Rattle.bits.specs.Numbers.{num_at}
use Rattle.bits.proofs.Lists.{and_left, and_right}
use Rattle.settings.proofs.Refusals.{granted_refused}
use Rattle.settings.specs.declared.Known.{Known}
use Rattle.layout.specs.Section as S
use Rattle.layout.specs.declared.Kind.{Kind}
use Rattle.layout.specs.Sections.{entries, section, width_of, least_of, most_of, number_of, count_ok, test_of, section_of}
use Rattle.recording.specs.Refused.{FirstRight, Passes}

module _ (test : ℕ → ℕ) (w len : ℕ) where
  pub entries_short : (n at : ℕ) → 0 < n → len < at + w → entries test w len n at ≡ S.Refused 1 len
  entries_short zero at p h = absurd (omega arith)
  entries_short (suc n) at p h = rw (lt-leb (at + w) len h)

  pub entries_bad : (n at k : ℕ) → 0 < n → at + w ≤ len → k ≡ test at → (k ≡ 0 → ⊥) → entries test w len n at ≡ S.Refused k at
  entries_bad zero at k p h e b = absurd (omega arith)
  entries_bad (suc n) at k p h e b = rw (le-leb (at + w) len h, ← e) (granted_refused _ (λ number. S.Refused number at) k b)

  pub entries_none : (n at : ℕ) → n ≤ 0 → entries test w len n at ≡ S.Next at
  entries_none zero at h = refl
  entries_none (suc n) at h = absurd (omega arith)

module _ (test : ℕ → ℕ) (w lo hi number : ℕ) (s : List ℕ) (at : ℕ) where
  pub section_short : length s < at + 2 → section test w lo hi number s at ≡ S.Refused 1 (length s)
  unfolding section
  section_short h = rw (lt-leb (at + 2) (length s) h)

  module _ (n : ℕ) (h : at + 2 ≤ length s) (e : n ≡ num_at 2 s at) where
    pub section_count : (leb lo n && leb n hi) ≡ false → section test w lo hi number s at ≡ S.Refused number at
    unfolding section
    section_count b = rw (le-leb (at + 2) (length s) h, ← e, b)

    pub section_entries : (leb lo n && leb n hi) ≡ true → section test w lo hi number s at ≡ entries test w (length s) n (at + 2)
    unfolding section
    section_entries b = rw (le-leb (at + 2) (length s) h, ← e, b)

-- ---- sections that pass

never : {X : Type 0} (k p e : ℕ) → S.Refused k p ≡ S.Next e → X
never k p e h = let z : ◌≡◌ {A = ℕ} 0 1 = cc in absurd (omega arith)

module _ (test : ℕ → ℕ) (w len : ℕ) where
  -- no entry has been seen yet; and a valid entry stands before valid ones
  pub none_yet : (at : ℕ) → at ≤ len → FirstRight test w len at 0
  none_yet at h = record { there = omega (arith, mul-zero w); right = λ j l. absurd (omega arith) }

  pub one_before : (at i : ℕ) → test at ≡ 0 → FirstRight test w len (at + w) i → FirstRight test w len at (suc i)
  one_before at i r h = record { there = omega (arith, mul-suc w i, h.there); right = go }
    where
      go : (j : ℕ) → j < suc i → test (at + w * j) ≡ 0
      go zero l = rw (mul-zero, add-zero) r
      go (suc j) l = let e : at + w * suc j ≡ at + w + w * j = omega (arith, mul-suc w j) in rw e (h.right j (omega arith))

  -- what n entries that pass show
  abbrev Passed : (n at e : ℕ) → Type 0
  Passed n at e = FirstRight test w len at n × (e ≡ at + w * n)

  one_more : (n at e : ℕ) → (at + w ≤ len → entries test w len n (at + w) ≡ S.Next e → Passed n (at + w) e)
      → (b : Bool) → leb (at + w) len ≡ b → (k : ℕ) → test at ≡ k → entries test w len (suc n) at ≡ S.Next e → Passed (suc n) at e
  one_more n at e ih false p k r q = never 1 len e (rw p at q)
  one_more n at e ih true p (suc k) r q = never (suc k) at e (rw (p, r) at q)
  one_more n at e ih true p zero r q =
      let t = ih (leb-true (at + w) len p) (rw (p, r) at q) in
      (one_before at n r t.0, omega (arith, mul-suc w n, t.1))

  entries_next : (n at e : ℕ) → at ≤ len → entries test w len n at ≡ S.Next e → Passed n at e
  entries_next zero at e h q =
      let z : at ≡ e = cc in
      (none_yet at h, rw mul-zero (omega arith))
  entries_next (suc n) at e h q = one_more n at e (entries_next n (at + w) e) (leb (at + w) len) refl (test at) refl q

module _ (kind : Kind) (k : Known) (s : List ℕ) (at e : ℕ) where
  count-cases : (b : Bool) → leb (at + 2) (length s) ≡ b → (d : Bool) → count_ok kind (num_at 2 s at) ≡ d → section_of kind k s at ≡ S.Next e → Passes kind k s at e
  unfolding section
  count-cases false p d r q = never 1 (length s) e (rw p at q)
  count-cases true p false r q = never (number_of kind) at e (rw (p, r) at q)
  count-cases true p true r q =
      let room = leb-true (at + 2) (length s) p in
      let t = entries_next (test_of kind k s) (width_of kind) (length s) (num_at 2 s at) (at + 2) e room (rw (p, r) at q) in
      record { room = room; count = r; entries = t.0; next = t.1 }

  -- what a section that passes shows
  pub section_next : section_of kind k s at ≡ S.Next e → Passes kind k s at e
  section_next = count-cases (leb (at + 2) (length s)) refl (count_ok kind (num_at 2 s at)) refl

  pub passes_inside : Passes kind k s at e → e ≤ length s
  passes_inside h = omega (arith, h.next, h.entries.there)

-- a valid count is within its limits
pub count-within : (kind : Kind) (n : ℕ) → count_ok kind n ≡ true → (least_of kind ≤ n) × (n ≤ most_of kind)
count-within kind n h = (
  leb-true (least_of kind) n (and_left (leb (least_of kind) n) (leb n (most_of kind)) h),
  leb-true n (most_of kind) (and_right (leb (least_of kind) n) (leb n (most_of kind)) h),
)
