-- A section that is valid throughout passes: the converse of what `recording` shows of sections.
use mathlib.Core.Path.{◌≡◌}
use mathlib.Core.List.{List}
use Prim.Native.Nat.{ℕ, zero, suc, ◌+◌, ◌*◌, ◌≤◌}
use native.Mathlib.Omega.{arith}
use native.Mathlib.Nat.{mul-suc, mul-zero, add-zero}
use borrow.Author.Tests.{le-leb}
use lib.ListN.{length}
use Rattle.bits.specs.Numbers.{num_at}
use Rattle.settings.specs.declared.Known.{Known}
use Rattle.settings.specs.Right.{known_of}
use Rattle.layout.specs.Section as S
use Rattle.layout.specs.declared.Kind.{Kind}
use Rattle.layout.specs.declared.Kind.TheVariants.{Block, Effects, Rows}
use Rattle.layout.specs.Sections.{entries, section, width_of, least_of, most_of, test_of, section_of}
use Rattle.recording.specs.Reader.{nothing_known, known_of_block, settings_at}
use Rattle.recording.specs.Refused.{FirstRight, Passes}

module _ (test : ℕ → ℕ) (w len : ℕ) where
  -- of valid entries, the first is valid, and so are those after it
  pub first_of : (at i : ℕ) → FirstRight test w len at (suc i) → test at ≡ 0
  first_of at i h = rw (mul-zero, add-zero) at (h.right 0 (omega arith))

  pub rest_of : (at i : ℕ) → FirstRight test w len at (suc i) → FirstRight test w len (at + w) i
  rest_of at i h =
      record {
        there = omega (arith, mul-suc w i, h.there);
        right = λ j l. let e : at + w + w * j ≡ at + w * suc j = omega (arith, mul-suc w j) in rw e (h.right (suc j) (omega arith));
      }

  entries_pass : (n at : ℕ) → FirstRight test w len at n → entries test w len n at ≡ S.Next (at + w * n)
  entries_pass zero at h = rw (mul-zero, add-zero)
  entries_pass (suc n) at h =
      let end : at + w * suc n ≡ at + w + w * n = omega (arith, mul-suc w n) in
      rw (le-leb (at + w) len (omega (arith, end, h.there)), first_of at n h, end) (entries_pass n (at + w) (rest_of at n h))

module _ (kind : Kind) (k : Known) (s : List ℕ) (at : ℕ) where
  pub section_pass : (e : ℕ) → Passes kind k s at e → section_of kind k s at ≡ S.Next e
  unfolding section
  section_pass e h =
      rw (le-leb (at + 2) (length s) h.room, h.count, h.next) (entries_pass (test_of kind k s) (width_of kind) (length s) (num_at 2 s at) (at + 2) h.entries)

  -- a section of n valid entries passes
  pub passes_by : (n : ℕ) → num_at 2 s at ≡ n → least_of kind ≤ n → n ≤ most_of kind → at + 2 ≤ length s
      → FirstRight (test_of kind k s) (width_of kind) (length s) (at + 2) n → Passes kind k s at (at + 2 + width_of kind * n)
  passes_by n c low top room h =
      record { room = room; count = rw (c, le-leb (least_of kind) n low, le-leb n (most_of kind) top); entries = rw c h; next = rw c }

-- the three sections of a file
module _ (s : List ℕ) (e : ℕ) where
  pub block_pass : Passes Block nothing_known s 0 e → section_of Block nothing_known s 0 ≡ S.Next e
  block_pass = section_pass Block nothing_known s 0 e

  pub effects_pass : (r : ℕ) → Passes Effects (known_of_block s) s e r → section_of Effects (known_of_block s) s e ≡ S.Next r
  effects_pass = section_pass Effects (known_of_block s) s e

  pub rows_pass : (r end : ℕ) → Passes Rows (known_of (settings_at s e)) s r end → section_of Rows (known_of (settings_at s e)) s r ≡ S.Next end
  rows_pass r = section_pass Rows (known_of (settings_at s e)) s r
