-- The quick test of rows: the bits that no valid row has, made once for all rows, and what the test answers. A row is three numbers of
-- eight bytes: the hold and two words, four words, four words. Document 01, "Settings, row, state" and "Recordings". No entry point's
-- contract cites this page.
use Rattle.std.specs.Prelude.{ℕ, ◌+◌, ◌*◌, ◌-◌, ◌^◌, ◌≤◌, ◌≡◌}
use Rattle.bits.specs.Words.{bit_of}
use Rattle.settings.specs.declared.Known.{Known}
use Rattle.layout.specs.declared.quick.Bars.{Bars}
use Rattle.layout.specs.Sections.{entries}

-- the bits of a word at n and above
abbrev pub absent_of : ℕ → ℕ
absent_of n = 65536 - 2 ^ n

-- four words as one number
abbrev pub four_of : (a b c d : ℕ) → ℕ
four_of a b c d = ((a * 65536 + b) * 65536 + c) * 65536 + d

-- words 1 to 3 have no bit of an absent cause, words 4 to 7, 9 and 10 none of an absent effect, and word 8 none but the lowest
unfoldable pub bars_of : Known → Bars
bars_of k =
    record {
      first = four_of 0 0 (absent_of k.causes) (absent_of k.causes);
      second = four_of (absent_of k.causes) (absent_of k.count) (absent_of k.count) (absent_of k.count);
      third = four_of (absent_of k.count) (absent_of 1) (absent_of k.count) (absent_of k.count);
      several = bit_of k.options 2;
    }

-- the first r of n entries of w bytes from `at`, in a file of `len` bytes, are whole and valid: all n result in what the others result in
pub record Skipped (test : ℕ → ℕ) (w len n at r : ℕ) : Type 0 where
  pub some : r ≤ n
  pub inside : at + w * r ≤ len
  pub same : entries test w len (n - r) (at + w * r) ≡ entries test w len n at
