-- The sections of a file: a 16-bit count, then entries. Document 01, "Recordings" and the order under "Refusal numbers".
use Rattle.std.specs.Prelude.{ℕ, zero, suc, ◌+◌, Bool, cond, List, leb, length}
use Rattle.bits.specs.Numbers.{num_at}
use Rattle.settings.specs.declared.Known.{Known}
use Rattle.rules.specs.Limits.{between, most_effects}
use Rattle.settings.specs.Refusals.{granted}
use Rattle.settings.specs.Right.{effect_number, row_number}
use Rattle.layout.specs.Section.{Section}
use Rattle.layout.specs.Section.{Next, Refused}
use Rattle.layout.specs.declared.Kind.{Kind}
use Rattle.layout.specs.declared.Kind.TheVariants.{Block, Effects, Rows}
use Rattle.layout.specs.Entries.{block_at, block_check, effect_at, row_at}

-- ## Any section

-- n entries of w bytes from `at`, in a file of `len` bytes: for each entry its bytes are checked, then its fields
abbrev pub entries : (test : ℕ → ℕ) (w len n at : ℕ) → Section
entries test w len zero at = Next at
entries test w len (suc n) at = cond (leb (at + w) len) (granted (test at) (entries test w len n (at + w)) (λ number. Refused number at)) (Refused 1 len)

-- a section at `at`: the bytes of its count are checked, then its count, then its entries
unfoldable pub section : (test : ℕ → ℕ) (w least most number : ℕ) → List ℕ → (at : ℕ) → Section
section test w least most number s at =
    cond (leb (at + 2) (length s))
    (cond (between least most (num_at 2 s at)) (entries test w (length s) (num_at 2 s at) (at + 2)) (Refused number at))
    (Refused 1 (length s))

-- ## The kinds of section

-- the length of an entry, in bytes
abbrev pub width_of : Kind → ℕ
width_of Block = 4
width_of Effects = 6
width_of Rows = 24

-- the least count and the most
abbrev pub least_of : Kind → ℕ
least_of Block = 1
least_of Effects = 1
least_of Rows = 1

abbrev pub most_of : Kind → ℕ
most_of Block = 1
most_of Effects = most_effects
most_of Rows = 2048

abbrev pub count_ok : Kind → ℕ → Bool
count_ok kind n = between (least_of kind) (most_of kind) n

-- the refusal number of a wrong count
abbrev pub number_of : Kind → ℕ
number_of Block = 2
number_of Effects = 3
number_of Rows = 4

-- the refusal number of an entry, by what is known from the sections before it
abbrev pub test_of : Kind → Known → List ℕ → ℕ → ℕ
test_of Block k s at = block_check (block_at s at)
test_of Effects k s at = effect_number k.causes (effect_at s at)
test_of Rows k s at = row_number k (row_at (width_of Rows) s at)

abbrev pub section_of : Kind → Known → List ℕ → ℕ → Section
section_of kind k s at = section (test_of kind k s) (width_of kind) (least_of kind) (most_of kind) (number_of kind) s at
