-- Where a byte of a file stands, by the counts in the file alone. Document 01, "Recordings": three sections, each a 16-bit count and
-- then its entries.
use Rattle.std.specs.Prelude.{ℕ, ◌+◌, ◌-◌, ◌*◌, ◌/◌, ◌^◌, cond, List, leb, ltb, length}
use Rattle.bits.specs.Numbers.{num_at}
use Rattle.layout.specs.declared.Kind.{Kind}
use Rattle.layout.specs.declared.Kind.TheVariants.{Block, Effects, Rows}
use Rattle.layout.specs.Sections.{width_of}
use Rattle.findings.specs.declared.Spot.{Spot}
use Rattle.findings.specs.declared.Spot.TheVariants.{Count, Entry, Past}

-- the count at a place; none where the bytes end before it does
abbrev pub count_at : List ℕ → ℕ → ℕ
count_at s at = cond (leb (at + 2) (length s)) (num_at 2 s at) 0

-- the place after the section at `at`
abbrev pub after_section : Kind → List ℕ → ℕ → ℕ
after_section kind s at = at + 2 + width_of kind * count_at s at

-- where each section starts, and where the last one ends
abbrev pub section_at : Kind → List ℕ → ℕ
section_at Block s = 0
section_at Effects s = after_section Block s 0
section_at Rows s = after_section Effects s (after_section Block s 0)

abbrev pub end_of : List ℕ → ℕ
end_of s = after_section Rows s (section_at Rows s)

-- the first byte of an entry, counted from 1
abbrev pub entry_at : Kind → List ℕ → ℕ → ℕ
entry_at kind s entry = section_at kind s + 2 + width_of kind * (entry - 1)

-- a place within the section at `at`
abbrev pub spot_in : Kind → (at p : ℕ) → Spot
spot_in kind at p = cond (ltb p (at + 2)) (Count kind) (Entry kind ((p - (at + 2)) / width_of kind + 1))

-- any place
unfoldable pub spot_of : List ℕ → ℕ → Spot
spot_of s p =
    cond (ltb p (section_at Effects s)) (spot_in Block 0 p)
    (cond (ltb p (section_at Rows s)) (spot_in Effects (section_at Effects s) p)
    (cond (ltb p (end_of s)) (spot_in Rows (section_at Rows s) p) Past))

-- ## Bounds, for sums that do not wrap: no promise cites them

-- the largest count that 16 bits can hold
abbrev pub most_count : ℕ
most_count = 65535

-- no section of any bytes starts beyond this
abbrev pub farthest : ℕ
farthest = 2 ^ 32
