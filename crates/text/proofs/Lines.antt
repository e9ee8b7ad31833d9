-- Laws of lines: the pieces of a line, and the lines that are left in a loop.
use mathlib.Core.Path.{◌≡◌, sym, ap, ◌∙◌}
use mathlib.Core.List.{List, [], ◌∷◌, ◌++◌, flat_map, append_assoc}
use Prim.Native.Nat.{ℕ, ◌+◌, ◌<◌, ◌≤◌}
use native.Mathlib.Numerals.{add-one}
use lib.ListN.{length, drop, get_or, length-append, drop_of_length-le}
use lib.Seq.{drop-cons}
use Rattle.std.specs.Prelude.{None, Some}
use Rattle.bits.specs.Decimal.{ascii}
use Rattle.effects.specs.declared.Event.{Event}
use Rattle.reasons.specs.declared.Sight.{Sight}
use Rattle.reasons.specs.Reasons.{reason_in}
use Rattle.wording.specs.Text.{words_of}
use Rattle.text.specs.Text.{line_with, last_line, refusal_line}
use Rattle.text.specs.Pieces.{when, change, further, column_line, total}

-- ## The line of a record, in its halves

halves : (e : Event) → line_with e [] ≡ when e ++ change e 10
unfolding line_with when change
halves e = sym (simp append_assoc)

halves_and_end : (e : Event) (field : List ℕ) → line_with e (field ∷ []) ≡ when e ++ (change e 32 ++ (field ++ ascii "\n"))
unfolding line_with when change
halves_and_end e field = sym (simp append_assoc)

module _ (associations : List ℕ) (e : Event) where
  -- without a reason
  pub plain : column_line None associations e ≡ when e ++ change e 10
  unfolding further
  plain = halves e

  -- with its reason
  module _ (sight : Sight) where
    abbrev pub end : List ℕ
    end = words_of (reason_in sight associations e) ++ ascii "\n"

    pub told : column_line (Some sight) associations e ≡ when e ++ (change e 32 ++ end)
    unfolding further
    told = halves_and_end e (words_of (reason_in sight associations e))

-- ## The other lines, in pieces

pub refusal_pieces : (n p : ℕ) → refusal_line n p ≡ total (ascii "refused") n 32 ++ total (ascii "at") p 10
unfolding refusal_line total
refusal_pieces n p = sym (simp append_assoc)

module _ (r s l x : ℕ) where
  abbrev rows : List ℕ
  rows = total (ascii "rows") r 32

  abbrev scans : List ℕ
  scans = total (ascii "scans") s 32

  abbrev live : List ℕ
  live = total (ascii "live") l 32

  abbrev exercised : List ℕ
  exercised = total (ascii "exercised") x 10

  pub last_pieces : last_line r s l x ≡ rows ++ (scans ++ (live ++ exercised))
  unfolding last_line total
  last_pieces = sym (simp append_assoc)

  pub length_last : length (last_line r s l x) ≡ length rows + (length scans + (length live + length exercised))
  length_last = ap length last_pieces ∙ simp length-append

pub length-refusal : (n p : ℕ) → length (refusal_line n p) ≡ length (total (ascii "refused") n 32) + length (total (ascii "at") p 10)
length-refusal n p = ap length (refusal_pieces n p) ∙ length-append (total (ascii "refused") n 32) (total (ascii "at") p 10)

-- ## A loop over records: the lines that are left from record i on

module _ (line : Event → List ℕ) where
  abbrev pub left : List Event → (i : ℕ) → List ℕ
  left es i = flat_map line (drop i es)

  module _ (es : List Event) (i : ℕ) (d : Event) (more : i < length es) where
    pub left_turn : left es i ≡ line (get_or es i d) ++ left es (i + 1)
    unfolding flat_map
    left_turn = rw (add-one, drop-cons es i d)

    pub left_length : length (left es i) ≡ length (line (get_or es i d)) + length (left es (i + 1))
    left_length = ap length left_turn ∙ length-append (line (get_or es i d)) (left es (i + 1))

  pub left-none : (es : List Event) (i : ℕ) → length es ≤ i → left es i ≡ []
  unfolding flat_map
  left-none es i h = rw drop_of_length-le
