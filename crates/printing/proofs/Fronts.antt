-- The listing so far, the opening and the lines of first rows, is a front of the listing, also where a later row is refused.
use mathlib.Core.Path.{◌≡◌, sym, ap, ◌∙◌}
use mathlib.Core.Bool.{Bool}
use mathlib.Core.List.{List, [], ◌++◌, append_assoc, append-nil}
use Prim.Native.Nat.{ℕ, zero, suc, ◌+◌, ◌-◌, ◌≤◌}
use native.Mathlib.Nat.{add-zero, add-suc}
use native.Mathlib.Omega.{arith}
use Rattle.recording.specs.Accepted.{Accepted}
use Rattle.recording.specs.Answers.{row_count_of}
use Rattle.recording.specs.Reader.{reading}
use Rattle.rerun.specs.Replay.{replay, answered}
use Rattle.listing.specs.Listing.{closing}
use Rattle.listing.specs.Printed.{listing_of, opening, row_lines, rows_lines}
use Rattle.listing.proofs.Theorems.{all_rows_joined}
use Rattle.printing.specs.Filled.{so_far}

-- before the first row it is the opening
pub so_far_at_first : (why : Bool) (s : List ℕ) {n : ℕ} → n ≡ 0 → opening why (reading s).answer ≡ so_far why s n
so_far_at_first why s e = rw e (sym (append-nil (opening why (reading s).answer)))

module _ (why : Bool) (s : List ℕ) where
  abbrev count : ℕ
  count = row_count_of (reading s).answer

  -- the lines of n rows from row i on
  abbrev between : (i n : ℕ) → List ℕ
  between i zero = []
  between i (suc n) = between i n ++ row_lines why s (i + n)

  in_two : (i n : ℕ) → rows_lines why s (i + n) ≡ rows_lines why s i ++ between i n
  in_two i zero = ap (rows_lines why s) (add-zero i) ∙ sym (append-nil (rows_lines why s i))
  in_two i (suc n) =
      ap (rows_lines why s) (add-suc i n)
      ∙ ap (λ (l : List ℕ). l ++ row_lines why s (i + n)) (in_two i n)
      ∙ append_assoc (rows_lines why s i) (between i n) (row_lines why s (i + n))

  module _ (accepted : Accepted s) where
    abbrev end : List ℕ
    end = closing (answered (replay s))

    all-rows : so_far why s count ++ end ≡ listing_of why s
    unfolding listing_of
    all-rows = rw (all_rows_joined why s accepted, accepted)

    -- what is left of the listing after i rows
    abbrev pub after : (i : ℕ) → List ℕ
    after i = between i (count - i) ++ end

    pub so_far_is_a_front : (i : ℕ) → i ≤ count → so_far why s i ++ after i ≡ listing_of why s
    so_far_is_a_front i h =
        let sum : i + (count - i) ≡ count = omega arith in
        sym (append_assoc (so_far why s i) (between i (count - i)) end)
        ∙ ap (λ (l : List ℕ). l ++ end)
        (append_assoc (opening why (reading s).answer) (rows_lines why s i) (between i (count - i))
        ∙ ap (λ (l : List ℕ). opening why (reading s).answer ++ l) (sym (in_two i (count - i)) ∙ ap (rows_lines why s) sum))
        ∙ all-rows
