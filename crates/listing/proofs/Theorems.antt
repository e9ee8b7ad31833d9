-- What is promised of a listing: the pieces that the code gives, joined, are the listing of the definition. Document 01, "One
-- session, whole". `Loop` has the laws for a caller's loop: it goes on, ends and stops with the answer of which the closing is
-- made.
use mathlib.Core.Path.{◌≡◌, refl, sym, ap, ◌∙◌}
use mathlib.Core.Bool.{Bool, true, false, cond}
use mathlib.Core.List.{List, [], ◌++◌, append-nil, flat_map}
use Prim.Native.Nat.{ℕ, zero, suc, ◌+◌, ◌≤◌, ◌<◌}
use native.Mathlib.Numerals.{add-one}
use native.Mathlib.Omega.{arith}
use Rattle.bits.proofs.Lists.{flat_map-append}
use Rattle.settings.specs.Refusals.{granted}
use Rattle.settings.proofs.Refusals.{granted_refused}
use Rattle.recording.specs.Answers.{number, place, row_count_of}
use Rattle.recording.specs.Reader.{reading}
use Rattle.recording.specs.Accepted.{Accepted}
use Rattle.rerun.specs.Answer.{Turn}
use Rattle.rerun.specs.Replay.{Replay, Outcome, replay, answered, first_rows, row_run, events_of}
use Rattle.rerun.specs.Turn.{answer_of}
use Rattle.rerun.proofs.Files.{by_rows, all_the_rows, counted, next-number, no_rows, none_refused_before, refused_gives_nothing}
use Rattle.rerun.proofs.Theorems.{events_are_the_rows_joined}
use Rattle.reasoned.specs.Reasoned.{reasoned_row, reasoned_rows, reasoned}
use Rattle.text.specs.Pieces.{header_of}
use Rattle.text.specs.Text.{line, lines, refusal_line}
use Rattle.listing.specs.Listing.{closing, listing}
use Rattle.listing.specs.Why.{reason_line, reason_lines, why_listing}
use Rattle.listing.specs.Printed.{all_lines, listing_of, opening, lines_of_row, row_lines, rows_lines, Last}

-- ## Which listing it is

-- without reasons it is that of document 01, and with reasons that of document 02, L4
pub the_listing_of_document_01 : (s : List ℕ) → listing_of false s ≡ listing s
unfolding listing_of listing
the_listing_of_document_01 s = refl

pub the_listing_with_reasons : (s : List ℕ) → listing_of true s ≡ why_listing s
unfolding listing_of why_listing
the_listing_with_reasons s = refl

-- ## Its pieces

-- the listing of a refused file is its opening
pub a_refused_file_is_its_opening : (why : Bool) (s : List ℕ) → (Accepted s → ⊥) → opening why (reading s).answer ≡ listing_of why s
unfolding listing_of
a_refused_file_is_its_opening why s h =
    let a = (reading s).answer in
    granted_refused (header_of why) (λ n. refusal_line n (place a)) (number a) h
    ∙ sym (granted_refused (header_of why ++ all_lines why s ++ closing (answered (replay s))) (λ n. refusal_line n (place a)) (number a) h)

-- the lines of the first n rows, where none is refused
abbrev lines_of_rows : (why : Bool) → List ℕ → ℕ → List ℕ
lines_of_rows why s n = cond why (reason_lines (reasoned_rows s n)) (lines (events_of s n))

no_rows_no_lines : (why : Bool) (s : List ℕ) → lines_of_rows why s 0 ≡ []
unfolding flat_map
no_rows_no_lines true s = refl
no_rows_no_lines false s = refl

one_row_more : (why : Bool) (s : List ℕ) (n : ℕ) → lines_of_rows why s (suc n) ≡ lines_of_rows why s n ++ lines_of_row why s n
one_row_more true s n = flat_map-append reason_line (reasoned_rows s n) (reasoned_row s n)
one_row_more false s n = flat_map-append line (events_of s n) (row_run s n).events

module _ (why : Bool) (s : List ℕ) where
  abbrev count : ℕ
  count = row_count_of (reading s).answer

  -- one row more: its lines follow, or it was refused and has none
  more : (i n : ℕ) → i < count → (first_rows s (i + 1)).number ≡ n
      → lines_of_rows why s (first_rows s i).replay.rows ++ granted n (lines_of_row why s i) (λ k. []) ≡ lines_of_rows why s (first_rows s (i + 1)).replay.rows
  more i zero l z =
      let before = counted s i (omega (arith, l)) (none_refused_before s i z) in
      let now : (first_rows s (i + 1)).replay.rows ≡ suc i = counted s (i + 1) (omega (arith, l)) z ∙ add-one i in
      rw (before, now) (sym (one_row_more why s i))
  more i (suc n) l e =
      append-nil (lines_of_rows why s (first_rows s i).replay.rows)
      ∙ ap (λ (r : Replay). lines_of_rows why s r.rows) (sym (refused_gives_nothing s i l (λ z. omega (arith, e, z))))

  lines_of_first : (i : ℕ) → i ≤ count → rows_lines why s i ≡ lines_of_rows why s (first_rows s i).replay.rows
  lines_of_first zero h = rw (no_rows s) (sym (no_rows_no_lines why s))
  lines_of_first (suc i) h =
      ap (λ (l : List ℕ). l ++ row_lines why s i) (lines_of_first i (omega arith))
      ∙ more i (first_rows s (i + 1)).number (omega arith) refl
      ∙ ap (λ (n : ℕ). lines_of_rows why s (first_rows s n).replay.rows) (add-one i)

  -- the rows that have run are those that the replay counts
  rows_counted : Accepted s → (first_rows s (replay s).replay.rows).replay.rows ≡ (replay s).replay.rows
  rows_counted accepted =
      rw (all_the_rows s accepted)
      (by_rows s (λ (o : Outcome). (first_rows s o.replay.rows).replay.rows ≡ o.replay.rows)
      (rw (no_rows s))
      (λ i b z. rw b.2 (counted s (i + 1) (omega (arith, b.0)) (next-number s i b.0 b.1 ∙ z)))
      (λ i b h. b.3)
      count (omega arith))

  module _ (accepted : Accepted s) where
    lines_of_all : (b : Bool) → lines_of_rows b s (replay s).replay.rows ≡ all_lines b s
    unfolding reasoned
    lines_of_all true = refl
    lines_of_all false = ap lines (sym (events_are_the_rows_joined s accepted))

    -- the lines of all rows, joined, are those of all records of the replay
    pub all_rows_joined : rows_lines why s count ≡ all_lines why s
    all_rows_joined =
        lines_of_first count (omega arith) ∙ ap (λ (o : Outcome). lines_of_rows why s o.replay.rows) (sym (all_the_rows s accepted)) ∙ lines_of_all why

    -- and so are those of the rows that have run
    pub rows_joined : rows_lines why s (replay s).replay.rows ≡ all_lines why s
    rows_joined =
        lines_of_first (replay s).replay.rows few ∙ ap (lines_of_rows why s) (rows_counted accepted) ∙ lines_of_all why
      where
        few : (replay s).replay.rows ≤ count
        few = rw (all_the_rows s accepted) (by_rows s (λ (o : Outcome). o.replay.rows ≤ count) (omega arith) (λ i b z. omega (arith, b.0, b.2)) (λ i b h. b.3) count (omega arith))

    -- the opening, the lines of the rows and the closing are the listing
    pub pieces_are_the_listing : (t : Turn) → Last s t → opening why (reading s).answer ++ rows_lines why s t.run.rows ++ closing (answer_of t) ≡ listing_of why s
    unfolding listing_of
    pieces_are_the_listing t last =
        let r : rows_lines why s t.run.rows ≡ all_lines why s = ap (rows_lines why s) last.rows_are ∙ rows_joined in
        rw (last.answer_is, r, accepted)
