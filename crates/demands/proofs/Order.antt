-- The refusal numbers that the crates below give are those of the tables: of the first case that applies.
use mathlib.Core.Path.{◌≡◌, refl, ap, ap₂, sym, ◌∙◌}
use mathlib.Core.Bool.{Bool, true, false, cond, not, ◌&&◌, ◌||◌}
use mathlib.Core.List.{List, [], ◌∷◌, ◌++◌}
use Prim.Native.Nat.{ℕ, zero, suc, ◌+◌, ◌*◌, ◌<◌}
use native.Mathlib.Omega.{arith}
use borrow.Author.Tests.{leb-true, leb-false, lt-ltb, le-ltb}
use lib.Dec.{leb, ltb}
use lib.ListN.{length}
use Rattle.bits.specs.Lists.{all_from}
use Rattle.bits.specs.Words.{bit_of}
use Rattle.settings.specs.declared.Settings.{Settings}
use Rattle.settings.specs.declared.Words.{Words}
use Rattle.settings.specs.declared.Row.{Row}
use Rattle.settings.specs.declared.Known.{Known}
use Rattle.rules.specs.Limits.{between, most_hold, most_scans}
use Rattle.settings.specs.Refusals.{unless, or_else, granted, room_number}
use Rattle.settings.specs.Right.{block_ok, count_ok, slot_ok, known_of, settings_number, words_ok, apart, several, words_number, row_number}
use Rattle.block.specs.declared.State.{State}
use Rattle.block.specs.State.{state_ok, state_number}
use Rattle.block.specs.Scan.{scans_number, input_number, once, events, scan_number}
use Rattle.block.specs.Held.{run, held_number}
use Rattle.layout.specs.declared.Kind.TheVariants.{Rows}
use Rattle.layout.specs.Sections as sections
use Rattle.layout.specs.Entries.{put_row}
use Rattle.recording.specs.Encode.{opening}
use Rattle.writing.specs.Answers.{written_number, written_place, written_length}
use Rattle.writing.specs.Writer.{opening_number, row_piece_number, written, after}
use Rattle.writing.proofs.Theorems.{written-number, refused_piece}
use Rattle.queries.specs.Queries.{query_number}
use Rattle.demands.specs.Reasons.{query_cases}
use Rattle.demands.specs.Order.{Case, ◌when◌, first_of, InOrder, settings_cases, words_cases, row_cases, state_cases, scans_cases, room_cases, held_cases, scan_cases, opening_cases, row_piece_cases}

-- ## Any table

-- every case has a refusal number that is not 0
abbrev Numbered : List Case → Type 0
Numbered [] = Unit {0}
Numbered (c ∷ cs) = (0 < c.number) × Numbered cs

-- n is the refusal number that this table gives
pub record Table (n : ℕ) (cs : List Case) : Type 0 where
  pub first : n ≡ first_of cs
  pub numbered : Numbered cs

-- a refusal number that is not 0 is given before others
given_first : (n m : ℕ) → 0 < n → n ≡ or_else n m
given_first zero m h = absurd (omega arith)
given_first (suc n) m h = refl

first_append : (xs ys : List Case) → Numbered xs → first_of (xs ++ ys) ≡ or_else (first_of xs) (first_of ys)
first_append [] ys h = refl
first_append (c ∷ cs) ys h = by-case c.applies (first_append cs ys h.1)
  where
    by-case : (b : Bool) → first_of (cs ++ ys) ≡ or_else (first_of cs) (first_of ys)
        → cond b c.number (first_of (cs ++ ys)) ≡ or_else (cond b c.number (first_of cs)) (first_of ys)
    by-case true e = given_first c.number (first_of ys) h.0
    by-case false e = e

numbered_append : (xs ys : List Case) → Numbered xs → Numbered ys → Numbered (xs ++ ys)
numbered_append [] ys h k = k
numbered_append (c ∷ cs) ys h k = (h.0, numbered_append cs ys h.1 k)

-- one refusal number, or else another, is that of one table and then the other
then : {a b : ℕ} {xs ys : List Case} → Table a xs → Table b ys → Table (or_else a b) (xs ++ ys)
then {xs = xs} {ys = ys} s t =
    record { first = ap₂ or_else s.first t.first ∙ sym (first_append xs ys s.numbered); numbered = numbered_append xs ys s.numbered t.numbered }

-- a check is a table of one case
check : (ok : Bool) (k : ℕ) → Table (unless ok (suc k)) (suc k when not ok ∷ [])
check true k = record { first = refl; numbered = (omega arith, tt) }
check false k = record { first = refl; numbered = (omega arith, tt) }

not_leb : (a b : ℕ) → not (leb a b) ≡ ltb b a
not_leb a b = go (leb a b) refl
  where
    go : (t : Bool) → leb a b ≡ t → not t ≡ ltb b a
    go true e = let h = leb-true a b e in sym (le-ltb b a (omega arith))
    go false e = let h = leb-false a b e in sym (lt-ltb b a (omega arith))

-- the check of a limit is a table of one case: the limit is passed
beyond : (a most k : ℕ) → Table (unless (leb a most) (suc k)) (suc k when ltb most a ∷ [])
beyond a most k = rw (← not_leb a most) (check (leb a most) k)

-- ## An answer in order

-- an answer is granted where n is 0, and else refused by n, with the lent bytes as they were
module _ {A : Type 0} (num : A → ℕ) (yes : A) (no : ℕ → A) (left out : List ℕ) (none : num yes ≡ 0) (own : (k : ℕ) → num (no k) ≡ k) where
  pub granted_in_order : (n : ℕ) (cs : List Case) → Table n cs → let a = granted n yes no in
      InOrder cs (num a) ((a ≡ no (num a)) × (granted n left (λ k. out) ≡ out))
  granted_in_order zero cs t = record { first = none ∙ t.first; otherwise = λ h. absurd (h none) }
  granted_in_order (suc n) cs t = record { first = own (suc n) ∙ t.first; otherwise = λ h. (ap no (sym (own (suc n))), refl) }

-- the writer's answer for a piece is in order
pub piece_in_order : (n : ℕ) (piece out : List ℕ) (cs : List Case) → Table (or_else n (room_number (length piece) (length out))) cs
    → let a = written n piece (length out) in InOrder cs (written_number a) ((written_place a ≡ 0) × (written_length a ≡ 0) × (after n piece out ≡ out))
piece_in_order n piece out cs t = record { first = written-number n piece (length out) ∙ t.first; otherwise = refused_piece n piece out }

-- ## The parts of the tables

pub settings_in_order : (st : Settings) → Table (settings_number st) (settings_cases st)
unfolding settings_number
settings_in_order st =
    then (check (block_ok st.causes st.options st.period) 1) (check (count_ok st.count && all_from (slot_ok (known_of st)) 0 st.effects) 2)

several_case : (bit2 many : Bool) → Table (unless (bit2 || not many) 6) (6 when (many && not bit2) ∷ [])
several_case true true = check true 5
several_case true false = check true 5
several_case false true = check false 5
several_case false false = check true 5

pub words_in_order : (k : Known) (w : Words) → Table (words_number k w) (words_cases k w)
unfolding words_number
words_in_order k w = then (check (words_ok k w) 3) (then (check (apart w) 4) (several_case (bit_of k.options 2) (several w)))

pub row_in_order : (k : Known) (row : Row) → Table (row_number k row) (row_cases k row)
unfolding row_number
row_in_order k row = then (check (leb 1 row.hold && leb row.hold most_hold) 3) (words_in_order k row.words)

pub state_in_order : (st : Settings) (x : State) → Table (state_number st x) (state_cases st x)
unfolding state_number
state_in_order st x = check (state_ok st x) 7

pub scans_in_order : (x : State) (row : Row) → Table (scans_number x.scans_done row.hold) (scans_cases x row)
scans_in_order x row = beyond (x.scans_done + row.hold) most_scans 8

-- ## The order at each entry point

-- the input is checked first, and then the room for so many bytes
run-in-order : (st : Settings) (row : Row) (x : State) (due room : ℕ) → Table (or_else (input_number st x row) (room_number due room))
    (settings_cases st ++ state_cases st x ++ row_cases (known_of st) row ++ scans_cases x row ++ room_cases due room)
unfolding input_number
run-in-order st row x due room =
    then (then (settings_in_order st) (then (state_in_order st x) (then (row_in_order (known_of st) row) (scans_in_order x row)))) (beyond due room 9)

pub held_in_order : (st : Settings) (row : Row) (x : State) (room : ℕ) → Table (held_number st row x room) (held_cases st row x room)
unfolding held_number
held_in_order st row x room = run-in-order st row x (12 * length (run st row x).events) room

pub scan_in_order : (st : Settings) (w : Words) (x : State) (room : ℕ) → Table (scan_number st w x room) (scan_cases st w x room)
unfolding scan_number
scan_in_order st w x room = run-in-order st (once w) x (12 * length (events st w x)) room

pub opening_in_order : (st : Settings) (rows room : ℕ)
    → Table (or_else (opening_number st rows) (room_number (length (opening st rows)) room)) (opening_cases st rows room)
unfolding opening_number
opening_in_order st rows room = then (then (settings_in_order st) (check (sections.count_ok Rows rows) 3)) (beyond (length (opening st rows)) room 9)

pub row_piece_in_order : (st : Settings) (row : Row) (room : ℕ)
    → Table (or_else (row_piece_number st row) (room_number (length (put_row row)) room)) (row_piece_cases st row room)
unfolding row_piece_number
row_piece_in_order st row room = then (then (settings_in_order st) (row_in_order (known_of st) row)) (beyond (length (put_row row)) room 9)

pub query_in_order : (st : Settings) (w : Words) (x : State) (e : ℕ) → Table (query_number st w x e) (query_cases st w x e)
unfolding query_number input_number
query_in_order st w x e =
    then (then (settings_in_order st) (then (state_in_order st x) (then (row_in_order (known_of st) (once w)) (scans_in_order x (once w))))) (check (between 1 st.count e) 2)
