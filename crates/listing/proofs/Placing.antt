-- A piece at a place of a lent buffer: what is answered where the buffer is full, and where it is not.
use Rattle.std.proofs.Common.{Result}
use mathlib.Core.Path.{◌≡◌, refl, sym, ap, ap₂, ◌∙◌}
use mathlib.Core.Bool.{Bool, true, false, true≢false}
use mathlib.Core.List.{List}
use Prim.Native.Nat.{ℕ, ◌+◌, ◌-◌, ◌≤◌, ◌<◌}
use native.Mathlib.Omega.{arith}
use borrow.Author.Tests.{leb-true, leb-false, le-leb, lt-leb}
use lib.Dec.{leb}
use lib.ListN.{length}
use lib.Seq.{sets}
use Rattle.std.specs.Prelude.{Option, None, Some}
use Rattle.rerun.specs.declared.Run.{Run}
use Rattle.rerun.specs.Answer.{as_turn}
use Rattle.rerun.specs.declared.Turn.{Turn as RowTurn}
use Rattle.rerun.specs.declared.Stopped.{Stopped}
use Rattle.rerun.specs.Turn.{Going, RowDone}
use Rattle.rerun.proofs.Once.{turn_once}
use Rattle.listing.specs.declared.Printed.{Printed}
use Rattle.text.specs.Room.{most_piece}
use Rattle.listing.specs.Printed.{has_room, placed, written, place_of, PrintedPiece, printed_of, row_lines, PrintedRow}
use Rattle.bits.proofs.Puts.{Put}

-- ## The test

-- a buffer with fewer bytes than a piece may take has no room
pub too_short : (n at : ℕ) → n < most_piece → false ≡ has_room n at
too_short n at h = sym (lt-leb (at + most_piece) n (omega arith))

pub less_a_piece : (n at : ℕ) → most_piece ≤ n → leb at (n - most_piece) ≡ has_room n at
less_a_piece n at h = go (leb at (n - most_piece)) refl
  where
    go : (b : Bool) → leb at (n - most_piece) ≡ b → b ≡ has_room n at
    go true e = let l = leb-true at (n - most_piece) e in sym (le-leb (at + most_piece) n (omega arith))
    go false e = let l = leb-false at (n - most_piece) e in sym (lt-leb (at + most_piece) n (omega arith))

-- ## The answers

module _ (out : List ℕ) (at : ℕ) (b : Bool) (is : b ≡ has_room (length out) at) where
  pub fits : b ≡ true → at + most_piece ≤ length out
  fits h = leb-true (at + most_piece) (length out) (sym is ∙ h)

  module _ (text : List ℕ) where
    pub full : b ≡ false → (◌≡◌ {A = Option ℕ} None (place_of (written (length out) at text))) × (out ≡ placed out at text)
    full h = let e = sym is ∙ h in (rw e, rw e)

    pub whole : b ≡ true → (out' : List ℕ) (r : ℕ) → r ≡ at + length text → out' ≡ sets out at text
        → (Some r ≡ place_of (written (length out) at text)) × (out' ≡ placed out at text)
    whole h out' r p q = let e = sym is ∙ h in (rw (e, p), rw e q)

  -- ## A row

  module _ {s : List ℕ} {run : Run} {why : Bool} where
    -- where the buffer is full, the row is not run
    pub full_row : {array : List ℕ} → Going s run array → b ≡ false
        → PrintedRow why s run at out (printed_of run at None) array out
    full_row g h =
        let e = sym is ∙ h in
        record { full_is = rw e; at-is = rw e; within = λ l. l; text = rw e; number_is = rw e; records_are = rw e; going = g; rows_are = rw e }

    -- where there is room, the row is run, and results in u
    pub whole_row : {space space' array' out' : List ℕ} {r : ℕ} (u : Result RowTurn Stopped) → RowDone s run space (as_turn u) array' space' → b ≡ true
        → Put out out' at r (row_lines why s run.rows) → r ≤ length out → PrintedRow why s run at out (printed_of run at (Some (record { at = r; turn = u }))) array' out'
    whole_row u d h p l =
        let e = sym is ∙ h in
        record {
          full_is = rw e;
          at-is = rw e p.0;
          within = λ k. l;
          text = rw e p.1;
          number_is = rw e d.number_is;
          records_are = rw e d.records_are;
          going = d.going;
          rows_are = rw e d.rows_are;
        }

-- a record of a row's answer is that of one answer only
pub printed_once : (run : Run) (at : ℕ) (r q : Option Printed) → printed_of run at r ≡ printed_of run at q → r ≡ q
printed_once run at None None e = refl
printed_once run at None (Some q) e = absurd (true≢false (ap (λ (x : PrintedPiece). x.full) e))
printed_once run at (Some p) None e = absurd (true≢false (sym (ap (λ (x : PrintedPiece). x.full) e)))
printed_once run at (Some p) (Some q) e =
    ap₂ (λ (n : ℕ) (t : Result RowTurn Stopped). Some (record { at = n; turn = t })) (ap (λ (x : PrintedPiece). x.at) e)
    (turn_once p.turn q.turn (ap (λ (x : PrintedPiece). x.turn) e))
