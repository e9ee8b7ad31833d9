-- What a caller's loop over the rows knows after each of them: it goes on, ends after the last row, or stops at a refusal.
use mathlib.Core.Path.{◌≡◌, refl, sym, ap, ◌∙◌}
use mathlib.Core.Bool.{Bool, true, false}
use mathlib.Core.List.{List, []}
use Prim.Native.Nat.{ℕ, ◌+◌, ◌≤◌, ◌<◌}
use native.Mathlib.Omega.{arith}
use borrow.Author.Tests.{not-true, not-false, leb-true}
use lib.ListN.{length}
use Rattle.settings.proofs.Refusals.{granted_refused}
use Rattle.recording.specs.Answers.{row_count_of}
use Rattle.recording.specs.Reader.{reading}
use Rattle.rerun.specs.declared.Run.{Run}
use Rattle.rerun.specs.Replay.{Outcome, first_rows}
use Rattle.rerun.specs.Turn.{Going, row_into, RowDone}
use Rattle.rerun.proofs.Turns as turns
use Rattle.text.specs.Room.{most_piece}
use Rattle.listing.specs.Printed.{has_room, lines_of_row, row_lines, PrintedPiece, PrintedRow, Last}
use Rattle.bits.proofs.Puts.{Put}

module _ {s : List ℕ} {run : Run} {array : List ℕ} (g : Going s run array) where
  -- where no row is left, the loop ends
  pub ends : run.rows ≡ row_count_of (reading s).answer → Last s (record { number = 0; records = 0; run = run })
  ends e =
      let o = turns.ends g e in
      record {
        number_is = sym (ap (λ (x : Outcome). x.number) o);
        rows_are = sym (ap (λ (x : Outcome). x.replay.rows) o ∙ turns.rows_so_far g);
        answer_is = turns.ends_answered g 0 e;
      }

  module _ {at : ℕ} {out : List ℕ} {r : PrintedPiece} {array' out' : List ℕ} {why : Bool} (p : PrintedRow why s run at out r array' out') where
    -- ## The buffer was full: nothing has changed

    module _ (h : r.full ≡ true) where
      pub no_room : has_room (length out) at ≡ false
      no_room = not-true (has_room (length out) at) (sym p.full_is ∙ h)

      pub same_rows : r.turn.run.rows ≡ run.rows
      same_rows = rw no_room at p.rows_are

      pub same_place : r.at ≡ at
      same_place = rw no_room at p.at-is

      pub same_bytes : out' ≡ out
      same_bytes = rw no_room at p.text

    -- ## The row was run

    module _ (h : r.full ≡ false) where
      room : has_room (length out) at ≡ true
      room = not-false (has_room (length out) at) (sym p.full_is ∙ h)

      -- the lines of the row were put
      pub lines_put : Put out out' at r.at (row_lines why s run.rows)
      lines_put = (rw room at p.at-is, rw room at p.text)

      pub put-within : r.at ≤ length out
      put-within = p.within (omega (arith, leb-true (at + most_piece) (length out) room))

      -- what the row results in, with a space of no bytes for its records
      done : RowDone s run [] r.turn array' (row_into s run.rows 0 [])
      done =
          record {
            number_is = rw room at p.number_is;
            records_are = rw room at p.records_are;
            going = p.going;
            rows_are = rw room at p.rows_are;
            laid = refl;
          }

      module _ (more : run.rows < row_count_of (reading s).answer) where
        -- without refusal the loop goes on with the next row
        pub one-row : r.turn.number ≡ 0 → r.turn.run.rows ≡ run.rows + 1
        one-row = turns.one-row g more done

        module _ (refused : r.turn.number ≡ 0 → ⊥) where
          -- a refused row leaves the run as it was, and has no lines
          pub unchanged : r.turn.run.rows ≡ run.rows
          unchanged = turns.unchanged g more done refused

          pub no_lines : row_lines why s run.rows ≡ []
          no_lines = granted_refused (lines_of_row why s run.rows) (λ n. []) (first_rows s (run.rows + 1)).number (λ z. refused (done.number_is ∙ z))

          -- a refused row is the last
          pub stops : Last s r.turn
          stops =
              let o = turns.stops g more done refused in
              record {
                number_is = turns.stops_number g more done refused ∙ sym (ap (λ (x : Outcome). x.number) o);
                rows_are = unchanged ∙ sym (ap (λ (x : Outcome). x.replay.rows) o ∙ turns.rows_so_far g);
                answer_is = turns.stops_answered g more done refused;
              }
