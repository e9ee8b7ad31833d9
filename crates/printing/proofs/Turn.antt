-- What one row more makes of a buffer that is being filled.
use mathlib.Core.Path.{◌≡◌, refl, sym, ap, ◌∙◌}
use mathlib.Core.Bool.{Bool, true, false, cond, true≢false}
use mathlib.Core.List.{List, ◌++◌, append_assoc, append-nil}
use Prim.Native.Nat.{ℕ, ◌+◌, ◌-◌, ◌*◌, ◌^◌, ◌≤◌, ◌<◌}
use native.Mathlib.Numerals.{add-one}
use native.Mathlib.Omega.{arith}
use borrow.Author.Tests.{leb-false}
use lib.ListN.{length, take}
use lib.Seq.{length-sets, length-take-le}
use Rattle.recording.specs.Answers.{row_count_of}
use Rattle.recording.specs.Reader.{reading}
use Rattle.rerun.specs.declared.Run.{Run}
use Rattle.rerun.specs.Turn.{Going}
use Rattle.text.specs.Room.{most_piece}
use Rattle.listing.specs.Printed.{listing_of, opening, row_lines, rows_lines, PrintedPiece, PrintedRow, Last}
use Rattle.bits.proofs.Puts.{Put}
use Rattle.listing.proofs.Loop as loop
use Rattle.printing.specs.declared.sending.Sent.{Sent}
use Rattle.printing.specs.Filled.{so_far, Filled}
use Rattle.printing.specs.Waiting.{most_buffer, Buffer, most_gone, Waiting}
use Rattle.rerun.proofs.Files.{few_rows}
use Rattle.printing.proofs.Fronts.{after, so_far_is_a_front}
use Rattle.printing.proofs.Parts.{front_grows}

-- ## The loop

-- its invariant: as `Filled` says of the end
pub record Filling (why : Bool) (s : List ℕ) (start : Run) (from : ℕ) (out₀ : List ℕ) (run : Run) (array : List ℕ) (at : ℕ) (out : List ℕ) : Type 0 where
  pub going : Going s run array
  pub same : length out ≡ length out₀
  pub within : from ≤ length out₀ → at ≤ length out₀
  pub text : (given : List ℕ) → given ++ take from out₀ ≡ so_far why s start.rows → given ++ take at out ≡ so_far why s run.rows
  pub kept : start.rows ≤ run.rows
  pub still : start.rows ≡ run.rows → at ≡ from

pub begins : {why : Bool} {s : List ℕ} {start : Run} {array : List ℕ} → Going s start array → (from : ℕ) (out₀ : List ℕ) → Filling why s start from out₀ start array from out₀
begins g from out₀ = record { going = g; same = refl; within = λ h. h; text = λ given e. e; kept = omega arith; still = λ e. refl }

module _ {why : Bool} {s : List ℕ} {start : Run} {from : ℕ} {out₀ : List ℕ} {run : Run} {array : List ℕ} {at : ℕ} {out : List ℕ} (f : Filling why s start from out₀ run array at out) where
  abbrev g : Going s run array
  g = f.going

  -- no row is left
  pub ends : run.row_count ≤ run.rows
      → Filled why s start from out₀ (record { full = false; at = at; turn = record { number = 0; records = 0; run = run } }) array out
  ends e =
      record {
        text = f.text;
        within = f.within;
        kept = f.kept;
        going = g;
        more = λ h. absurd (true≢false (sym h));
        moved = λ h r. absurd (true≢false (sym h));
        last = λ h. loop.ends g (omega (arith, e, g.many, g.counted));
      }

  pub more_left : run.rows < run.row_count → run.rows < row_count_of (reading s).answer
  more_left l = omega (arith, l, g.many)

  module _ (l : run.rows < run.row_count) {p : PrintedPiece} {array' out' : List ℕ} (r : PrintedRow why s run at out p array' out') where
    more : run.rows < row_count_of (reading s).answer
    more = more_left l

    within_now : from ≤ length out₀ → p.at ≤ length out₀
    within_now h = omega (arith, r.within (omega (arith, f.within h, f.same)), f.same)

    -- ## The buffer is full: all is as it was

    module _ (h : p.full ≡ true) where
      same : p.turn.run.rows ≡ run.rows
      same = loop.same_rows g r h

      differ : from + most_piece ≤ length out₀ → start.rows < run.rows
      differ room =
          let full : length out < at + most_piece = leb-false (at + most_piece) (length out) (loop.no_room g r h) in
          let other : start.rows ≡ run.rows → ⊥ = λ e. omega (arith, f.still e, full, room, f.same) in
          omega (arith, f.kept, other)

      pub fills : Filled why s start from out₀ p array' out'
      fills =
          record {
            text = λ given e. rw (same, loop.same_place g r h, loop.same_bytes g r h) (f.text given e);
            within = within_now;
            kept = omega (arith, same, f.kept);
            going = r.going;
            more = λ q. omega (arith, same, more);
            moved = λ q room. omega (arith, same, differ room);
            last = λ q. absurd (true≢false (sym h ∙ q));
          }

    -- ## There was room: the row's lines follow

    module _ (h : p.full ≡ false) where
      abbrev put : Put out out' at p.at (row_lines why s run.rows)
      put = loop.lines_put g r h

      front : take p.at out' ≡ take at out ++ row_lines why s run.rows
      front = rw (put.0, put.1) (front_grows out (row_lines why s run.rows) at (omega (arith, put.0, loop.put-within g r h)))

      -- the text before and the front of the buffer, joined
      grown : (given : List ℕ) → given ++ take from out₀ ≡ so_far why s start.rows → given ++ take p.at out' ≡ so_far why s run.rows ++ row_lines why s run.rows
      grown given e =
          ap (λ (l : List ℕ). given ++ l) front
          ∙ sym (append_assoc given (take at out) (row_lines why s run.rows))
          ∙ ap (λ (l : List ℕ). l ++ row_lines why s run.rows) (f.text given e)

      -- a row was refused
      module _ (refused : p.turn.number ≡ 0 → ⊥) where
        unchanged : p.turn.run.rows ≡ run.rows
        unchanged = loop.unchanged g r h more refused

        pub stops : Filled why s start from out₀ p array' out'
        stops =
            record {
              text = λ given e. grown given e
                  ∙ ap (λ (l : List ℕ). so_far why s run.rows ++ l) (loop.no_lines g r h more refused)
                  ∙ append-nil (so_far why s run.rows)
                  ∙ ap (so_far why s) (sym unchanged);
              within = within_now;
              kept = omega (arith, unchanged, f.kept);
              going = r.going;
              more = λ q. absurd (true≢false (sym q ∙ h));
              moved = λ q. absurd (true≢false (sym q ∙ h));
              last = λ q. loop.stops g r h more refused;
            }

      -- the next row
      module _ (z : p.turn.number ≡ 0) where
        pub one_more : p.turn.run.rows ≡ run.rows + 1
        one_more = loop.one-row g r h more z

        pub goes_on : Filling why s start from out₀ p.turn.run array' p.at out'
        goes_on =
            record {
              going = r.going;
              same = ap length put.1 ∙ length-sets out at (row_lines why s run.rows) ∙ f.same;
              within = within_now;
              text = λ given e. grown given e
                  ∙ append_assoc (opening why (reading s).answer) (rows_lines why s run.rows) (row_lines why s run.rows)
                  ∙ ap (λ (n : ℕ). opening why (reading s).answer ++ rows_lines why s n) (sym (one_more ∙ add-one run.rows));
              kept = omega (arith, one_more, f.kept);
              still = λ e. absurd (omega (arith, one_more, f.kept, e));
            }

-- ## Buffer after buffer

-- a number that falls with each: the rows that are left, and one more while the buffer is full
abbrev pub left : List ℕ → PrintedPiece → ℕ
left s p = row_count_of (reading s).answer - p.turn.run.rows + cond p.full 1 0

-- what the loop over buffers of n bytes has: the buffer that was filled last waits
pub record Poured (why : Bool) (n : ℕ) (s : List ℕ) (sent : Sent) (p : PrintedPiece) (array out : List ℕ) : Type 0 where
  pub going : Going s p.turn.run array
  pub buffer : Buffer n
  pub long : length out ≡ n
  pub within : p.at ≤ length out
  pub waits : Waiting why s sent (take p.at out) (so_far why s p.turn.run.rows)
  -- no more buffers have gone than rows are behind, so what has gone can be counted
  pub small : sent.gone + most_buffer * left s p ≤ most_buffer * (row_count_of (reading s).answer + 1)
  pub last : p.full ≡ false → Last s p.turn

pub falls : {why : Bool} {s : List ℕ} (p : PrintedPiece) {out : List ℕ} {r : PrintedPiece} {array' out' : List ℕ} → p.full ≡ true → most_piece ≤ length out
    → Filled why s p.turn.run 0 out r array' out' → left s r < left s p
falls {s = s} p {out} {r} h room f = rw h (go r.full refl)
  where
    go : (b : Bool) → r.full ≡ b → row_count_of (reading s).answer - r.turn.run.rows + cond b 1 0 < row_count_of (reading s).answer - p.turn.run.rows + 1
    go true e = omega (arith, f.moved e (omega (arith, room)), f.more e)
    go false e = omega (arith, f.kept)

-- nothing has gone
pub at_first : (s : List ℕ) (p : PrintedPiece) {gone : ℕ} → gone ≡ 0 → gone + most_buffer * left s p ≤ most_buffer * (row_count_of (reading s).answer + 1)
at_first s p {gone} e = go p.full
  where
    go : (b : Bool) → gone + most_buffer * (row_count_of (reading s).answer - p.turn.run.rows + cond b 1 0) ≤ most_buffer * (row_count_of (reading s).answer + 1)
    go true = omega (arith, e)
    go false = omega (arith, e)

module _ {why : Bool} {n : ℕ} {s : List ℕ} {sent : Sent} {p : PrintedPiece} {array out : List ℕ} (i : Poured why n s sent p array out) where
  pub rest_follows : so_far why s p.turn.run.rows ++ after why s i.going.accepted p.turn.run.rows ≡ listing_of why s
  rest_follows = so_far_is_a_front why s i.going.accepted p.turn.run.rows i.going.counted

  pub waiting_length : length (take p.at out) ≡ p.at
  waiting_length = length-take-le p.at out i.within

  -- what has gone, with what waits
  pub counted : sent.gone + p.at < most_gone
  counted = omega (arith, i.small, i.within, i.long, i.buffer.small, few_rows s i.going.accepted)

  pub counts : sent.gone + length (take p.at out) < 2 ^ 64
  counts = omega (arith, counted, waiting_length)

  -- and once the next buffer is filled
  pub later : p.full ≡ true → {gone : ℕ} → gone ≡ sent.gone + length (take p.at out) → {q : PrintedPiece} {array' out' : List ℕ} → Filled why s p.turn.run 0 out q array' out'
      → gone + most_buffer * left s q ≤ most_buffer * (row_count_of (reading s).answer + 1)
  later full e f = omega (arith, i.small, i.within, i.long, i.buffer.small, e, waiting_length, falls p full (omega (arith, i.long, i.buffer.roomy)) f)
