-- Writing what was read gives the same bytes, whatever the lent buffers held.
use mathlib.Core.Path.{◌≡◌, refl, ap₂, ◌∙◌}
use mathlib.Core.List.{List, [], ◌∷◌, ◌++◌, append-nil, flat_map}
use Prim.Native.Nat.{ℕ}
use native.Mathlib.Omega.{arith}
use borrow.Author.Tests.{le-leb}
use lib.ListN.{length, drop}
use lib.Seq.{drop-length}
use Rattle.bits.specs.Numbers.{Bytes}
use Rattle.settings.specs.declared.Row.{Row}
use Rattle.settings.specs.declared.Settings.{Settings}
use Rattle.layout.specs.Entries.{put_row}
use Rattle.recording.specs.Reader.{reading}
use Rattle.recording.specs.Answers.{row_count_of}
use Rattle.recording.specs.Steps.{rows_of}
use Rattle.recording.specs.Encode.{opening, All}
use Rattle.recording.specs.Accepted.{Accepted}
use Rattle.writing.specs.Writer.{after, row_piece_number, row_after}
use Rattle.writing.proofs.Theorems.{written_as_read}
use Rattle.demands.specs.Back.{written_back}

-- a piece that nothing refuses, in a buffer that it fills, is all that stands there
filled : (n : ℕ) (piece out : List ℕ) → n ≡ 0 → length out ≡ length piece → after n piece out ≡ piece
filled n piece out z e =
    let none : drop (length piece) out ≡ [] = rw e at (drop-length out) in
    rw (z, le-leb (length piece) (length out) (omega arith), none) (append-nil piece)

module _ (lent : ℕ → List ℕ) (sized : (n : ℕ) → length (lent n) ≡ n) where
  rows_back : (st : Settings) (rows : List Row) → All (row_piece_number st) rows → flat_map (λ row. row_after st row (lent (length (put_row row)))) rows ≡ flat_map put_row rows
  unfolding flat_map
  rows_back st [] h = refl
  rows_back st (row ∷ rows) h =
      ap₂ (λ (a b : List ℕ). a ++ b) (filled (row_piece_number st row) (put_row row) (lent (length (put_row row))) h.0 (sized (length (put_row row)))) (rows_back st rows h.1)

  pub same_bytes : (s : List ℕ) → Bytes s → Accepted s → written_back lent s ≡ s
  same_bytes s bytes h =
      let st = (reading s).settings in
      let n = row_count_of (reading s).answer in
      let w = written_as_read s bytes h in
      ap₂ (λ (a b : List ℕ). a ++ b) (filled _ (opening st n) (lent (length (opening st n))) w.0 (sized (length (opening st n)))) (rows_back st (rows_of s) w.1) ∙ w.2
