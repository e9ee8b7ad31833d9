-- The writer refuses no piece exactly if the settings and rows are valid.
use mathlib.Core.Path.{◌≡◌}
use mathlib.Core.List.{List, [], ◌∷◌}
use borrow.Author.Tests.{leb-true, le-leb}
use lib.Dec.{leb}
use lib.ListN.{length}
use Rattle.bits.proofs.Lists.{and_left, and_right}
use Rattle.settings.specs.declared.Row.{Row}
use Rattle.settings.specs.declared.Settings.{Settings}
use Rattle.settings.specs.Refusals.{unless}
use Rattle.settings.specs.Right.{known_of, settings_number, row_number}
use Rattle.settings.proofs.Refusals.{or_else_none, unless_none}
use Rattle.layout.specs.declared.Kind.TheVariants.{Rows}
use Rattle.layout.specs.Sections.{least_of, most_of, number_of, count_ok}
use Rattle.recording.specs.Encode.{All, Right}
use Rattle.writing.specs.Writer.{opening_number, row_piece_number}

module _ (st : Settings) where
  rows_pass : settings_number st ≡ 0 → (rows : List Row) → All (row_number (known_of st)) rows → All (row_piece_number st) rows
  unfolding row_piece_number
  rows_pass z [] h = tt
  rows_pass z (r ∷ rows) h = (rw z h.0, rows_pass z rows h.1)

  rows_back : (rows : List Row) → All (row_piece_number st) rows → All (row_number (known_of st)) rows
  unfolding row_piece_number
  rows_back [] h = tt
  rows_back (r ∷ rows) h = ((or_else_none (settings_number st) (row_number (known_of st) r) h.0).1, rows_back rows h.1)

  pub right_passes : (rows : List Row) → Right st rows → (opening_number st (length rows) ≡ 0) × All (row_piece_number st) rows
  unfolding opening_number
  right_passes rows r = (
    rw (r.settings, le-leb (least_of Rows) (length rows) r.rows_least, le-leb (length rows) (most_of Rows) r.rows_most),
    rows_pass r.settings rows r.each_row,
  )

  pub passes_right : (rows : List Row) → length st.effects ≡ 16 → opening_number st (length rows) ≡ 0 → All (row_piece_number st) rows → Right st rows
  unfolding opening_number
  passes_right rows sixteen h each =
      let n = length rows in
      let both = or_else_none (settings_number st) (unless (count_ok Rows n) (number_of Rows)) h in
      let count = unless_none (count_ok Rows n) 3 both.1 in
      record {
        settings = both.0;
        slots = sixteen;
        rows_least = leb-true (least_of Rows) n (and_left (leb (least_of Rows) n) (leb n (most_of Rows)) count);
        rows_most = leb-true n (most_of Rows) (and_right (leb (least_of Rows) n) (leb n (most_of Rows)) count);
        each_row = rows_back rows each;
      }
