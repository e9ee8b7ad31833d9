-- The opening of valid settings: how many effects it has, and its length.
use mathlib.Core.Path.{◌≡◌}
use Prim.Native.Nat.{ℕ, ◌≤◌}
use native.Mathlib.Omega.{arith}
use lib.ListN.{length}
use lib.Seq.{length-take-le}
use Rattle.settings.specs.declared.Settings.{Settings}
use Rattle.settings.specs.Refusals.{unless}
use Rattle.settings.specs.Right.{settings_number}
use Rattle.settings.proofs.Refusals.{or_else_none}
use Rattle.settings.proofs.Right.{count_few}
use Rattle.layout.specs.declared.Kind.TheVariants.{Rows}
use Rattle.layout.specs.Sections.{number_of, count_ok as rows_ok}
use Rattle.recording.specs.Encode.{opening, opening_length}
use Rattle.pieces.proofs.Opening.{opening-length}
use Rattle.writing.specs.Writer.{opening_number}

pub opening_count : (st : Settings) (rows : ℕ) → opening_number st rows ≡ 0 → st.count ≤ 16
unfolding opening_number
opening_count st rows h = count_few st (or_else_none (settings_number st) (unless (rows_ok Rows rows) (number_of Rows)) h).0

-- the opening of valid settings has the length that the writer computes
pub right_length : (st : Settings) (rows : ℕ) → opening_number st rows ≡ 0 → length st.effects ≡ 16 → length (opening st rows) ≡ opening_length st
right_length st rows h sixteen =
    opening-length st rows (length-take-le st.count st.effects (omega (arith, opening_count st rows h, sixteen)))
