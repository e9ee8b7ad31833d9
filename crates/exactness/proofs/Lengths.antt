-- The shortest and the longest recording exist: valid settings and rows whose encodings have 40 and 49,258 bytes. Document
-- 01, "Recordings".
use mathlib.Core.Path.{◌≡◌, refl, ◌∙◌}
use mathlib.Core.List.{[], ◌∷◌, ◌++◌}
use Prim.Native.Nat.{ℕ, zero, suc}
use native.Mathlib.Omega.{arith}
use lib.Count.{ones, ones_in}
use lib.ListN.{length, replicate, take, length-replicate}
use Rattle.settings.specs.declared.Settings.{Settings}
use Rattle.settings.specs.declared.Row.{Row}
use Rattle.settings.specs.declared.Known.{Known}
use Rattle.settings.specs.Right.{known_of, settings_number, words_number, row_number}
use Rattle.settings.specs.Signals.{no_effect}
use Rattle.settings.specs.Zeros.{no_words}
use Rattle.layout.specs.declared.Kind.TheVariants.{Rows}
use Rattle.layout.specs.Sections.{most_of}
use Rattle.recording.specs.Encode.{encode, least_length, most_length, All, Right}
use Rattle.exactness.proofs.Exact.{length-encode}

-- one cause, and n effects without delay
pub plain : ℕ → Settings
plain n =
    record {
      causes = 1;
      options = 0;
      period = 1;
      count = n;
      effects = take 16 (replicate n (record { association = 1; delay = 0 }) ++ replicate 16 no_effect);
    }

pub quiet : Row
quiet = record { hold = 1; words = no_words }

all_same : (k : Known) (r : Row) → row_number k r ≡ 0 → (n : ℕ) → All (row_number k) (replicate n r)
all_same k r h zero = tt
all_same k r h (suc n) = (h, all_same k r h n)

shortest_right : Right (plain 1) (quiet ∷ [])
unfolding plain quiet settings_number row_number words_number ones ones_in
shortest_right = record { settings = refl; slots = refl; rows_least = omega arith; rows_most = omega arith; each_row = (refl, tt) }

pub shortest : Right (plain 1) (quiet ∷ []) × (length (encode (plain 1) (quiet ∷ [])) ≡ least_length)
unfolding plain
shortest = (shortest_right, length-encode (plain 1) (quiet ∷ []) shortest_right)

longest_right : Right (plain 16) (replicate (most_of Rows) quiet)
unfolding plain quiet settings_number row_number words_number ones ones_in
longest_right =
    let n = length-replicate (most_of Rows) quiet in
    record {
      settings = refl;
      slots = refl;
      rows_least = omega (arith, n);
      rows_most = omega (arith, n);
      each_row = all_same (known_of (plain 16)) quiet refl (most_of Rows);
    }

pub longest : Right (plain 16) (replicate (most_of Rows) quiet) × (length (encode (plain 16) (replicate (most_of Rows) quiet)) ≡ most_length)
unfolding plain
longest = (longest_right, length-encode (plain 16) (replicate (most_of Rows) quiet) longest_right ∙ omega (arith, length-replicate (most_of Rows) quiet))
