-- The numbers that cross to a caller of the library, as bytes.
use Rattle.std.specs.Prelude.{ℕ, ◌*◌, cond, leb, length}
use mathlib.Core.List.{List, [], ◌∷◌, flat_map}
use Rattle.std.proofs.lemmas.List.Edits.{sets}
use Rattle.bits.specs.Numbers.{digits}
use Rattle.rerun.specs.declared.Replayed.{Replayed}

-- every number that crosses is 8 bytes, big-endian
abbrev pub number_bytes : ℕ
number_bytes = 8

abbrev pub numbers : List ℕ → List ℕ
numbers vs = flat_map (digits number_bytes) vs

-- the answer to a check is three of them, and totals are seven
abbrev pub check_bytes : ℕ
check_bytes = number_bytes * 3

abbrev pub totals_bytes : ℕ
totals_bytes = number_bytes * 7

-- a piece at the front of the lent bytes, if it fits; else they stay as they were
abbrev pub fitted : List ℕ → List ℕ → List ℕ
fitted piece out = cond (leb (length piece) (length out)) (sets out 0 piece) out

-- what a replay results in: records, rows, scans, live, exercised, refusal number, place
abbrev pub crossing : Replayed → List ℕ
crossing r = r.records ∷ r.rows ∷ r.scans ∷ r.live ∷ r.exercised ∷ r.number ∷ r.place ∷ []
