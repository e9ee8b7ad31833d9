-- What is promised of recordings, each theorem stated once by what it says. Document 01, "Recordings" and "Refusal numbers".
-- `reading` and `step_at` are what the code returns, by the contracts in src/; `Bytes s` holds of every slice of bytes.
use mathlib.Core.Path.{◌≡◌, refl, sym, ap, ◌∙◌}
use mathlib.Core.Bool.{true, false}
use mathlib.Core.List.{List, ◌++◌, flat_map}
use mathlib.Core.Logic.{◌⊎◌}
use Prim.Native.Nat.{ℕ, suc, ◌+◌, ◌*◌, ◌≤◌, ◌<◌}
use native.Mathlib.Omega.{arith}
use lib.ListN.{length, get_or, take}
use Rattle.bits.specs.Numbers.{Bytes}
use Rattle.settings.specs.declared.Row.{Row}
use Rattle.settings.specs.declared.Settings.{Settings}
use Rattle.settings.specs.declared.Known.{Known}
use Rattle.recording.specs.Answer as A
use Rattle.recording.specs.Answer.{Reading}
use Rattle.layout.specs.declared.Kind.{Kind}
use Rattle.layout.specs.declared.Kind.TheVariants.{Rows}
use Rattle.layout.specs.Entries.{row_at, put_row}
use Rattle.recording.specs.Reader.{refusal, reading}
use Rattle.recording.specs.Answers.{number, place, row_count_of, first_row, row_width, section_number, section_place, ended, step_row, next_place}
use Rattle.settings.specs.Zeros.{no_row}
use Rattle.recording.specs.Steps.{step_at, rows_of}
use Rattle.recording.specs.Accepted.{Accepted, Answers}
use Rattle.recording.specs.Encode.{encode, opening, opening_length, least_length, most_length, Right}
use Rattle.layout.specs.Sections.{width_of, section_of}
use Rattle.recording.specs.Refused.{Stops, Refused}
use Rattle.exactness.proofs.Right.{in_parts}
use Rattle.exactness.proofs.Places.{row_at_place, row_within, ended_elsewhere as nothing-elsewhere}
use Rattle.exactness.proofs.Refusals.{refused_as_said as said, said_is_refused as answered, section_said, stops_refuses}
use Rattle.exactness.proofs.Numbers.{not_accepted_refused, reading_numbers, before_spare}
use Rattle.exactness.proofs.Front.{reading_of_front}
use Rattle.exactness.proofs.Exact.{complete, rows_are_back, spare, length-encode}
use Rattle.exactness.proofs.Trips.{accepted_encodes, accepted_right, first_row_place, accepted_case as case-of, length-rows_of, in_pieces}

-- ## Exactness

-- what the reader accepts is the encoding of the settings and rows that are read, and these are valid
pub accepted_is_encoding : (s : List ℕ) → Bytes s → Accepted s → Right (reading s).settings (rows_of s) × (encode (reading s).settings (rows_of s) ≡ s)
accepted_is_encoding s bytes h = accepted_encodes s bytes h

-- the settings and rows that are read are valid, for any list of numbers that is accepted
pub accepted_is_right : (s : List ℕ) → Accepted s → Right (reading s).settings (rows_of s)
accepted_is_right = accepted_right

-- the encoding of valid settings and valid rows is accepted, and the answer has these settings and rows
pub encoding_is_accepted : (st : Settings) (rows : List Row) → Right st rows → Answers (encode st rows) st rows
encoding_is_accepted st rows right = rw (complete st rows right) (refl, refl, refl, refl, refl, rows_are_back st rows right)

-- the enum's case is Accepted exactly if the refusal number is 0
pub accepted_case : (s : List ℕ) → Accepted s → (reading s).answer ≡ A.Accepted (row_count_of (reading s).answer) (first_row (reading s).answer) (row_width (reading s).answer)
accepted_case = case-of

-- ## Pieces

-- an encoding is its opening and its rows
pub encoding_in_pieces : (st : Settings) (rows : List Row) → encode st rows ≡ opening st (length rows) ++ flat_map put_row rows
encoding_in_pieces = in_pieces

-- the count in the answer is the number of the rows
pub rows_counted : (s : List ℕ) → length (rows_of s) ≡ row_count_of (reading s).answer
rows_counted = length-rows_of

-- ## The rows at the row places

-- at the place of row i stands row i, and the next place is that of row i + 1
pub row_at_its_place : (s : List ℕ) (i : ℕ) → i < row_count_of (reading s).answer
    → let first = first_row (reading s).answer in let width = row_width (reading s).answer in let step = step_at s (first + width * i) in
    (ended step ≡ false) × (step_row step ≡ get_or (rows_of s) i no_row) × (next_place step ≡ first + width * suc i)
unfolding step_at
row_at_its_place s i l = rw (row_at_place s no_row i l) (refl, refl, refl)

-- the first row stands after the opening
pub first_row_after_the_opening : (s : List ℕ) → Accepted s → first_row (reading s).answer ≡ opening_length (reading s).settings
first_row_after_the_opening = first_row_place

-- the bytes of row i are in the file
pub row_in_the_file : (s : List ℕ) (i : ℕ) → i < row_count_of (reading s).answer
    → let width = row_width (reading s).answer in let at = first_row (reading s).answer + width * i in
    (at + width ≤ length s) × (row_at width s at ≡ get_or (rows_of s) i no_row) × (width ≡ width_of Rows)
row_in_the_file s = row_within s no_row

-- at any other place of any bytes the step has ended
pub ended_elsewhere : (s : List ℕ) (at : ℕ)
    → ((i : ℕ) → i < row_count_of (reading s).answer → at ≡ first_row (reading s).answer + row_width (reading s).answer * i → ⊥) → ended (step_at s at) ≡ true
unfolding step_at
ended_elsewhere s at none = ap ended (nothing-elsewhere s at none)

-- ## Refusals

-- a file that is not accepted is refused as `Refused` says of its bytes, with zeros beside
pub refused_as_said : (s : List ℕ) → (Accepted s → ⊥)
    → let n = number (reading s).answer in let p = place (reading s).answer in (reading s ≡ refusal n p) × Refused s n p
refused_as_said s h = let e = not_accepted_refused s h in (e, said s (number (reading s).answer) (place (reading s).answer) e)

-- a refusal that `Refused` says of the bytes is the answer
pub said_is_refused : (s : List ℕ) (n p : ℕ) → Refused s n p → (number (reading s).answer ≡ n) × (place (reading s).answer ≡ p)
said_is_refused s n p h = let e = answered s n p h in (ap (λ (x : Reading). number x.answer) e, ap (λ (x : Reading). place x.answer) e)

-- a section is refused as `Stops` says of the bytes, and what `Stops` says is its answer
pub section_refused_as_said : (kind : Kind) (k : Known) (s : List ℕ) (at : ℕ) → let x = section_of kind k s at in
    (section_number x ≡ 0 → ⊥) → Stops kind k s at (section_number x) (section_place x)
section_refused_as_said kind k s at h = section_said kind k s at h

pub section_said_is_refused : (kind : Kind) (k : Known) (s : List ℕ) (at n p : ℕ) → Stops kind k s at n p → let x = section_of kind k s at in
    (section_number x ≡ n) × (section_place x ≡ p)
section_said_is_refused kind k s at n p h = let e = stops_refuses kind k s at n p h in (ap section_number e, ap section_place e)

-- a file is accepted, or refused by refusal number 1 at its length, by one of 2 to 6, or by 7
pub numbers : (s : List ℕ) → let n = number (reading s).answer in
    (n ≡ 0) ⊎ (((n ≡ 1) × (place (reading s).answer ≡ length s)) ⊎ (((2 ≤ n) × (n ≤ 6)) ⊎ (n ≡ 7)))
numbers s = reading_numbers s

-- refusal number 7: the bytes before the place are a recording, and there are bytes after it
pub seven_is_spare : (s : List ℕ) → Bytes s → number (reading s).answer ≡ 7
    → let p = place (reading s).answer in (p < length s) × Accepted (take p s)
seven_is_spare s bytes h = before_spare s bytes h

pub spare_is_seven : (st : Settings) (rows : List Row) → Right st rows → (q : List ℕ) → 0 < length q
    → (number (reading (encode st rows ++ q)).answer ≡ 7) × (place (reading (encode st rows ++ q)).answer ≡ length (encode st rows))
spare_is_seven st rows right q h = let e = spare st rows right q h in (ap (λ (x : Reading). number x.answer) e, ap (λ (x : Reading). place x.answer) e)

-- ## Lengths

-- an accepted file has 40 to 49,258 bytes
pub accepted_length : (s : List ℕ) → Bytes s → Accepted s
    → (length s ≡ opening_length (reading s).settings + width_of Rows * row_count_of (reading s).answer) × (least_length ≤ length s) × (length s ≤ most_length)
accepted_length s bytes h =
    let e = accepted_encodes s bytes h in
    let st = (reading s).settings in
    let p = in_parts st e.0.slots e.0.settings in
    let len : length s ≡ opening_length st + width_of Rows * length (rows_of s) = ap length (sym e.1) ∙ length-encode st (rows_of s) e.0 in (
      rw length-rows_of at len,
      omega (arith, len, p.least, e.0.rows_least),
      omega (arith, len, p.most, e.0.rows_most),
    )

-- both lengths occur: `Lengths` has a recording of each

-- bytes longer than the longest recording are answered as their first 49,259 are, which is one more than its length
pub long_as_front : (s : List ℕ) → most_length < length s → reading s ≡ reading (take (most_length + 1) s)
long_as_front = reading_of_front
