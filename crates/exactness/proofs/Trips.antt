-- Reading and encoding undo each other: an accepted file is the encoding of what was read, and an encoding is an opening
-- piece and its rows.
use mathlib.Core.Path.{◌≡◌, refl, ◌∙◌}
use mathlib.Core.List.{List, ◌++◌, append_assoc, flat_map}
use mathlib.Core.Logic.{◌⊎◌, inl, inr}
use Prim.Native.Nat.{ℕ}
use native.Mathlib.Omega.{arith}
use lib.ListN.{length}
use lib.Seq.{take-length}
use Rattle.bits.specs.Numbers.{Bytes}
use Rattle.settings.specs.declared.Row.{Row}
use Rattle.settings.specs.declared.Settings.{Settings}
use Rattle.recording.specs.Answer as A
use Rattle.recording.specs.Answer.{Reading}
use Rattle.layout.specs.Entries.{row_at, put_row}
use Rattle.recording.specs.Reader.{reading}
use Rattle.recording.specs.Answers.{number, row_count_of, first_row, row_width}
use Rattle.recording.specs.Steps.{rows_in, rows_of}
use Rattle.recording.specs.Encode.{encode, opening, opening_length, Right}
use Rattle.recording.specs.Refused.{ToEnd}
use Rattle.layout.proofs.Lists.{length-list_of}
use Rattle.exactness.proofs.Refusals.{Given, file_gives, said_or_accepted}
use Rattle.recording.proofs.Between.{block_room}
use Rattle.recording.proofs.Cases.{acceptance}
use Rattle.exactness.proofs.Exact.{right_at, encoded_at}

-- ## Accepted files

-- the refusal number of a refusal is not 0
not-zero : {X : Type 0} (s : List ℕ) (n p : ℕ) → Given s n p ⊎ (n ≡ 7) → n ≡ 0 → X
not-zero s n p (inl (inl h)) e = absurd (omega (arith, h.0, e))
not-zero s n p (inl (inr h)) e = absurd (omega (arith, h.0, e))
not-zero s n p (inr h) e = absurd (omega (arith, h, e))

-- what holds of an acceptance holds of the reading of an accepted file
when_accepted : (s : List ℕ) (P : Reading → Type 0) → ((e r : ℕ) → ToEnd s e r (length s) → P (acceptance s e r)) → number (reading s).answer ≡ 0 → P (reading s)
when_accepted s P accepts =
    said_or_accepted s (λ x. number x.answer ≡ 0 → P x) (λ n p c h. not-zero s n p (file_gives s n p c) h) (λ e r t h. accepts e r t)

-- the settings and rows that are read are valid
pub accepted_right : (s : List ℕ) → number (reading s).answer ≡ 0 → Right (reading s).settings (rows_of s)
accepted_right s = when_accepted s (λ x. Right x.settings (rows_in x.answer s)) (λ e r t. right_at s e r (length s) t)

-- an accepted file is the encoding of the settings and rows that are read
pub accepted_encodes : (s : List ℕ) → Bytes s → number (reading s).answer ≡ 0 → Right (reading s).settings (rows_of s) × (encode (reading s).settings (rows_of s) ≡ s)
accepted_encodes s bytes h = (
  accepted_right s h,
  when_accepted s (λ x. encode x.settings (rows_in x.answer s) ≡ s) (λ e r t. encoded_at s e r (length s) t bytes ∙ take-length s) h,
)

-- an answer with refusal number 0 is an acceptance
pub accepted_case : (s : List ℕ) → number (reading s).answer ≡ 0
    → (reading s).answer ≡ A.Accepted (row_count_of (reading s).answer) (first_row (reading s).answer) (row_width (reading s).answer)
accepted_case s = when_accepted s (λ x. x.answer ≡ A.Accepted (row_count_of x.answer) (first_row x.answer) (row_width x.answer)) (λ e r t. refl)

-- the first row stands after the opening
pub first_row_place : (s : List ℕ) → number (reading s).answer ≡ 0 → first_row (reading s).answer ≡ opening_length (reading s).settings
first_row_place s =
    when_accepted s (λ x. first_row x.answer ≡ opening_length x.settings)
    (λ e r t. omega (arith, (block_room s e t.before.block).0, t.before.effects.next))

-- the count in the answer is the number of the rows
pub length-rows_of : (s : List ℕ) → length (rows_of s) ≡ row_count_of (reading s).answer
length-rows_of s = let a = (reading s).answer in length-list_of (row_at (row_width a) s) (row_width a) (row_count_of a) (first_row a)

-- ## The pieces of an encoding

pub in_pieces : (st : Settings) (rows : List Row) → encode st rows ≡ opening st (length rows) ++ flat_map put_row rows
unfolding flat_map encode opening
in_pieces st rows = simp append_assoc
