-- Pieces of lines, as the code writes them. No entry point's contract cites this page.
use Rattle.std.specs.Prelude.{ℕ, ◌+◌, ◌≡◌, Bool, cond, Option, None, Some, length}
use mathlib.Core.List.{List, [], ◌∷◌, ◌++◌, flat_map}
use Rattle.std.proofs.lemmas.List.Edits.{sets}
use Rattle.bits.specs.Decimal.{ascii, decimal}
use Rattle.effects.specs.declared.Event.{Event}
use Rattle.effects.specs.Records.{StandFrom}
use Rattle.reasons.specs.declared.Sight.{Sight}
use Rattle.reasons.specs.Reasons.{reason_in}
use Rattle.wording.specs.Text.{words_of}
use Rattle.text.specs.Text.{name, header_with, line_with}

-- the first three fields of a record's line, a space behind each
unfoldable pub when : Event → List ℕ
when e = decimal e.seq ++ ascii " " ++ (decimal e.scan ++ ascii " " ++ (decimal e.effect ++ ascii " "))

-- the next three fields, a space behind the first two and a byte behind the third
unfoldable pub change : Event → (end : ℕ) → List ℕ
change e end = name e.from ++ ascii " " ++ (name e.to ++ ascii " " ++ (decimal e.first_out ++ (end ∷ [])))

-- the header, with a column for reasons or without
abbrev pub header_of : (why : Bool) → List ℕ
header_of why = header_with (cond why (ascii "reason" ∷ []) [])

-- what stands behind the fields of a record's line: nothing, or its reason by what reasons read of the row
unfoldable pub further : Option Sight → (associations : List ℕ) → Event → List (List ℕ)
further None associations e = []
further (Some sight) associations e = words_of (reason_in sight associations e) ∷ []

-- the line of a record with it, and the lines of records
abbrev pub column_line : Option Sight → (associations : List ℕ) → Event → List ℕ
column_line c associations e = line_with e (further c associations e)

abbrev pub column_lines : Option Sight → (associations : List ℕ) → List Event → List ℕ
column_lines c associations es = flat_map (column_line c associations) es

-- a word, a space, a number, and a byte behind it
unfoldable pub total : List ℕ → (v end : ℕ) → List ℕ
total word v end = word ++ ascii " " ++ (decimal v ++ (end ∷ []))

-- for any events whose n records these are: the text of their lines was written at a place, and r is the place after it
abbrev pub LinesPut : (text : List Event → List ℕ) (records : List ℕ) (n at : ℕ) (out : List ℕ) (r : ℕ) (out' : List ℕ) → Type 0
LinesPut text records n at out r out' = (es : List Event) → length es ≡ n → StandFrom records 0 es → (r ≡ at + length (text es)) × (out' ≡ sets out at (text es))
