-- The lines of `bin/replay --summary`, as bytes: fields with a comma between. docs/FORMAT.md, "A line for each file"; document 01 has no
-- word on them. LF ends every line.
use Rattle.std.specs.Prelude.{ℕ, suc, ◌+◌, ◌*◌, Bool, cond, ◌||◌, eqb, ltb, length}
use mathlib.Core.List.{List, [], ◌∷◌, ◌++◌, flat_map}
use Rattle.bits.specs.Decimal.{ascii, decimal}
use Rattle.rerun.specs.declared.Replayed.{Replayed}
use Rattle.reports.specs.Reports.{most_name}

-- ## The field of a name

abbrev pub quote : ℕ
quote = 34

-- where a byte first stands, or the length where it does not
abbrev pub index_of : (byte : ℕ) → List ℕ → ℕ
index_of byte [] = 0
index_of byte (b ∷ bs) = cond (eqb b byte) 0 (suc (index_of byte bs))

abbrev pub has : List ℕ → ℕ → Bool
has name byte = ltb (index_of byte name) (length name)

-- a name with a comma, a quote, LF or CR stands in quotes, and its own quotes stand twice
abbrev pub is_quoted : List ℕ → Bool
is_quoted name = has name 44 || has name quote || has name 10 || has name 13

abbrev pub twice : ℕ → List ℕ
twice byte = cond (eqb byte quote) (quote ∷ quote ∷ []) (byte ∷ [])

abbrev pub doubled : List ℕ → List ℕ
doubled name = flat_map twice name

unfoldable pub quoted : (name : List ℕ) → List ℕ
quoted name = quote ∷ [] ++ doubled name ++ (quote ∷ [])

unfoldable pub field : (name : List ℕ) → List ℕ
field name = cond (is_quoted name) (quoted name) name

-- ## The lines

-- a line of fields
abbrev pub line_of : List (List ℕ) → List ℕ
line_of [] = ascii "\n"
line_of (f ∷ []) = f ++ ascii "\n"
line_of (f ∷ g ∷ fs) = f ++ ascii "," ++ line_of (g ∷ fs)

unfoldable pub summary_header : List ℕ
summary_header = ascii "file,number,place,rows,scans,live,exercised,records\n"

unfoldable pub summary_line : (name : List ℕ) → Replayed → List ℕ
summary_line name r =
    line_of
    (field name ∷ decimal r.number ∷ decimal r.place ∷ decimal r.rows ∷ decimal r.scans ∷ decimal r.live ∷ decimal r.exercised ∷ decimal r.records ∷ [])

-- ## Pieces, as the code writes them

-- three numbers, a comma behind each
unfoldable pub three : (a b c : ℕ) → List ℕ
three a b c = decimal a ++ ascii "," ++ (decimal b ++ ascii ",") ++ (decimal c ++ ascii ",")

-- the numbers before the records
abbrev pub fields : Replayed → List ℕ
fields r = r.number ∷ r.place ∷ r.rows ∷ r.scans ∷ r.live ∷ r.exercised ∷ []

-- the fields behind the name
unfoldable pub numbers : Replayed → List ℕ
numbers r = three r.number r.place r.rows ++ three r.scans r.live r.exercised ++ (decimal r.records ++ ascii "\n")

-- the most bytes of a name as a field, of a number with the byte behind it, of three numbers, and of seven
abbrev pub most_field : ℕ
most_field = 2 * most_name + 2

abbrev pub most_number : ℕ
most_number = 21

abbrev pub most_three : ℕ
most_three = 3 * most_number

abbrev pub most_numbers : ℕ
most_numbers = 7 * most_number
