-- The lines of a listing, as bytes. Document 01, "One session, whole": fields with a space between. That LF ends every
-- line, the last one too, is our decision.
use Rattle.std.specs.Prelude.{ℕ}
use mathlib.Core.List.{List, [], ◌∷◌, ◌++◌, flat_map}
use Rattle.bits.specs.Decimal.{ascii, decimal}
use Rattle.rules.specs.declared.EffectState.{EffectState}
use Rattle.rules.specs.declared.EffectState.TheVariants.{Tripped, WaitReset, Ready, WaitStart, Normal, Delayed}
use Rattle.effects.specs.declared.Event.{Event}

-- a line: its fields with a space between, and then LF
abbrev pub line_of : List (List ℕ) → List ℕ
line_of [] = ascii "\n"
line_of (f ∷ []) = f ++ ascii "\n"
line_of (f ∷ g ∷ fs) = f ++ ascii " " ++ line_of (g ∷ fs)

-- the first line: the names of the columns, and of those that stand behind them
unfoldable pub header_with : (further : List (List ℕ)) → List ℕ
header_with further =
    line_of ((ascii "seq" ∷ ascii "scan" ∷ ascii "effect" ∷ ascii "from" ∷ ascii "to" ∷ ascii "first" ∷ []) ++ further)

-- that of document 01
abbrev pub header : List ℕ
header = header_with []

-- the name of a state
unfoldable pub name : EffectState → List ℕ
name Tripped = ascii "tripped"
name WaitReset = ascii "wait-reset"
name Ready = ascii "ready"
name WaitStart = ascii "wait-start"
name Normal = ascii "normal"
name Delayed = ascii "delayed"

-- the line of an event record: its fields, and those that stand behind them
unfoldable pub line_with : Event → (further : List (List ℕ)) → List ℕ
line_with e further =
    line_of
    ((decimal e.seq ∷ decimal e.scan ∷ decimal e.effect ∷ name e.from ∷ name e.to ∷ decimal e.first_out ∷ []) ++ further)

-- that of document 01
abbrev pub line : Event → List ℕ
line e = line_with e []

-- the lines of event records, one after the other
abbrev pub lines : List Event → List ℕ
lines es = flat_map line es

-- the last line
unfoldable pub last_line : (rows scans live exercised : ℕ) → List ℕ
last_line r s l x =
    line_of
    (ascii "rows" ∷ decimal r ∷ ascii "scans" ∷ decimal s ∷ ascii "live" ∷ decimal l ∷ ascii "exercised" ∷ decimal x ∷ [])

-- the line of a refusal
unfoldable pub refusal_line : (number place : ℕ) → List ℕ
refusal_line n p = line_of (ascii "refused" ∷ decimal n ∷ ascii "at" ∷ decimal p ∷ [])
