-- The bytes of an event record, and of records; and bytes that are those of events. Document 01, "The rules of one scan".
use Rattle.std.specs.Prelude.{ℕ, ◌+◌, ◌*◌, ◌≤◌, ◌≡◌, length, take, drop}
use mathlib.Core.List.{List, [], ◌∷◌, flat_map}
use Rattle.bits.specs.Layout.{pack}
use Rattle.rules.specs.Limits.{most_effects}
use Rattle.rules.specs.Rules.{code}
use Rattle.effects.specs.declared.Event.{Event}
use Rattle.effects.specs.declared.Record.{Record}

-- a record is 12 bytes long
abbrev pub record_length : ℕ
record_length = 12

-- a row has at most two records an effect
abbrev pub most_records : ℕ
most_records = 2 * most_effects

-- the most bytes that a row's records take
abbrev pub most_row_bytes : ℕ
most_row_bytes = record_length * most_records

-- the widths: sequence (2), scan number (4), effect (1), state before (1), state after (1), zero (1), first-out after (2)
abbrev pub record_layout : List ℕ
record_layout = 2 ∷ 4 ∷ 1 ∷ 1 ∷ 1 ∷ 1 ∷ 2 ∷ []

-- the bytes of a record, big-endian, of the numbers that it holds
abbrev pub record_of : (seq scan effect from to first : ℕ) → List ℕ
record_of q c i p r f = pack record_layout (q ∷ c ∷ i ∷ p ∷ r ∷ 0 ∷ f ∷ [])

-- the bytes of a record that the code holds
abbrev pub bytes_of : Record → List ℕ
bytes_of r = record_of r.seq r.scan r.effect r.from r.to r.first_out

-- the bytes of the record of an event
unfoldable pub encode : Event → List ℕ
encode e = record_of e.seq e.scan e.effect (code e.from) (code e.to) e.first_out

-- the bytes of events: their records, one after the other
abbrev pub bytes : List Event → List ℕ
bytes es = flat_map encode es

-- ## Bytes that are records

-- the record of an event stands at a place
abbrev pub StandsAt : List ℕ → (at : ℕ) → Event → Type 0
StandsAt s at e = (at + record_length ≤ length s) × (take record_length (drop at s) ≡ encode e)

-- the records of events stand from a place on
abbrev pub StandFrom : List ℕ → (at : ℕ) → List Event → Type 0
StandFrom s at es = (at + record_length * length es ≤ length s) × (take (record_length * length es) (drop at s) ≡ bytes es)

-- ## Events of effects

-- every event is one of the effects 1 to n
abbrev pub Numbered : ℕ → List Event → Type 0
Numbered n [] = Unit {0}
Numbered n (e ∷ es) = (1 ≤ e.effect) × (e.effect ≤ n) × Numbered n es

-- the records of some n events of the effects 1 to 16 stand at the front
abbrev pub Recorded : List ℕ → (n : ℕ) → Type 0
Recorded records n = (es : List Event) × (length es ≡ n) × StandFrom records 0 es × Numbered most_effects es
