-- The bytes that answer a scan, and hexadecimal digits. second/README.md lays the answers out.
use Rattle.std.specs.Prelude.{ℕ, ◌+◌, ◌/◌, ◌%◌, cond, ltb}
use mathlib.Core.List.{List, [], ◌∷◌, ◌++◌, flat_map}
use Rattle.bits.specs.Layout.{pack}
use Rattle.bits.specs.Numbers.{digits}
use Rattle.rules.specs.declared.Slot.{Slot}
use Rattle.rules.specs.Rules.{code}
use Rattle.block.specs.declared.State.{State}
use Rattle.block.specs.Answer.{Scanned}

-- a slot: state code 1, timer 4, first-out 2
unfoldable pub slot_bytes : Slot → List ℕ
slot_bytes x = pack (1 ∷ 4 ∷ 2 ∷ []) (code x.state ∷ x.timer ∷ x.first_out ∷ [])

-- a state: scans done 4, next sequence number 2, and the slots
unfoldable pub state_bytes : State → List ℕ
state_bytes x = pack (4 ∷ 2 ∷ []) (x.scans_done ∷ x.next ∷ []) ++ flat_map slot_bytes x.slots

-- the answer to a scan: refusal number 1, place 4, state, effect word 2, latent word 2, number of records 2
unfoldable pub answer_bytes : Scanned → List ℕ
answer_bytes r =
    pack (1 ∷ 4 ∷ []) (r.number ∷ r.place % 4294967296 ∷ []) ++ state_bytes r.state
    ++ pack (2 ∷ 2 ∷ 2 ∷ []) (r.effect ∷ r.latent ∷ r.records % 65536 ∷ [])

-- a hexadecimal digit: 0 to 9 and a to f
abbrev pub hex_digit : ℕ → ℕ
hex_digit v = cond (ltb v 10) (48 + v) (87 + v)

abbrev pub hex_byte : ℕ → List ℕ
hex_byte b = hex_digit (b / 16) ∷ hex_digit (b % 16) ∷ []

-- the digits of a, a space, and the digits of b
unfoldable pub pair_bytes : List ℕ → List ℕ → List ℕ
pair_bytes a b = flat_map hex_byte a ++ 32 ∷ flat_map hex_byte b

-- a line: the digits of a, a space, the digits of b, and a last byte
abbrev pub line_bytes : List ℕ → List ℕ → (last : ℕ) → List ℕ
line_bytes a b last = pair_bytes a b ++ digits 1 last
