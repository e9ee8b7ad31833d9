-- What crosses to a caller of the library, and when. The refusal numbers 1 to 7, 9 and 10 are document 01's, "Refusal numbers", and
-- 10 comes last. A refusal gives its refusal number, its place and zeros, and no record. Records are as in "The rules of one scan".
use Rattle.std.specs.Prelude.{ℕ, ◌*◌, List, [], ◌∷◌, length}
use Rattle.std.proofs.lemmas.List.Edits.{sets}
use Rattle.effects.specs.Records.{record_length, bytes}
use Rattle.settings.specs.Refusals.{or_else, granted, room_number}
use Rattle.recording.specs.Answer.{Answer}
use Rattle.recording.specs.Answers.{number, place, row_count_of}
use Rattle.recording.specs.Reader.{reading}
use Rattle.rerun.specs.declared.Replayed.{Replayed}
use Rattle.rerun.specs.Replay.{replay, counts, refusal, answered}
use Rattle.numbers.specs.Numbers.{check_bytes, totals_bytes, numbers, fitted, crossing}

-- ## A check: what the reader answers

-- refusal number, place, rows
abbrev pub checked : Answer → List ℕ
checked answer = number answer ∷ place answer ∷ row_count_of answer ∷ []

abbrev pub check_number : List ℕ → (room : ℕ) → ℕ
check_number s room = or_else (number (reading s).answer) (room_number check_bytes room)

abbrev pub check_into : List ℕ → List ℕ → List ℕ
check_into s out = fitted (numbers (checked (reading s).answer)) out

-- ## A replay, from a fresh state

-- the most bytes of records that an effect has in a row: two records
abbrev pub most_effect_bytes : ℕ
most_effect_bytes = record_length * 2

-- the reader's refusal number or 9; else 10 if the records due or the totals do not fit
abbrev pub replay_number : List ℕ → (room totals_room : ℕ) → ℕ
replay_number s room totals_room =
    or_else (replay s).number (or_else (room_number (record_length * length (replay s).replay.events) room) (room_number totals_bytes totals_room))

-- on 0 all records, and on any other refusal number nothing
abbrev pub records_into : List ℕ → (totals_room : ℕ) → List ℕ → List ℕ
records_into s totals_room out =
    granted (replay_number s (length out) totals_room) (sets out 0 (bytes (replay s).replay.events)) (λ n. out)

-- on 0 what all rows have given; else the refusal. Its place is the replay's: 0 for 10
abbrev pub totals_or_refusal : List ℕ → (room totals_room : ℕ) → Replayed
totals_or_refusal s room totals_room = granted (replay_number s room totals_room) (counts (replay s).replay) (refusal (replay s).place)

abbrev pub totals_into : List ℕ → (room : ℕ) → List ℕ → List ℕ
totals_into s room out = fitted (numbers (crossing (totals_or_refusal s room (length out)))) out

-- ## A count: a replay whose records go nowhere

-- the reader's refusal number or 9; else 10 if the totals do not fit
abbrev pub count_number : List ℕ → (totals_room : ℕ) → ℕ
count_number s totals_room = or_else (replay s).number (room_number totals_bytes totals_room)

-- what all rows have given, the records first; or the refusal
abbrev pub count_into : List ℕ → List ℕ → List ℕ
count_into s out = fitted (numbers (crossing (answered (replay s)))) out
