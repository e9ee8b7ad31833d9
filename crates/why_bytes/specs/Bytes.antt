-- The reasons of a recording in lent bytes, 8 bytes a reason, as they cross to other languages. Document 02, L4: of each event, at its own
-- scan, and of each effect, after the last scan.
use Rattle.std.specs.Prelude.{ℕ, ◌*◌, length}
use mathlib.Core.List.{List, flat_map}
use Rattle.std.proofs.lemmas.List.Edits.{sets}
use Rattle.settings.specs.Refusals.{or_else, granted, room_number}
use Rattle.recording.specs.Reader.{reading}
use Rattle.rerun.specs.Replay.{replay}
use Rattle.reason_bytes.specs.Bytes.{numbers_of}
use Rattle.reasoned.specs.Reasoned.{Reasoned, reasoned, reasons_now}

-- a reason is 8 bytes long
abbrev pub reason_length : ℕ
reason_length = 8

-- ## Of each event

-- the reasons of events, one after the other
abbrev pub reason_bytes : List Reasoned → List ℕ
reason_bytes ts = flat_map (λ (t : Reasoned). numbers_of t.reason) ts

-- the reader's refusal number or 9; else 10 if the reasons due do not fit
abbrev pub reasons_number : List ℕ → (room : ℕ) → ℕ
reasons_number s room = or_else (replay s).number (room_number (reason_length * length (replay s).replay.events) room)

-- on 0 the reasons of all events, in their order; on any other refusal number no byte is touched
abbrev pub reasons_into : (s out : List ℕ) → List ℕ
reasons_into s out = granted (reasons_number s (length out)) (sets out 0 (reason_bytes (reasoned s))) (λ n. out)

-- ## Of each effect

-- the reader's refusal number or 9; else 10 if a reason for each effect does not fit
abbrev pub now_number : List ℕ → (room : ℕ) → ℕ
now_number s room = or_else (replay s).number (room_number (reason_length * (reading s).settings.count) room)

-- on 0 the reasons of all effects after the last scan, in their order; on any other refusal number no byte is touched
abbrev pub now_into : (s out : List ℕ) → List ℕ
now_into s out = granted (now_number s (length out)) (sets out 0 (flat_map numbers_of (reasons_now s))) (λ n. out)
