-- What a replay answers, and what the lent buffers then hold.
use mathlib.Core.Path.{◌≡◌, refl, sym, ap, ◌∙◌}
use mathlib.Core.List.{List}
use Prim.Native.Nat.{ℕ, ◌*◌, ◌<◌}
use native.Mathlib.Omega.{arith}
use lib.ListN.{length}
use lib.Seq.{sets}
use Rattle.effects.specs.Records.{record_length, bytes}
use Rattle.settings.specs.Refusals.{or_else, room_number}
use Rattle.settings.proofs.Refusals.{granted_none, granted_refused, granted_number, or_else_none, or_else_alone}
use Rattle.recording.specs.Answer as A
use Rattle.recording.specs.Reader.{reading}
use Rattle.rerun.specs.declared.Replayed.{Replayed}
use Rattle.rerun.specs.Replay.{Outcome, replay, counts, refusal}
use Rattle.rerun.proofs.Files.{refusal_number, refused_replay}
use Rattle.numbers.specs.Numbers.{totals_bytes}
use Rattle.pohandira.specs.Crossing.{replay_number, records_into, totals_or_refusal}
use Rattle.pohandira.proofs.Theorems.{ten_is_last, ten_for_the_totals, no_place_for_ten}

module _ (s records : List ℕ) (totals_room : ℕ) where
  abbrev n : ℕ
  n = replay_number s (length records) totals_room

  -- a replay with these totals has left these bytes
  abbrev pub Laid : Replayed → List ℕ → Type 0
  Laid r records' = (r ≡ totals_or_refusal s (length records) totals_room) × (records' ≡ records_into s totals_room records)

  -- a refusal: no record, and its refusal number and place
  pub refused : (m p : ℕ) → m ≡ n → (m ≡ 0 → ⊥) → p ≡ (replay s).place → Laid (refusal p m) records
  refused m p e h at =
      let other : n ≡ 0 → ⊥ = λ z. h (e ∙ z) in (
        (λ j. refusal (at j) (e j)) ∙ sym (granted_refused (counts (replay s).replay) (refusal (replay s).place) n other),
        sym (granted_refused (sets records 0 (bytes (replay s).replay.events)) (λ k. records) n other),
      )

  -- a file that the reader refuses
  pub refused_file : (m p : ℕ) → (reading s).answer ≡ A.Refused m p → Laid (refusal p m) records
  refused_file m p e =
      let is = refused_replay s m p e in
      let not-0 = refusal_number s m p e in
      let same_number : (replay s).number ≡ m = ap (λ (o : Outcome). o.number) is in
      refused m p (sym (ten_is_last s (length records) totals_room (λ z. not-0 (sym same_number ∙ z)) ∙ same_number)) not-0 (sym (ap (λ (o : Outcome). o.place) is))

  -- where the totals do not fit nothing is written
  pub too_little_room : (replay s).number ≡ 0 → totals_room < totals_bytes → Laid (refusal 0 10) records
  too_little_room z h =
      refused 10 0 (sym (ten_for_the_totals s (length records) totals_room z h)) (λ e. omega (arith, e)) (sym (no_place_for_ten s z))

  -- no refusal: all records, and the totals
  pub crosses : (r : Replayed) (records' : List ℕ) → n ≡ 0 → r ≡ counts (replay s).replay → records' ≡ sets records 0 (bytes (replay s).replay.events) → Laid r records'
  crosses r records' z e f = (
    e ∙ sym (granted_none (counts (replay s).replay) (refusal (replay s).place) n z),
    f ∙ sym (granted_none (sets records 0 (bytes (replay s).replay.events)) (λ k. records) n z),
  )

-- the totals have the refusal number of the replay
totals_number : (s : List ℕ) (room totals_room : ℕ) → (totals_or_refusal s room totals_room).number ≡ replay_number s room totals_room
totals_number s room totals_room =
    granted_number (counts (replay s).replay) (refusal (replay s).place) (λ (r : Replayed). r.number) (replay_number s room totals_room) (λ z. refl) (λ k. refl)

-- the room of the totals refuses nothing that the replay has not refused
pub told_number : (s : List ℕ) (room totals_room : ℕ) (r : Replayed) → r ≡ totals_or_refusal s room totals_room → or_else r.number (room_number totals_bytes totals_room) ≡ replay_number s room totals_room
told_number s room totals_room r e =
    let n = replay_number s room totals_room in
    ap (λ (k : ℕ). or_else k (room_number totals_bytes totals_room)) (ap (λ (q : Replayed). q.number) e ∙ totals_number s room totals_room)
    ∙ or_else_alone n (room_number totals_bytes totals_room)
    (λ z. (or_else_none (room_number (record_length * length (replay s).replay.events) room) (room_number totals_bytes totals_room) (or_else_none (replay s).number _ z).1).1)
