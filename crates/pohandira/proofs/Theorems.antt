-- What is promised of what crosses, each theorem stated once by what it says. Document 01, "Refusal numbers". `check_number`,
-- `replay_number` and `count_number` are the results, `check_into`, `records_into`, `totals_into` and `count_into` what the lent buffers hold, by
-- the contracts in src/.
use mathlib.Core.Path.{◌≡◌, refl, sym, ap, ◌∙◌}
use mathlib.Core.Bool.{Bool, true, false}
use mathlib.Core.List.{List}
use Prim.Native.Nat.{ℕ, zero, suc, ◌*◌, ◌≤◌, ◌<◌}
use native.Mathlib.Nat.{mul_assoc, mul-le-mul_right}
use native.Mathlib.Omega.{arith}
use borrow.Author.Tests.{leb-true, leb-false}
use lib.Dec.{leb}
use lib.ListN.{length}
use lib.Seq.{sets}
use Rattle.effects.specs.Records.{record_length, bytes, most_row_bytes}
use Rattle.settings.specs.Refusals.{unless, or_else, granted, room_number}
use Rattle.settings.proofs.Refusals.{granted_none, granted_refused, granted_either, granted_number, granted_alike, limit_kept, room_enough, room_short, or_else_alone, or_else_first, or_else_next, or_else_none}
use Rattle.recording.specs.Answers.{number, row_count_of}
use Rattle.recording.specs.Reader.{reading}
use Rattle.recording.specs.Accepted.{Accepted}
use Rattle.rerun.specs.declared.Replayed.{Replayed}
use Rattle.rerun.specs.Replay.{Outcome, replay, counts, refusal, answered}
use Rattle.rerun.proofs.Files.{most-effects, whole_so_far}
use Rattle.rerun.proofs.Theorems.{a_refused_file_is_not_run, a_replay_is_all_its_rows, two_records_an_effect_and_row}
use Rattle.numbers.specs.Numbers.{check_bytes, totals_bytes, numbers, fitted, crossing}
use Rattle.numbers.proofs.Stores.{length-numbers, stays}
use Rattle.pohandira.specs.Crossing.{most_effect_bytes, check_number, count_number, count_into, replay_number, records_into, totals_or_refusal, totals_into}

-- ## A check

-- a refused file has the reader's refusal number, whatever the room
pub check_ten_is_last : (s : List ℕ) (room : ℕ) → (Accepted s → ⊥) → check_number s room ≡ number (reading s).answer
check_ten_is_last s room h = let n = number (reading s).answer in sym (or_else_first n (room_number check_bytes room) n refl h)

-- and so has every file where the answer fits; where it does not, an accepted one has 10
pub check_with_room : (s : List ℕ) (room : ℕ) → check_bytes ≤ room → check_number s room ≡ number (reading s).answer
check_with_room s room h = ap (or_else (number (reading s).answer)) (room_enough check_bytes room h) ∙ or_else_alone (number (reading s).answer) 0 (λ z. refl)

pub check_without_room : (s : List ℕ) (room : ℕ) → Accepted s → room < check_bytes → check_number s room ≡ 10
check_without_room s room a h = let n = number (reading s).answer in sym (or_else_next n (room_number check_bytes room) n 10 refl a (sym (room_short check_bytes room h)))

-- ## A replay

-- only an accepted file is replayed whole
whole_is_accepted : (s : List ℕ) → (replay s).number ≡ 0 → Accepted s
whole_is_accepted s z = go (number (reading s).answer) refl
  where
    go : (n : ℕ) → number (reading s).answer ≡ n → Accepted s
    go zero e = e
    go (suc n) e = sym (ap (λ (o : Outcome). o.number) (a_refused_file_is_not_run s (λ a. omega (arith, a, e)))) ∙ z

-- the place is 0 unless the reader or 9 refuses, so for 10 too
pub no_place_for_ten : (s : List ℕ) → (replay s).number ≡ 0 → (replay s).place ≡ 0
no_place_for_ten s z =
    let all = a_replay_is_all_its_rows s (whole_is_accepted s z) in
    ap (λ (o : Outcome). o.place) (all ∙ whole_so_far s (row_count_of (reading s).answer) (ap (λ (o : Outcome). o.number) (sym all) ∙ z))

-- two records an effect and row are the most that can be due
pub most_due : (s : List ℕ) → Accepted s → record_length * length (replay s).replay.events ≤ most_effect_bytes * (reading s).settings.count * row_count_of (reading s).answer
most_due s a =
    let n = (reading s).settings.count in
    let rows = row_count_of (reading s).answer in
    omega (arith, two_records_an_effect_and_row s a, mul_assoc 2 n rows, mul_assoc most_effect_bytes n rows)

module _ (s : List ℕ) (room totals_room : ℕ) where
  -- 1 to 7 and 9 come first, whatever the room
  pub ten_is_last : ((replay s).number ≡ 0 → ⊥) → replay_number s room totals_room ≡ (replay s).number
  ten_is_last h = sym (or_else_first (replay s).number _ (replay s).number refl h)

  abbrev due : ℕ
  due = record_length * length (replay s).replay.events

  by_room : (replay s).number ≡ 0 → replay_number s room totals_room ≡ or_else (room_number due room) (room_number totals_bytes totals_room)
  by_room z = sym (or_else_next (replay s).number _ (replay s).number _ refl z refl)

  -- and then 10 is given exactly if the records due or the totals do not fit
  pub ten_for_the_records : (replay s).number ≡ 0 → room < due → replay_number s room totals_room ≡ 10
  ten_for_the_records z h = by_room z ∙ ap (λ (n : ℕ). or_else n (room_number totals_bytes totals_room)) (room_short due room h)

  pub ten_for_the_totals : (replay s).number ≡ 0 → totals_room < totals_bytes → replay_number s room totals_room ≡ 10
  ten_for_the_totals z h = by_room z ∙ ap (or_else (room_number due room)) (room_short totals_bytes totals_room h) ∙ either (leb due room)
    where
      either : (b : Bool) → or_else (unless b 10) 10 ≡ 10
      either true = refl
      either false = refl

  room_for_both : due ≤ room → totals_bytes ≤ totals_room → or_else (room_number due room) (room_number totals_bytes totals_room) ≡ 0
  room_for_both h k = λ j. or_else (room_enough due room h j) (room_enough totals_bytes totals_room k j)

  pub nothing_refused : (replay s).number ≡ 0 → due ≤ room → totals_bytes ≤ totals_room → replay_number s room totals_room ≡ 0
  nothing_refused z h k = by_room z ∙ room_for_both h k

  -- room for what is due suffices
  with-room : ((replay s).number ≡ 0 → due ≤ room) → totals_bytes ≤ totals_room → replay_number s room totals_room ≡ (replay s).number
  with-room h k = or_else_alone (replay s).number _ (λ z. room_for_both (h z) k)

  -- so room of 24 bytes for each effect and row does, and room of 384 for each row
  pub always_room : most_effect_bytes * (reading s).settings.count * row_count_of (reading s).answer ≤ room → totals_bytes ≤ totals_room → replay_number s room totals_room ≡ (replay s).number
  always_room h = with-room (λ z. omega (arith, most_due s (whole_is_accepted s z), h))

  pub room_of_384_a_row : most_row_bytes * row_count_of (reading s).answer ≤ room → totals_bytes ≤ totals_room → replay_number s room totals_room ≡ (replay s).number
  room_of_384_a_row h =
      let n = (reading s).settings.count in
      let rows = row_count_of (reading s).answer in
      with-room (λ z.
      let few : 2 * n ≤ 32 = omega (arith, most-effects s (whole_is_accepted s z)) in
      let most : 2 * n * rows ≤ 32 * rows = mul-le-mul_right rows few in
      omega (arith, two_records_an_effect_and_row s (whole_is_accepted s z), most, h))

  -- the refusal number that crosses is the result, and the place is the replay's
  pub the_number_crosses : (totals_or_refusal s room totals_room).number ≡ replay_number s room totals_room
  the_number_crosses =
      granted_number (counts (replay s).replay) (refusal (replay s).place) (λ r. r.number) (replay_number s room totals_room)
      (λ z. refl)
      (λ k. refl)

  pub the_place_crosses : (totals_or_refusal s room totals_room).place ≡ (replay s).place
  the_place_crosses =
      granted_either (counts (replay s).replay) (refusal (replay s).place) (λ r. r.place ≡ (replay s).place) (replay_number s room totals_room)
      (λ z. sym (no_place_for_ten s (or_else_none (replay s).number _ z).0))
      (λ k. refl)

-- on any refusal number but 0 the records stay as they were
pub refused_untouched : (s records : List ℕ) (totals_room : ℕ) → (replay_number s (length records) totals_room ≡ 0 → ⊥) → records_into s totals_room records ≡ records
refused_untouched s records totals_room h =
    granted_refused (sets records 0 (bytes (replay s).replay.events)) (λ k. records) (replay_number s (length records) totals_room) h

-- ## A count

-- where nothing is refused, the records that a count tells are those that are due
pub counted_records : (s : List ℕ) → (replay s).number ≡ 0 → (answered (replay s)).records ≡ length (replay s).replay.events
counted_records s z = ap (λ (r : Replayed). r.records) (granted_none (counts (replay s).replay) (refusal (replay s).place) (replay s).number z)

-- where the totals fit, a count has the refusal number of the replay itself
pub count_with_room : (s : List ℕ) (totals_room : ℕ) → totals_bytes ≤ totals_room → count_number s totals_room ≡ (replay s).number
count_with_room s totals_room h = ap (or_else (replay s).number) (room_enough totals_bytes totals_room h) ∙ or_else_alone (replay s).number 0 (λ z. refl)

-- with room for all records a replay gives the refusal number of a count
pub a_replay_answers_as_counted : (s : List ℕ) (room totals_room : ℕ) → ((replay s).number ≡ 0 → due s room totals_room ≤ room) → replay_number s room totals_room ≡ count_number s totals_room
a_replay_answers_as_counted s room totals_room h =
    let totals = room_number totals_bytes totals_room in
    granted_alike totals (λ n. n) (replay s).number _ (λ z. ap (λ (n : ℕ). or_else n totals) (room_enough (due s room totals_room) room (h z)))

-- and its totals
pub a_replay_totals_as_counted : (s totals : List ℕ) (room : ℕ) → ((replay s).number ≡ 0 → due s room (length totals) ≤ room) → totals_into s room totals ≡ count_into s totals
a_replay_totals_as_counted s totals room h = go (leb totals_bytes (length totals)) refl
  where
    answer : ℕ → Replayed
    answer n = granted n (counts (replay s).replay) (refusal (replay s).place)

    left : (n : ℕ) → length totals < totals_bytes → totals ≡ fitted (numbers (crossing (answer n))) totals
    left n short = stays (numbers (crossing (answer n))) totals (omega (arith, short, length-numbers (crossing (answer n))))

    go : (b : Bool) → leb totals_bytes (length totals) ≡ b → totals_into s room totals ≡ count_into s totals
    go true e = ap (λ (n : ℕ). fitted (numbers (crossing (answer n))) totals) (with-room s room (length totals) h (leb-true totals_bytes (length totals) e))
    go false e = let short = leb-false totals_bytes (length totals) e in sym (left (replay_number s room (length totals)) short) ∙ left (replay s).number short

-- a count answers 0 only where its totals fit
pub counted_totals_fit : (s : List ℕ) (totals_room : ℕ) → count_number s totals_room ≡ 0 → totals_bytes ≤ totals_room
counted_totals_fit s totals_room z = limit_kept totals_bytes totals_room 9 (or_else_none (replay s).number _ z).1

-- after a count that answers 0, room for the records that it tells suffices, and less does not
module _ (s : List ℕ) (count_room room totals_room : ℕ) (z : count_number s count_room ≡ 0) where
  whole : (replay s).number ≡ 0
  whole = (or_else_none (replay s).number _ z).0

  pub counted_room_suffices : record_length * (answered (replay s)).records ≤ room → totals_bytes ≤ totals_room → replay_number s room totals_room ≡ 0
  counted_room_suffices h k = nothing_refused s room totals_room whole (omega (arith, h, counted_records s whole)) k

  pub less_than_counted_does_not : room < record_length * (answered (replay s)).records → replay_number s room totals_room ≡ 10
  less_than_counted_does_not h = ten_for_the_records s room totals_room whole (omega (arith, h, counted_records s whole))
