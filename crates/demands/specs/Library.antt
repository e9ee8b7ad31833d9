-- The static library's refusals, in order. Its `answer` and `totals` carry the refusal itself, and here stands what they hold. Document
-- 01, "Refusal numbers", as far as it reaches a caller in another language.
use Rattle.std.specs.Prelude.{◌≡◌, List, [], ◌∷◌, ◌⊎◌, ℕ, ◌+◌, ◌*◌, ◌≤◌, ◌<◌, length}
use Rattle.std.proofs.lemmas.List.Edits.{sets}
use Rattle.effects.specs.Records.{bytes}
use Rattle.recording.specs.Answers.{number, place, row_count_of}
use Rattle.recording.specs.Reader.{reading}
use Rattle.recording.specs.Steps.{row_place}
use Rattle.recording.specs.Refused.{Refused}
use Rattle.recording.specs.Accepted.{Accepted}
use Rattle.rerun.specs.Replay.{counts, answered, replay, row_of}
use Rattle.numbers.specs.Numbers.{numbers, crossing}
use Rattle.pohandira.specs.Crossing.{check_number, check_into, count_number, count_into, replay_number, records_into, totals_into}

-- A check (`pohandira_check`) refuses by the reader's refusal number, whatever the room, and last by 10: room below 24 bytes
pub record CheckInOrder (s answer : List ℕ) : Type 0 where
  pub the_readers : (Accepted s → ⊥) → let a = (reading s).answer in
      (check_number s (length answer) ≡ number a) × Refused s (number a) (place a) × (row_count_of a ≡ 0)
  pub ten : Accepted s → length answer < 24 → check_number s (length answer) ≡ 10
  pub right : Accepted s → 24 ≤ length answer → check_number s (length answer) ≡ 0
  -- with that room the answer begins with refusal number, place and rows, and without it no byte is touched
  pub in_room : 24 ≤ length answer → let a = (reading s).answer in check_into s answer ≡ sets answer 0 (numbers (number a ∷ place a ∷ row_count_of a ∷ []))
  pub left : length answer < 24 → check_into s answer ≡ answer

-- A replay (`pohandira_replay`) refuses by the reader's refusal number, then by 9, both whatever the room, and last by 10: room below
-- 12 bytes times the records due, or below the totals' 56. n is the refusal number
pub record ReplayInOrder (s records totals : List ℕ) (n : ℕ) : Type 0 where
  pub the_readers : (Accepted s → ⊥) → let a = (reading s).answer in
      (n ≡ number a) × ((replay s).place ≡ place a) × Refused s (number a) (place a)
  pub nine : Accepted s → ((replay s).number ≡ 0 → ⊥) → let r = (replay s).replay in
      (n ≡ 9) × ((replay s).place ≡ row_place s r.rows) × (r.rows < row_count_of (reading s).answer) × (1000000000 < r.state.scans_done + (row_of s r.rows).hold)
  pub ten : (replay s).number ≡ 0 → (length records < 12 * length (replay s).replay.events) ⊎ (length totals < 56) → (n ≡ 10) × ((replay s).place ≡ 0)
  pub whole : (replay s).number ≡ 0 → 12 * length (replay s).replay.events ≤ length records → 56 ≤ length totals → n ≡ 0
  -- a refusal touches no record; its totals are five zeros, the refusal number and its place; without room for these no byte is touched
  pub no_record : (n ≡ 0 → ⊥) → records_into s (length totals) records ≡ records
  pub in_room : (n ≡ 0 → ⊥) → 56 ≤ length totals
      → totals_into s (length records) totals ≡ sets totals 0 (numbers (0 ∷ 0 ∷ 0 ∷ 0 ∷ 0 ∷ n ∷ (replay s).place ∷ []))
  pub left : length totals < 56 → totals_into s (length records) totals ≡ totals
  -- without refusal the records stand in their buffer, and what all rows have given stands in the totals
  pub all_records : n ≡ 0 → records_into s (length totals) records ≡ sets records 0 (bytes (replay s).replay.events)
  pub all_totals : n ≡ 0 → 56 ≤ length totals → totals_into s (length records) totals ≡ sets totals 0 (numbers (crossing (counts (replay s).replay)))

-- A count (`pohandira_count`) answers what a replay does that has room for all records: the same refusal number, and the same totals
pub record CountAsReplayed (s records totals : List ℕ) : Type 0 where
  pub number : ((replay s).number ≡ 0 → 12 * length (replay s).replay.events ≤ length records) → count_number s (length totals) ≡ replay_number s (length records) (length totals)
  pub totals_are : ((replay s).number ≡ 0 → 12 * length (replay s).replay.events ≤ length records) → count_into s totals ≡ totals_into s (length records) totals
  -- so after a count that answers 0 a replay needs room for just the records that the totals tell, their first number
  pub enough : count_number s (length totals) ≡ 0 → 12 * (answered (replay s)).records ≤ length records → replay_number s (length records) (length totals) ≡ 0
  pub too_few : count_number s (length totals) ≡ 0 → length records < 12 * (answered (replay s)).records → replay_number s (length records) (length totals) ≡ 10
