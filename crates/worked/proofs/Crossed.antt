-- Document 01's session as it crosses, computed to its bytes.
use mathlib.Core.Path.{◌≡◌, refl, sym, ap, ◌∙◌}
use mathlib.Core.List.{List, [], ◌∷◌, flat_map}
use Prim.Native.Nat.{ℕ, ◌*◌, ◌≤◌}
use native.Mathlib.Omega.{arith}
use lib.ListN.{length}
use lib.Seq.{sets}
use Rattle.effects.specs.Records.{record_length, encode, bytes}
use Rattle.recording.specs.Answer.{Answer}
use Rattle.recording.specs.Answer as A
use Rattle.recording.specs.Answers.{number}
use Rattle.rerun.specs.declared.Replayed.{Replayed}
use Rattle.rerun.specs.Replay.{replay, counts, refusal, answered}
use Rattle.settings.proofs.Refusals.{granted_none}
use Rattle.worked.specs.Recorded.{session, session_events}
use Rattle.worked.proofs.Recorded.{the_session_is_read, the_session}
use Rattle.numbers.specs.Numbers.{check_bytes, totals_bytes, numbers, fitted, crossing}
use Rattle.pohandira.specs.Crossing.{checked, check_number, check_into, count_number, count_into, replay_number, records_into, totals_into}
use Rattle.worked.specs.Crossed.{session_records, session_totals, session_answer}
use Rattle.numbers.proofs.Stores.{fits}
use Rattle.pohandira.proofs.Answers.{crosses}
use Rattle.pohandira.proofs.Theorems.{check_with_room, nothing_refused, count_with_room}

records_spelled : bytes session_events ≡ session_records
unfolding encode flat_map
records_spelled = refl

totals_spelled : numbers (5 ∷ 2 ∷ 8 ∷ 3 ∷ 5 ∷ 0 ∷ 0 ∷ []) ≡ session_totals
unfolding flat_map
totals_spelled = refl

answer_spelled : numbers (checked (A.Accepted 2 22 24)) ≡ session_answer
unfolding flat_map
answer_spelled = refl

pub the_session_is_checked : (answer : List ℕ) → check_bytes ≤ length answer → (check_number session (length answer) ≡ 0) × (check_into session answer ≡ sets answer 0 session_answer)
the_session_is_checked answer room = (
  check_with_room session (length answer) room ∙ ap number the_session_is_read,
  ap (λ (a : Answer). fitted (numbers (checked a)) answer) the_session_is_read ∙ ap (λ (l : List ℕ). fitted l answer) answer_spelled ∙ sym (fits session_answer answer room),
)

records_are : bytes (replay session).replay.events ≡ session_records
records_are = ap bytes the_session.1 ∙ records_spelled

totals_are : numbers (crossing (counts (replay session).replay)) ≡ session_totals
totals_are =
    let o = the_session in
    (λ j. numbers (length (o.1 j) ∷ o.2 j ∷ o.3 j ∷ o.4 j ∷ o.5 j ∷ 0 ∷ 0 ∷ [])) ∙ totals_spelled

pub the_session_is_counted : (totals : List ℕ) → totals_bytes ≤ length totals → (count_number session (length totals) ≡ 0) × (count_into session totals ≡ sets totals 0 session_totals)
the_session_is_counted totals room =
    let r = replay session in
    let whole : answered r ≡ counts r.replay = granted_none (counts r.replay) (refusal r.place) r.number the_session.0 in (
      count_with_room session (length totals) room ∙ the_session.0,
      ap (λ (a : Replayed). fitted (numbers (crossing a)) totals) whole ∙ ap (λ (l : List ℕ). fitted l totals) totals_are ∙ sym (fits session_totals totals room),
    )

module _ (records totals : List ℕ) (room : record_length * 5 ≤ length records) (totals-room : totals_bytes ≤ length totals) where
  pub the_session_crosses : (replay_number session (length records) (length totals) ≡ 0)
      × (records_into session (length totals) records ≡ sets records 0 session_records)
      × (totals_into session (length records) totals ≡ sets totals 0 session_totals)
  the_session_crosses =
      let few : record_length * length (replay session).replay.events ≤ length records = omega (arith, room, ap length the_session.1) in
      let none = nothing_refused session (length records) (length totals) the_session.0 few totals-room in
      let all = crosses session records (length totals) (counts (replay session).replay) (sets records 0 session_records) none refl (ap (sets records 0) (sym records_are)) in (
        none,
        sym all.1,
        ap (λ (r : Replayed). fitted (numbers (crossing r)) totals) (sym all.0) ∙ ap (λ (l : List ℕ). fitted l totals) totals_are ∙ sym (fits session_totals totals totals-room),
      )
