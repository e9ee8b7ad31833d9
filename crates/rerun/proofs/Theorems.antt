-- What is promised of a whole replay, each theorem stated once by what it says. Document 01, "One session, whole". `replay s` is
-- what the bytes s result in; `first_rows s i` and `row_run s i` are what the code gives row by row (`Turns` has the laws for a
-- caller's loop: it begins, goes on, stops and ends).
use mathlib.Core.Path.{◌≡◌, refl, ap, ◌∙◌}
use mathlib.Core.List.{List, ◌++◌}
use mathlib.Core.Logic.{◌⊎◌}
use Prim.Native.Nat.{ℕ, ◌+◌, ◌*◌, ◌≤◌, ◌<◌}
use native.Mathlib.Nat.{mul-le-mul_left}
use native.Mathlib.Numerals.{add-one}
use native.Mathlib.Omega.{arith}
use lib.Dec.{leb}
use lib.ListN.{length}
use Rattle.effects.specs.declared.Event.{Event}
use Rattle.effects.specs.Records.{record_length, most_row_bytes}
use Rattle.rules.specs.Limits.{most_scans}
use Rattle.settings.specs.Refusals.{unless, or_else, granted, room_number}
use Rattle.settings.proofs.Refusals.{granted_refused, granted_number, room_enough, or_else_alone}
use Rattle.block.specs.State.{state_number}
use Rattle.block.specs.Scan.{scans_number, input_number}
use Rattle.block.specs.Held.{run, granted_held, refused_held, held_number, held_of}
use Rattle.recording.specs.Answers.{number, place, row_count_of}
use Rattle.recording.specs.Reader.{reading}
use Rattle.recording.specs.Steps.{row_place, rows_of}
use Rattle.recording.specs.Accepted.{Accepted}
use Rattle.rerun.specs.Replay.{Outcome, whole, started, joined, refused_at, replay_rows, replay, counts, refusal, answered, first_rows, row_of, row_run, events_of, sum_of_holds}
use Rattle.rerun.proofs.Files as files
use Rattle.rerun.proofs.Files.{by_rows}

-- ## The answer

-- its refusal number is the replay's
pub an_answer_has_the_number : (s : List ℕ) → (answered (replay s)).number ≡ (replay s).number
an_answer_has_the_number s =
    granted_number (counts (replay s).replay) (refusal (replay s).place) (λ r. r.number) (replay s).number
    (λ z. refl)
    (λ k. refl)

-- ## Row by row

-- the replay of a refused file has the reader's refusal number and place, and nothing has run
pub a_refused_file_is_not_run : (s : List ℕ) → (Accepted s → ⊥) → replay s ≡ refused_at (place (reading s).answer) started (number (reading s).answer)
unfolding replay
a_refused_file_is_not_run s h = granted_refused (replay_rows s (rows_of s)) (refused_at (place (reading s).answer) started) (number (reading s).answer) h

-- the replay of an accepted file is all its rows
pub a_replay_is_all_its_rows : (s : List ℕ) → Accepted s → replay s ≡ first_rows s (row_count_of (reading s).answer)
a_replay_is_all_its_rows = files.all_the_rows

-- zero rows give nothing; each row more runs from the state that the rows before it left, or is refused at its first byte
pub no_rows_give_nothing : (s : List ℕ) → first_rows s 0 ≡ whole started
no_rows_give_nothing = files.no_rows

pub one_row_more : (s : List ℕ) (i : ℕ) → i < row_count_of (reading s).answer → (first_rows s i).number ≡ 0
    → let r = (first_rows s i).replay in
    first_rows s (i + 1) ≡ granted (scans_number r.state.scans_done (row_of s i).hold) (whole (joined r (row_run s i))) (refused_at (row_place s i) r)
one_row_more = files.one_row_more

-- a refused row ends the replay
pub a_refused_row_ends_the_replay : (s : List ℕ) → Accepted s → (i : ℕ) → ((first_rows s i).number ≡ 0 → ⊥) → replay s ≡ first_rows s i
a_refused_row_ends_the_replay = files.ends_at_refusal

module _ (s : List ℕ) (accepted : Accepted s) where
  -- what holds of the first rows, however many, holds of the replay
  of-all : (P : Outcome → Type 0) → ((i : ℕ) → i ≤ row_count_of (reading s).answer → P (first_rows s i)) → P (replay s)
  of-all P h = rw (a_replay_is_all_its_rows s accepted) (h (row_count_of (reading s).answer) (omega arith))

  -- the events of the whole are those of its rows, joined, up to the refused row
  pub events_are_the_rows_joined : (replay s).replay.events ≡ events_of s (replay s).replay.rows
  events_are_the_rows_joined =
      of-all (λ o. o.replay.events ≡ events_of s o.replay.rows)
      (by_rows s (λ o. o.replay.events ≡ events_of s o.replay.rows) refl
      (λ i b z. rw (add-one (first_rows s i).replay.rows) (rw b.2 (ap (λ (l : List Event). l ++ (row_run s i).events) (b.3 ∙ ap (events_of s) b.2))))
      (λ i b h. b.3))

  -- ## What refuses a row

  -- with the room of any row, every row gets the answer of a valid held run that has room: refusal number 9 is the only one that can occur,
  -- and neither 8 nor 10 nor 2 to 6 can
  pub a_row_is_refused_by_9_alone : (i : ℕ) → i < row_count_of (reading s).answer
      → let st = (reading s).settings in let x = (first_rows s i).replay.state in
      (state_number st x ≡ 0) × (held_of st (row_of s i) x most_row_bytes ≡ granted (scans_number x.scans_done (row_of s i).hold) (granted_held st (row_of s i) x) (refused_held x))
  unfolding held_of held_number input_number row_run
  a_row_is_refused_by_9_alone i l =
      let st = (reading s).settings in
      let x = (first_rows s i).replay.state in
      let n = scans_number x.scans_done (row_of s i).hold in
      let due = record_length * length (run st (row_of s i) x).events in
      let state = (files.sound s accepted i).state in
      let input : input_number st x (row_of s i) ≡ n = rw (files.settings_right s accepted, state, files.row_right s accepted i l) in
      let room : n ≡ 0 → room_number due most_row_bytes ≡ 0 = λ z. room_enough due most_row_bytes (omega (arith, files.records-next s accepted i l z, files.most-effects s accepted)) in
      (state, ap (λ (k : ℕ). granted k (granted_held st (row_of s i) x) (refused_held x)) (ap (λ (k : ℕ). or_else k (room_number due most_row_bytes)) input ∙ or_else_alone n (room_number due most_row_bytes) room))

  -- an accepted file is replayed whole, or stops at the row whose scans cannot be counted
  pub whole_or_stopped : let o = replay s in let r = (replay s).replay in
      ((o.number ≡ 0) × (o.place ≡ 0) × (r.rows ≡ row_count_of (reading s).answer))
      ⊎ ((o.number ≡ 9) × (o.place ≡ row_place s r.rows) × (r.rows < row_count_of (reading s).answer) × (most_scans < r.state.scans_done + (row_of s r.rows).hold))
  whole_or_stopped = files.how_it_ends s accepted

  -- which is so exactly if the holds are more than 1,000,000,000 in all
  pub nine_for_too_many_scans : (replay s).number ≡ unless (leb (sum_of_holds (rows_of s)) most_scans) 9
  nine_for_too_many_scans = files.nine_by_holds s accepted

  -- ## Counts

  pub the_state_is_right : state_number (reading s).settings (replay s).replay.state ≡ 0
  the_state_is_right = of-all (λ o. state_number (reading s).settings o.replay.state ≡ 0) (λ i l. (files.sound s accepted i).state)

  -- a replay gives at most two records an effect and row
  pub two_records_an_effect_and_row : length (replay s).replay.events ≤ 2 * (reading s).settings.count * row_count_of (reading s).answer
  two_records_an_effect_and_row =
      let n = 2 * (reading s).settings.count in
      let few : length (replay s).replay.events ≤ n * (replay s).replay.rows = of-all (λ o. length o.replay.events ≤ n * o.replay.rows) (λ i l. (files.sound s accepted i).events) in
      let most : n * (replay s).replay.rows ≤ n * row_count_of (reading s).answer = mul-le-mul_left n (of-all (λ o. o.replay.rows ≤ row_count_of (reading s).answer) in_all) in
      omega (arith, few, most)
    where
      in_all : (i : ℕ) → i ≤ row_count_of (reading s).answer → (first_rows s i).replay.rows ≤ row_count_of (reading s).answer
      in_all =
          by_rows s (λ o. o.replay.rows ≤ row_count_of (reading s).answer) (omega arith)
          (λ i b z. omega (arith, b.0, b.2))
          (λ i b h. b.3)

  pub live_at_most_32_a_row : (replay s).replay.live ≤ 32 * (replay s).replay.rows
  live_at_most_32_a_row = of-all (λ o. o.replay.live ≤ 32 * o.replay.rows) (λ i l. (files.sound s accepted i).live)

  pub exercised_at_most_the_scans : (replay s).replay.exercised ≤ (replay s).replay.state.scans_done
  exercised_at_most_the_scans = of-all (λ o. o.replay.exercised ≤ o.replay.state.scans_done) (λ i l. (files.sound s accepted i).exercised)

  -- the scans done at the end are the sum of the holds of the rows
  pub scans_are_the_holds : (replay s).number ≡ 0 → (replay s).replay.state.scans_done ≡ sum_of_holds (rows_of s)
  scans_are_the_holds = files.scans-done s accepted
