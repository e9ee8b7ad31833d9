-- Laws of rows that are replayed one after the other: what follows rows that were all replayed, that a refusal ends the replay, and
-- what holds from row to row (the state is valid, and the counts are small).
use mathlib.Core.Path.{◌≡◌, refl, sym, ap, ◌∙◌}
use mathlib.Core.Bool.{Bool, true, false}
use mathlib.Core.List.{List, [], ◌∷◌, ◌++◌, append_assoc, append-nil}
use Prim.Native.Nat.{ℕ, zero, suc, ◌+◌, ◌*◌, ◌≤◌, ◌<◌}
use native.Mathlib.Nat.{add-zero, mul-suc, mul-zero}
use native.Mathlib.Numerals.{add-one}
use native.Mathlib.Omega.{arith}
use borrow.Author.Tests.{le-leb, lt-leb, leb-false}
use lib.Dec.{leb}
use lib.ListN.{length, get_or, take, drop, length-append}
use lib.Seq.{drop_at}
use Rattle.bits.specs.Words.{one}
use Rattle.effects.specs.declared.Event.{Event}
use Rattle.effects.specs.Scan.{any_exercised}
use Rattle.settings.specs.declared.Settings.{Settings}
use Rattle.settings.specs.declared.Row.{Row}
use Rattle.rules.specs.Limits.{most_scans}
use Rattle.settings.specs.Right.{known_of, settings_number, row_number}
use Rattle.settings.specs.Signals.{signals}
use Rattle.settings.specs.Refusals.{unless, granted}
use Rattle.settings.proofs.Refusals.{granted_none, granted_either, granted_alike, limit_kept}
use Rattle.settings.proofs.Right.{count_few}
use Rattle.block.specs.State.{state_number}
use Rattle.block.specs.Scan.{scans_number}
use Rattle.block.specs.Held.{run}
use Rattle.block.proofs.Runs.{due_few}
use Rattle.block.proofs.Theorems.{right_input_is_accepted, a_held_run_keeps_right, a_held_run_keeps_its_slots, live_at_most_twice_the_effects, exercised_is_the_hold_or_nothing, scans_done_grow_by_the_hold}
use Rattle.recording.specs.Encode.{All}
use Rattle.rerun.specs.Replay.{Replay, Outcome, whole, after_row, refused_at, rows_from, sum_of_holds}

-- a list begins with another
abbrev InFront : List Event → List Event → Type 0
InFront front es = es ≡ front ++ drop (length front) es

in-front : (front es rest : List Event) → es ≡ front ++ rest → InFront front es
in-front front es rest e = e ∙ ap (λ (l : List Event). front ++ l) (sym (ap (drop (length front)) e ∙ drop_at front rest (length front) refl))

in_front_of_itself : (es : List Event) → InFront es es
in_front_of_itself es = in-front es es [] (sym (append-nil es))

-- ## Rows, and the rows after them

module _ (st : Settings) (w : ℕ) where
  -- where nothing is refused, neither the first row nor one after it is
  none_refused : (x : Row) (xs : List Row) (at : ℕ) (r : Replay) → (rows_from st w at (x ∷ xs) r).number ≡ 0
      → (scans_number r.state.scans_done x.hold ≡ 0) × ((rows_from st w (at + w) xs (after_row st x r)).number ≡ 0)
  none_refused x xs at r = of (scans_number r.state.scans_done x.hold) (rows_from st w (at + w) xs (after_row st x r))
    where
      of : (n : ℕ) (o : Outcome) → (granted n o (refused_at at r)).number ≡ 0 → (n ≡ 0) × (o.number ≡ 0)
      of zero o h = (refl, h)
      of (suc k) o h = absurd (omega (arith, h))

  -- after rows that are all replayed, the others are replayed from what they have given
  pub then_the_others : (xs ys : List Row) (at : ℕ) (r : Replay) → (rows_from st w at xs r).number ≡ 0
      → rows_from st w at (xs ++ ys) r ≡ rows_from st w (at + w * length xs) ys (rows_from st w at xs r).replay
  then_the_others [] ys at r h = rw (mul-zero, add-zero)
  then_the_others (x ∷ xs) ys at r h =
      let p = none_refused x xs at r h in
      let place : at + w + w * length xs ≡ at + w * suc (length xs) = omega (arith, mul-suc w (length xs)) in
      rw (p.0, ← place) (then_the_others xs ys (at + w) (after_row st x r) p.1)

  -- a refusal among the first rows ends the replay
  pub refusal_ends : (xs ys : List Row) (at : ℕ) (r : Replay) → ((rows_from st w at xs r).number ≡ 0 → ⊥) → rows_from st w at (xs ++ ys) r ≡ rows_from st w at xs r
  refusal_ends [] ys at r h = absurd (h refl)
  refusal_ends (x ∷ xs) ys at r h =
      let n = scans_number r.state.scans_done x.hold in
      let o = rows_from st w (at + w) xs (after_row st x r) in
      granted_alike o (refused_at at r) n (rows_from st w (at + w) (xs ++ ys) (after_row st x r))
      (λ z. refusal_ends xs ys (at + w) (after_row st x r) (λ q. h (ap (λ (v : Outcome). v.number) (granted_none o (refused_at at r) n z) ∙ q)))

  -- where no row is refused, the place is 0
  pub none_refused_whole : (xs : List Row) (at : ℕ) (r : Replay) → (rows_from st w at xs r).number ≡ 0 → rows_from st w at xs r ≡ whole (rows_from st w at xs r).replay
  none_refused_whole [] at r h = refl
  none_refused_whole (x ∷ xs) at r h =
      let p = none_refused x xs at r h in
      rw p.0 (none_refused_whole xs (at + w) (after_row st x r) p.1)

  -- more rows keep the events before them in front
  pub events_stay : (xs : List Row) (at : ℕ) (r : Replay) → InFront r.events (rows_from st w at xs r).replay.events
  events_stay [] at r = in_front_of_itself r.events
  events_stay (x ∷ xs) at r =
      let more = (run st x r.state).events in
      let last = (rows_from st w (at + w) xs (after_row st x r)).replay.events in
      granted_either (rows_from st w (at + w) xs (after_row st x r)) (refused_at at r) (λ o. InFront r.events o.replay.events) (scans_number r.state.scans_done x.hold)
      (λ z. in-front r.events last _ (events_stay xs (at + w) (after_row st x r) ∙ append_assoc r.events more (drop (length (r.events ++ more)) last)))
      (λ k. in_front_of_itself r.events)

  -- where no row is refused, each row is counted
  pub rows_counted : (xs : List Row) (at : ℕ) (r : Replay) → (rows_from st w at xs r).number ≡ 0 → (rows_from st w at xs r).replay.rows ≡ r.rows + length xs
  rows_counted [] at r h = omega arith
  rows_counted (x ∷ xs) at r h =
      let p = none_refused x xs at r h in
      rw p.0 (omega (arith, rows_counted xs (at + w) (after_row st x r) p.1))

-- ## What holds from row to row

pub record Sound (st : Settings) (r : Replay) : Type 0 where
  pub state : state_number st r.state ≡ 0
  pub slots : length r.state.slots ≡ 16
  pub events : length r.events ≤ 2 * st.count * r.rows
  pub live : r.live ≤ 32 * r.rows
  pub exercised : r.exercised ≤ r.state.scans_done

module _ (st : Settings) (right : settings_number st ≡ 0) where
  module _ (row : Row) (right-row : row_number (known_of st) row ≡ 0) (r : Replay) (sound : Sound st r) (z : scans_number r.state.scans_done row.hold ≡ 0) where
    scans : r.state.scans_done + row.hold ≤ most_scans
    scans = limit_kept (r.state.scans_done + row.hold) most_scans 8 z

    pub done_after : (run st row r.state).state.scans_done ≡ r.state.scans_done + row.hold
    done_after = scans_done_grow_by_the_hold st row r.state right sound.state right-row scans

    exercised_few : (run st row r.state).exercised ≤ row.hold
    exercised_few = rw (exercised_is_the_hold_or_nothing st row r.state right sound.state right-row scans) (some (any_exercised (signals st row.words)))
      where
        some : (b : Bool) → row.hold * one b ≤ row.hold
        some true = omega arith
        some false = omega arith

    live_few : (run st row r.state).live ≤ 32
    live_few = omega (arith, live_at_most_twice_the_effects st row r.state right sound.state right-row scans, count_few st right)

    -- a row gives at most two records an effect
    pub records_few : length (run st row r.state).events ≤ 2 * st.count
    records_few = due_few st row r.state (right_input_is_accepted st row r.state right sound.state right-row scans)

    events_few : length (r.events ++ (run st row r.state).events) ≤ 2 * st.count * (r.rows + 1)
    events_few =
        rw add-one
        (omega (arith, length-append r.events (run st row r.state).events, records_few, sound.events, mul-suc (2 * st.count) r.rows))

    -- what holds before a row holds after it
    pub sound_after : Sound st (after_row st row r)
    sound_after =
        record {
          state = a_held_run_keeps_right st row r.state right sound.state right-row scans;
          slots = a_held_run_keeps_its_slots st row r.state right sound.state right-row scans ∙ sound.slots;
          events = events_few;
          live = omega (arith, live_few, sound.live);
          exercised = omega (arith, exercised_few, done_after, sound.exercised);
        }

    pub within_scans : (run st row r.state).state.scans_done ≤ most_scans
    within_scans = omega (arith, done_after, scans)

  pub sound_rows : (w at : ℕ) (xs : List Row) → All (row_number (known_of st)) xs → (r : Replay) → Sound st r → Sound st (rows_from st w at xs r).replay
  sound_rows w at [] all r sound = sound
  sound_rows w at (x ∷ xs) all r sound =
      granted_either (rows_from st w (at + w) xs (after_row st x r)) (refused_at at r) (λ o. Sound st o.replay) (scans_number r.state.scans_done x.hold)
      (λ z. sound_rows w (at + w) xs all.1 (after_row st x r) (sound_after x all.0 r sound z))
      (λ k. sound)

  -- the scans done are the sum of the holds of the rows
  pub done_is_holds : (w at : ℕ) (xs : List Row) → All (row_number (known_of st)) xs → (r : Replay) → Sound st r → (rows_from st w at xs r).number ≡ 0
      → (rows_from st w at xs r).replay.state.scans_done ≡ r.state.scans_done + sum_of_holds xs
  done_is_holds w at [] all r sound h = omega arith
  done_is_holds w at (x ∷ xs) all r sound h =
      let p = none_refused st w x xs at r h in
      let e = done_is_holds w (at + w) xs all.1 (after_row st x r) (sound_after x all.0 r sound p.0) p.1 in
      rw p.0 (omega (arith, e, done_after x all.0 r sound p.0))

  -- a row is refused exactly if the holds of all rows, with the scans before them, are too many
  pub refused_by_holds : (w at : ℕ) (xs : List Row) → All (row_number (known_of st)) xs → (r : Replay) → Sound st r → r.state.scans_done ≤ most_scans
      → (rows_from st w at xs r).number ≡ unless (leb (r.state.scans_done + sum_of_holds xs) most_scans) 9
  refused_by_holds w at [] all r sound few = sym (ap (λ (b : Bool). unless b 9) (le-leb (r.state.scans_done + 0) most_scans (omega arith)))
  refused_by_holds w at (x ∷ xs) all r sound few =
      go (leb (r.state.scans_done + x.hold) most_scans) refl
      (λ z. refused_by_holds w (at + w) xs all.1 (after_row st x r) (sound_after x all.0 r sound z) (within_scans x all.0 r sound z))
    where
      done : ℕ
      done = r.state.scans_done

      rest : Outcome
      rest = rows_from st w (at + w) xs (after_row st x r)

      go : (b : Bool) → leb (done + x.hold) most_scans ≡ b
          → (scans_number done x.hold ≡ 0 → rest.number ≡ unless (leb ((after_row st x r).state.scans_done + sum_of_holds xs) most_scans) 9)
          → (granted (unless b 9) rest (refused_at at r)).number ≡ unless (leb (done + (x.hold + sum_of_holds xs)) most_scans) 9
      go true e others =
          let z : scans_number done x.hold ≡ 0 = ap (λ (b : Bool). unless b 9) e in
          let sum : (after_row st x r).state.scans_done + sum_of_holds xs ≡ done + (x.hold + sum_of_holds xs) = omega (arith, done_after x all.0 r sound z) in
          others z ∙ ap (λ (n : ℕ). unless (leb n most_scans) 9) sum
      go false e others =
          sym (ap (λ (b : Bool). unless b 9) (lt-leb (done + (x.hold + sum_of_holds xs)) most_scans (omega (arith, leb-false (done + x.hold) most_scans e))))

-- ## What holds of all rows holds of some

module _ {A : Type 0} (check : A → ℕ) where
  pub all_take : (i : ℕ) (xs : List A) → All check xs → All check (take i xs)
  all_take zero xs h = tt
  all_take (suc i) [] h = tt
  all_take (suc i) (x ∷ xs) h = (h.0, all_take i xs h.1)

  pub all-at : (i : ℕ) (xs : List A) (d : A) → i < length xs → All check xs → check (get_or xs i d) ≡ 0
  all-at i [] d l h = absurd (omega arith)
  all-at zero (x ∷ xs) d l h = h.0
  all-at (suc i) (x ∷ xs) d l h = all-at i xs d (omega arith) h.1
