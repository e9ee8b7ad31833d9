-- The events of rows are the changes of each effect's states: of a held run that nothing refuses, of the first rows of a recording, of its replay.
use mathlib.Core.Path.{◌≡◌, refl, ap, ap₂, sym, subst, ◌∙◌}
use mathlib.Core.List.{List, [], ◌∷◌, ◌++◌, append_assoc, append-nil}
use Prim.Native.Nat.{ℕ, ◌+◌, ◌≤◌, ◌<◌}
use native.Mathlib.Nat.{zero-add}
use native.Mathlib.Numerals.{add-one}
use native.Mathlib.Omega.{arith}
use lib.ListN.{length, take, length-append, length-map}
use lib.Seq.{take-suc}
use Rattle.rules.specs.declared.EffectState.{EffectState}
use Rattle.settings.specs.declared.Settings.{Settings}
use Rattle.settings.specs.declared.Row.{Row}
use Rattle.rules.specs.Limits.{most_scans}
use Rattle.settings.specs.Right.{known_of, settings_number, row_number}
use Rattle.settings.proofs.Refusals.{limit_kept}
use Rattle.block.specs.declared.State.{State}
use Rattle.block.specs.State.{state_number, fresh}
use Rattle.block.specs.Held.{start, run}
use Rattle.block.proofs.Theorems.{every_scan_is_accepted, scans_done_grow_by_the_hold}
use Rattle.settings.specs.Zeros.{no_row}
use Rattle.recording.specs.Answers.{row_count_of}
use Rattle.recording.specs.Reader.{reading}
use Rattle.recording.specs.Steps.{rows_of}
use Rattle.recording.specs.Accepted.{Accepted}
use Rattle.exactness.proofs.Trips.{length-rows_of}
use Rattle.rerun.specs.Replay.{Outcome, Replay, whole, started, joined, replay, first_rows, row_of, row_run}
use Rattle.rerun.proofs.Files.{by_rows, Before, number_at, sound, settings_right, row_right, all_the_rows}
use Rattle.trace.specs.Effect.{Change, own, changes, last_of}
use Rattle.trace.specs.States.{state_at, states_at, row_states, state_over, states_over, trace_to}
use Rattle.trace.proofs.Changes.{own-append, changes_append, last-append, map-append}
use Rattle.trace.proofs.Scans.{Accepts, held_changes, length-states, last_state}

-- ## A held run

module _ (st : Settings) (row : Row) (x : State) (settings : settings_number st ≡ 0) (state : state_number st x ≡ 0) (right-row : row_number (known_of st) row ≡ 0)
    (scans : x.scans_done + row.hold ≤ most_scans) where
  pub run_accepts : Accepts st row.words row.hold (start x)
  run_accepts k h = every_scan_is_accepted st row x settings state right-row scans k h _ (omega arith)

  pub run_changes : (i : ℕ) → own (1 + i) (run st row x).events ≡ changes x.scans_done (state_at i x) (states_at i (row_states st row x))
  unfolding run
  run_changes i = held_changes st i row.hold row.words (start x) run_accepts

-- ## Rows

module _ (st : Settings) where
  run-last : (i : ℕ) (row : Row) (x : State) → last_of (state_at i x) (states_at i (row_states st row x)) ≡ state_at i (run st row x).state
  unfolding run
  run-last i row x = last_state st i row.hold row.words (start x)

  -- the last state of rows
  pub rows_last : (i : ℕ) (rows : List Row) (x : State) → last_of (state_at i x) (states_at i (states_over st rows x)) ≡ state_at i (state_over st rows x)
  rows_last i [] x = refl
  rows_last i (row ∷ rows) x =
      ap (last_of (state_at i x)) (map-append (state_at i) (row_states st row x) (states_over st rows (run st row x).state))
      ∙ last-append (state_at i x) (states_at i (row_states st row x)) (states_at i (states_over st rows (run st row x).state))
      ∙ ap (λ (p : EffectState). last_of p (states_at i (states_over st rows (run st row x).state))) (run-last i row x)
      ∙ rows_last i rows (run st row x).state

  -- one row more
  pub state_more : (rows : List Row) (row : Row) (x : State) → state_over st (rows ++ (row ∷ [])) x ≡ (run st row (state_over st rows x)).state
  state_more [] row x = refl
  state_more (r ∷ rows) row x = state_more rows row (run st r x).state

  pub states_more : (rows : List Row) (row : Row) (x : State)
      → states_over st (rows ++ (row ∷ [])) x ≡ states_over st rows x ++ row_states st row (state_over st rows x)
  states_more [] row x = append-nil _
  states_more (r ∷ rows) row x =
      ap (λ (l : List State). row_states st r x ++ l) (states_more rows row (run st r x).state)
      ∙ sym (append_assoc (row_states st r x) (states_over st rows (run st r x).state) (row_states st row (state_over st rows (run st r x).state)))

-- ## A recording

-- what rows have given is told of by the trace of as many rows
pub record Told (s : List ℕ) (r : Replay) : Type 0 where
  pub state : r.state ≡ state_over (reading s).settings (take r.rows (rows_of s)) fresh
  pub scans : length (trace_to s r.rows) ≡ r.state.scans_done
  pub events : (i : ℕ) → own (1 + i) r.events ≡ changes 0 (state_at i fresh) (states_at i (trace_to s r.rows))

-- one row more that runs
told_more : (s : List ℕ) (r : Replay) → Told s r → r.rows < length (rows_of s)
    → let st = (reading s).settings in let row = row_of s r.rows in
    settings_number st ≡ 0 → state_number st r.state ≡ 0 → row_number (known_of st) row ≡ 0 → r.state.scans_done + row.hold ≤ most_scans
    → Told s (joined r (run st row r.state))
told_more s r t l settings state right-row scans =
    let st = (reading s).settings in
    let row = row_of s r.rows in
    let front = take r.rows (rows_of s) in
    let more : take (r.rows + 1) (rows_of s) ≡ front ++ (row ∷ []) = rw add-one (take-suc (rows_of s) r.rows no_row l) in
    let states : trace_to s (r.rows + 1) ≡ trace_to s r.rows ++ row_states st row r.state =
    ap (λ (rows : List Row). states_over st rows fresh) more
    ∙ states_more st front row fresh
    ∙ ap (λ (x : State). trace_to s r.rows ++ row_states st row x) (sym t.state)
    in
    record {
      state = ap (λ (x : State). (run st row x).state) t.state ∙ sym (state_more st front row fresh) ∙ ap (λ (rows : List Row). state_over st rows fresh) (sym more);
      scans =
          ap length states
          ∙ length-append (trace_to s r.rows) (row_states st row r.state)
          ∙ omega (arith, t.scans, length-states st row.hold row.words r.state, scans_done_grow_by_the_hold st row r.state settings state right-row scans);
      events = λ i.
          let before = states_at i (trace_to s r.rows) in
          let those = states_at i (row_states st row r.state) in
          own-append (1 + i) r.events (run st row r.state).events
          ∙ ap₂ (λ (a b : List Change). a ++ b) (t.events i)
          (run_changes st row r.state settings state right-row scans i
          ∙ (λ j. changes (done_told i j) (last-told i j) those))
          ∙ sym (changes_append 0 (state_at i fresh) before those)
          ∙ ap (changes 0 (state_at i fresh)) (sym (map-append (state_at i) (trace_to s r.rows) (row_states st row r.state)) ∙ ap (states_at i) (sym states));
    }
  where
    done_told : (i : ℕ) → r.state.scans_done ≡ 0 + length (states_at i (trace_to s r.rows))
    done_told i = sym t.scans ∙ sym (length-map (trace_to s r.rows) (state_at i)) ∙ sym (zero-add _)

    last-told : (i : ℕ) → state_at i r.state ≡ last_of (state_at i fresh) (states_at i (trace_to s r.rows))
    last-told i = ap (state_at i) t.state ∙ sym (rows_last (reading s).settings i (take r.rows (rows_of s)) fresh)

module _ (s : List ℕ) (accepted : Accepted s) where
  abbrev T : Outcome → Type 0
  T o = Told s o.replay

  told_start : T (whole started)
  told_start = record { state = refl; scans = refl; events = λ i. refl }

  told_runs : (i : ℕ) → Before s T told_start i → number_at s i ≡ 0 → T (whole (joined (first_rows s i).replay (row_run s i)))
  unfolding row_run
  told_runs i b z =
      let st = (reading s).settings in
      let r = (first_rows s i).replay in
      subst (λ (k : ℕ). Told s (joined r (run st (row_of s k) r.state))) b.2
      (told_more s r b.3 (omega (arith, b.0, b.2, length-rows_of s)) (settings_right s accepted) (sound s accepted i).state
      (rw b.2 (row_right s accepted i b.0))
      (rw b.2 (limit_kept (r.state.scans_done + (row_of s i).hold) most_scans 8 z)))

  pub told_first : (i : ℕ) → i ≤ row_count_of (reading s).answer → Told s (first_rows s i).replay
  told_first = by_rows s T told_start told_runs (λ i b h. b.3)

  pub told_replay : Told s (replay s).replay
  told_replay = rw (all_the_rows s accepted) (told_first (row_count_of (reading s).answer) (omega arith))
