-- What is promised of the states after each single scan, and of the events that tell them. Each law is stated once over the slot i, from 0,
-- of effect number 1 + i, and over the state q. `own` takes an effect's events, `told` reads its state off them, `stood_by` and `tripped_by` its totals.
use mathlib.Core.Path.{◌≡◌, refl, ap, sym, ◌∙◌}
use mathlib.Core.List.{List, ◌∷◌}
use Prim.Native.Nat.{ℕ, zero, suc, ◌+◌, ◌≤◌, ◌<◌}
use native.Mathlib.Nat.{zero-add}
use native.Mathlib.Omega.{arith}
use lib.Seq.{take_all}
use mathlib.Core.Logic.{◌⊎◌, inl, inr}
use lib.ListN.{length, get_or, replicate, length-map, get_or-map}
use Rattle.rules.specs.declared.EffectState.{EffectState}
use Rattle.rules.specs.declared.EffectState.TheVariants.{Tripped}
use Rattle.rules.specs.Rules.{no_slot}
use Rattle.settings.specs.declared.Settings.{Settings}
use Rattle.settings.specs.declared.Row.{Row}
use Rattle.rules.specs.Limits.{most_scans}
use Rattle.settings.specs.Right.{known_of, settings_number, row_number}
use Rattle.block.specs.declared.State.{State}
use Rattle.block.specs.State.{state_number, fresh}
use Rattle.block.specs.Held.{start, stepped, run}
use Rattle.recording.specs.Answers.{row_count_of}
use Rattle.recording.specs.Reader.{reading}
use Rattle.recording.specs.Steps.{row_place, rows_of}
use Rattle.recording.specs.Accepted.{Accepted}
use Rattle.exactness.proofs.Trips.{length-rows_of}
use Rattle.rerun.specs.Replay.{replay, row_of, sum_of_holds}
use Rattle.rerun.proofs.Theorems.{scans_are_the_holds, whole_or_stopped}
use Rattle.trace.specs.Effect.{own, changes, told, stood, tripped, over_states, standing, stood_by, tripped_by}
use Rattle.trace.specs.States.{state_at, states_at, row_states, states_over, trace}
use Rattle.trace.proofs.Changes as by
use Rattle.trace.proofs.Scans.{length-states, states_are}
use Rattle.trace.proofs.Rows.{run_changes, told_replay}

-- ## One effect

-- its six totals add up to the scans
pub six_totals_add_up : (ps : List EffectState) → over_states (λ q. stood q ps) ≡ length ps
six_totals_add_up = by.totals_add_up

-- ## A held run

-- the states of a hold are those that its single scans come to
pub states_of_a_hold : (st : Settings) (row : Row) (x : State) (k : ℕ) (d : State) → k < row.hold
    → get_or (row_states st row x) k d ≡ (stepped st row.words (suc k) (start x)).state
states_of_a_hold st row x k d h = states_are st row.hold k row.words (start x) d h

module _ (st : Settings) (row : Row) (x : State) (settings : settings_number st ≡ 0) (state : state_number st x ≡ 0) (right-row : row_number (known_of st) row ≡ 0)
    (scans : x.scans_done + row.hold ≤ most_scans) (i : ℕ) where
  -- an effect's events are the changes of its states
  pub a_run's_events_are_its_changes : own (1 + i) (run st row x).events ≡ changes x.scans_done (state_at i x) (states_at i (row_states st row x))
  a_run's_events_are_its_changes = run_changes st row x settings state right-row scans i

  as_many : length (states_at i (row_states st row x)) ≡ row.hold
  as_many = length-map (row_states st row x) (state_at i) ∙ length-states st row.hold row.words x

  -- so they tell its state after each scan: that of the last event so far, else its state before the run
  pub a_run's_events_tell_its_states : (k : ℕ) → k ≤ row.hold
      → told (x.scans_done + k) (own (1 + i) (run st row x).events) (state_at i x) ≡ state_at i (stepped st row.words k (start x)).state
  a_run's_events_tell_its_states k h =
      ap (λ l. told (x.scans_done + k) l (state_at i x)) a_run's_events_are_its_changes
      ∙ by.changes_tell x.scans_done (state_at i x) (states_at i (row_states st row x)) k (state_at i x) (omega (arith, as_many))
      ∙ at k h
    where
      at : (k : ℕ) → k ≤ row.hold → get_or (state_at i x ∷ states_at i (row_states st row x)) k (state_at i x) ≡ state_at i (stepped st row.words k (start x)).state
      at zero h = refl
      at (suc k) h = get_or-map (state_at i) (row_states st row x) k x ∙ ap (state_at i) (states_of_a_hold st row x k x h)

  -- and its totals
  pub a_run's_stretches_are_its_scans : (q : EffectState)
      → stood_by q (x.scans_done + row.hold) (standing x.scans_done (state_at i x)) (own (1 + i) (run st row x).events) ≡ stood q (states_at i (row_states st row x))
  a_run's_stretches_are_its_scans q =
      ap (stood_by q (x.scans_done + row.hold) (standing x.scans_done (state_at i x))) a_run's_events_are_its_changes
      ∙ by.stood_from_here q x.scans_done row.hold (state_at i x) (states_at i (row_states st row x)) as_many

  pub a_run's_trips_are_its_events : tripped_by (own (1 + i) (run st row x).events) ≡ tripped (state_at i x) (states_at i (row_states st row x))
  a_run's_trips_are_its_events = ap tripped_by a_run's_events_are_its_changes ∙ by.trips_by_changes x.scans_done (state_at i x) (states_at i (row_states st row x))

-- ## A recording

-- every effect starts Tripped
pub all_start_tripped : (i : ℕ) → state_at i fresh ≡ Tripped
all_start_tripped i = go 16 i
  where
    go : (n i : ℕ) → (get_or (replicate n no_slot) i no_slot).state ≡ Tripped
    go zero i = refl
    go (suc n) zero = refl
    go (suc n) (suc i) = go n i

module _ (s : List ℕ) (accepted : Accepted s) where
  -- there is a state for each scan done, and where every row ran, for each scan of the holds
  pub a_state_for_each_scan : length (trace s) ≡ (replay s).replay.state.scans_done
  unfolding trace
  a_state_for_each_scan = (told_replay s accepted).scans

  pub a_state_for_each_scan_of_the_holds : (replay s).number ≡ 0 → length (trace s) ≡ sum_of_holds (rows_of s)
  a_state_for_each_scan_of_the_holds z = a_state_for_each_scan ∙ scans_are_the_holds s accepted z

  -- where every row ran, the trace is that of all rows
  pub the_whole_trace : (replay s).number ≡ 0 → trace s ≡ states_over (reading s).settings (rows_of s) fresh
  unfolding trace
  the_whole_trace z = ap (λ (rows : List Row). states_over (reading s).settings rows fresh) (take_all (replay s).replay.rows (rows_of s) (all-rows (whole_or_stopped s accepted)))
    where
      all-rows : (((replay s).number ≡ 0) × ((replay s).place ≡ 0) × ((replay s).replay.rows ≡ row_count_of (reading s).answer))
          ⊎ (((replay s).number ≡ 9) × ((replay s).place ≡ row_place s (replay s).replay.rows) × ((replay s).replay.rows < row_count_of (reading s).answer) × (most_scans < (replay s).replay.state.scans_done + (row_of s (replay s).replay.rows).hold))
          → length (rows_of s) ≤ (replay s).replay.rows
      all-rows (inl h) = omega (arith, h.2, length-rows_of s)
      all-rows (inr h) = absurd (omega (arith, h.0, z))

  module _ (i : ℕ) where
    pub a_replay's_events_are_its_changes : own (1 + i) (replay s).replay.events ≡ changes 0 Tripped (states_at i (trace s))
    unfolding trace
    a_replay's_events_are_its_changes = (told_replay s accepted).events i ∙ ap (λ p. changes 0 p (states_at i (trace s))) (all_start_tripped i)

    in_all : length (states_at i (trace s)) ≡ (replay s).replay.state.scans_done
    in_all = length-map (trace s) (state_at i) ∙ a_state_for_each_scan

    -- after scan number k the effect's state is that of its last event so far, else Tripped
    pub a_replay's_events_tell_its_states : (k : ℕ) → k ≤ (replay s).replay.state.scans_done
        → told k (own (1 + i) (replay s).replay.events) Tripped ≡ get_or (Tripped ∷ states_at i (trace s)) k Tripped
    a_replay's_events_tell_its_states k h =
        ap (λ l. told k l Tripped) a_replay's_events_are_its_changes
        ∙ ap (λ c. told c (changes 0 Tripped (states_at i (trace s))) Tripped) (sym (zero-add k))
        ∙ by.changes_tell 0 Tripped (states_at i (trace s)) k Tripped (omega (arith, in_all))

    -- totals by stretches are those of single scans
    pub a_replay's_stretches_are_its_scans : (q : EffectState)
        → stood_by q (replay s).replay.state.scans_done (standing 0 Tripped) (own (1 + i) (replay s).replay.events) ≡ stood q (states_at i (trace s))
    a_replay's_stretches_are_its_scans q =
        ap (stood_by q (replay s).replay.state.scans_done (standing 0 Tripped)) a_replay's_events_are_its_changes
        ∙ ap (λ c. stood_by q c (standing 0 Tripped) (changes 0 Tripped (states_at i (trace s)))) (sym (zero-add _))
        ∙ by.stood_from_here q 0 (replay s).replay.state.scans_done Tripped (states_at i (trace s)) in_all

    pub a_replay's_trips_are_its_events : tripped_by (own (1 + i) (replay s).replay.events) ≡ tripped Tripped (states_at i (trace s))
    a_replay's_trips_are_its_events = ap tripped_by a_replay's_events_are_its_changes ∙ by.trips_by_changes 0 Tripped (states_at i (trace s))

    -- an effect's six totals add up to the scans done
    pub six_totals_are_the_scans : over_states (λ q. stood q (states_at i (trace s))) ≡ (replay s).replay.state.scans_done
    six_totals_are_the_scans = six_totals_add_up (states_at i (trace s)) ∙ in_all

    -- no total passes them
    pub no_total_passes_the_scans : (q : EffectState) → stood q (states_at i (trace s)) ≤ (replay s).replay.state.scans_done
    no_total_passes_the_scans q = omega (arith, by.stood_few q (states_at i (trace s)), in_all)

    pub no_more_trips_than_scans : tripped Tripped (states_at i (trace s)) ≤ (replay s).replay.state.scans_done
    no_more_trips_than_scans = omega (arith, by.tripped_few Tripped (states_at i (trace s)), in_all)
