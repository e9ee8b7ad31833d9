-- What is promised of the reasons of a replay, each theorem stated once by what it says, and what a row and its records tell of them: so
-- neither the records' reasons nor the reasons after the last scan need the scans of a hold.
use mathlib.Core.Path.{◌≡◌, refl, ap, ap₂, sym, ◌∙◌}
use mathlib.Core.List.{List, [], ◌∷◌, ◌++◌, map}
use Prim.Native.Nat.{ℕ, zero, suc, ◌+◌, ◌-◌, ◌≤◌, ◌<◌}
use native.Mathlib.Omega.{arith}
use lib.ListN.{length, get_or, length-map}
use Rattle.bits.specs.Lists.{tabulate}
use Rattle.bits.proofs.Lists.{tabulate_ext}
use Rattle.rules.specs.Limits.{most_scans}
use Rattle.rules.specs.Rules.{no_slot}
use Rattle.effects.specs.declared.Event.{Event}
use Rattle.settings.specs.declared.Settings.{Settings}
use Rattle.settings.specs.declared.Row.{Row}
use Rattle.settings.specs.Signals.{signals_of}
use Rattle.settings.specs.Right.{known_of, settings_number, row_number}
use Rattle.block.specs.declared.State.{State}
use Rattle.block.specs.State.{state_number}
use Rattle.block.specs.Held.{words_at, start, stepped, run}
use Rattle.recording.specs.Accepted.{Accepted}
use Rattle.recording.specs.Reader.{reading}
use Rattle.rerun.specs.Replay.{replay, first_rows, row_of, row_run, events_of}
use Rattle.rerun.proofs.Theorems.{events_are_the_rows_joined}
use Rattle.trace.specs.Effect.{own, told}
use Rattle.trace.specs.States.{state_at}
use Rattle.trace.proofs.Changes.{map-append}
use Rattle.trace.proofs.Rows.{run_accepts}
use Rattle.trace.proofs.Theorems.{a_run's_events_tell_its_states}
use Rattle.reasons.specs.declared.Reason.{Reason}
use Rattle.reasons.specs.Given.{signs_of}
use Rattle.reasoned.specs.Reasoned.{Reasoned, reason_at, hold_reasons, reasoned_row, reasoned_rows, reasoned}
use Rattle.reasoned.specs.Told.{signs_for, with_reason, reason_last}
use Rattle.reasoned.proofs.Told.{hold_told}
use Rattle.reasoned.proofs.Last.{reasons_at_last, last-told}

-- ## The events

-- the events of a row have the reasons that the row tells of its records
pub a_row_tells_its_reasons : (s : List ℕ) (i : ℕ) → reasoned_row s i ≡ map (with_reason (signs_for (reading s).settings (row_of s i).words)) (row_run s i).events
unfolding reasoned_row row_run run
a_row_tells_its_reasons s i =
    let st = (reading s).settings in
    let w = (row_of s i).words in
    sym (hold_told st (signs_for st w) (row_of s i).hold w (start (first_rows s i).replay.state)
    (λ k. let n : 1 + k - 1 ≡ k = omega arith in ap (λ (m : ℕ). signs_of (signals_of st w m)) n))

-- they are the row's events
without : (f : Event → Reason) (es : List Event) → map (λ (t : Reasoned). t.event) (map (λ (e : Event). record { event = e; reason = f e }) es) ≡ es
without f [] = refl
without f (e ∷ es) = ap (λ (l : List Event). e ∷ l) (without f es)

pub a_row's_events : (s : List ℕ) (i : ℕ) → map (λ (t : Reasoned). t.event) (reasoned_row s i) ≡ (row_run s i).events
a_row's_events s i = ap (map (λ (t : Reasoned). t.event)) (a_row_tells_its_reasons s i) ∙ without _ (row_run s i).events

rows'_events : (s : List ℕ) (n : ℕ) → map (λ (t : Reasoned). t.event) (reasoned_rows s n) ≡ events_of s n
rows'_events s zero = refl
rows'_events s (suc n) =
    map-append (λ (t : Reasoned). t.event) (reasoned_rows s n) (reasoned_row s n)
    ∙ ap₂ (λ (a b : List Event). a ++ b) (rows'_events s n) (a_row's_events s n)

-- the events with reasons are the replay's events, in their order
pub the_replay's_events : (s : List ℕ) → Accepted s → map (λ (t : Reasoned). t.event) (reasoned s) ≡ (replay s).replay.events
unfolding reasoned
the_replay's_events s a = rows'_events s (replay s).replay.rows ∙ sym (events_are_the_rows_joined s a)

pub as_many_reasons_as_events : (s : List ℕ) → Accepted s → length (reasoned s) ≡ length (replay s).replay.events
as_many_reasons_as_events s a = sym (length-map (reasoned s) (λ (t : Reasoned). t.event)) ∙ ap length (the_replay's_events s a)

-- ## After the last scan

module _ (st : Settings) (row : Row) (x : State) (settings : settings_number st ≡ 0) (state : state_number st x ≡ 0) (right-row : row_number (known_of st) row ≡ 0)
    (scans : x.scans_done + row.hold ≤ most_scans) (slots : st.count ≤ length x.slots) (n : ℕ) (hold : row.hold ≡ suc n) where
  -- the row, the record's states and the slots after the run tell the reasons after its last scan
  pub a_run_tells_its_last_reasons : hold_reasons st row.words n x
      ≡ tabulate (λ i. reason_last st row.words i (told (x.scans_done + n) (own (1 + i) (run st row x).events) (state_at i x)) (get_or (run st row x).state.slots i no_slot)) st.count
  unfolding run
  a_run_tells_its_last_reasons =
      reasons_at_last st n row.words (start x)
      ∙ tabulate_ext (reason_at st (words_at n row.words) (stepped st row.words n (start x)).state) _ st.count (λ i h. each i h)
    where
      each : (i : ℕ) → i < st.count → reason_at st (words_at n row.words) (stepped st row.words n (start x)).state i
          ≡ reason_last st row.words i (told (x.scans_done + n) (own (1 + i) (run st row x).events) (state_at i x)) (get_or (run st row x).state.slots i no_slot)
      each i h =
          last-told st n row.words (start x) i (λ k l. run_accepts st row x settings state right-row scans k (omega (arith, l, hold))) h slots
          ∙ ap₂ (λ p (m : ℕ). reason_last st row.words i p (get_or (stepped st row.words m (start x)).state.slots i no_slot))
          (sym (a_run's_events_tell_its_states st row x settings state right-row scans i n (omega (arith, hold)))) (sym hold)
