-- What is promised of the block, beside its contracts: those of `State::scan` and `State::held` give their whole answers by the
-- definitions `scan_of`, `scan_into`, `held_of` and `held_into`, and here stands what follows from those. `demands` cites these theorems.
use mathlib.Core.Path.{◌≡◌, refl, ap, sym, ◌∙◌}
use mathlib.Core.List.{List}
use Prim.Native.Nat.{ℕ, ◌+◌, ◌*◌, ◌≤◌, ◌<◌}
use native.Mathlib.Omega.{arith}
use borrow.Author.Tests.{le-leb}
use lib.ListN.{length}
use Rattle.bits.specs.Words.{one}
use Rattle.bits.proofs.Lists.{length-tabulate}
use Rattle.rules.specs.declared.Slot.{Slot}
use Rattle.effects.specs.Scan.{any_exercised}
use Rattle.rounds.specs.Steps.{start as start_run, moves}
use Rattle.rounds.specs.Stroke.{by_rounds}
use Rattle.rounds.proofs.Effect.{moves_at_most_two}
use Rattle.rounds.proofs.Held.{one_stroke}
use Rattle.settings.specs.declared.Settings.{Settings}
use Rattle.settings.specs.declared.Words.{Words}
use Rattle.settings.specs.declared.Row.{Row}
use Rattle.rules.specs.Limits.{most_scans}
use Rattle.settings.specs.Right.{known_of, settings_number, words_number, row_number}
use Rattle.settings.specs.Signals.{signals, signals_of}
use Rattle.settings.proofs.Answers.{granted_in_room}
use Rattle.settings.proofs.Right.{row_words}
use Rattle.block.specs.declared.State.{State}
use Rattle.block.specs.Answer.{Scanned}
use Rattle.block.specs.State.{state_number, fresh}
use Rattle.block.specs.Scan.{input_number, at_front, events, scan_of, granted_scan}
use Rattle.block.specs.Held.{words_at, start, stepped, run, granted_held, refused_held, held_number, held_of, held_into}
use Rattle.block.specs.Run.{run_of}
use Rattle.block.proofs.Later.{signals_timed}
use Rattle.block.proofs.RightStates as states
use Rattle.block.proofs.Runs as runs
use Rattle.block.proofs.Stepping.{Ready, scan_accepted, ready_at}

-- ## Demand 2: a scan

-- a replay starts with a valid state, and a scan keeps the state valid, so refusal number 8 never occurs
pub a_fresh_state_is_right : (st : Settings) → state_number st fresh ≡ 0
a_fresh_state_is_right = states.fresh_right

-- a scan of valid input, with room for its records, is accepted, and leaves a valid state
pub a_right_scan_is_accepted : (st : Settings) (w : Words) (x : State) (room : ℕ) → settings_number st ≡ 0 → state_number st x ≡ 0 → words_number (known_of st) w ≡ 0
    → x.scans_done + 1 ≤ most_scans → 12 * length (events st w x) ≤ room
    → (scan_of st w x room ≡ granted_scan st w x) × (state_number st (scan_of st w x room).state ≡ 0)
a_right_scan_is_accepted st w x room right state words scans fits =
    let e = scan_accepted st right w x room words state scans fits in
    (e, rw e (states.scan_keeps_right st w x right state (omega arith)))

-- ## Demand 3: a held run

module _ (st : Settings) (row : Row) (x : State) (settings : settings_number st ≡ 0) (state : state_number st x ≡ 0) (right-row : row_number (known_of st) row ≡ 0)
    (scans : x.scans_done + row.hold ≤ most_scans) where
  -- valid input is not refused before its room is checked
  pub right_input_is_accepted : input_number st x row ≡ 0
  unfolding input_number
  right_input_is_accepted = rw (settings, state, right-row, le-leb (x.scans_done + row.hold) most_scans scans)

  -- every single scan of a held run is accepted, where it is lent the room for its records: refusal numbers 8, 9 and 10 do not occur
  pub every_scan_is_accepted : (k : ℕ) → k < row.hold → (room : ℕ)
      → 12 * length (events st (words_at k row.words) (stepped st row.words k (start x)).state) ≤ room
      → (scan_of st (words_at k row.words) (stepped st row.words k (start x)).state room).number ≡ 0
  every_scan_is_accepted k h room fits =
      let ready : Ready st settings row.words (k + 1) x = record { words = row_words (known_of st) row right-row; state = state; scans = omega arith } in
      let now = ready_at st settings k 1 row.words (start x) ready in
      ap (λ (a : Scanned). a.number) (scan_accepted st settings (words_at k row.words) (stepped st row.words k (start x)).state room now.words now.state now.scans fits)

  -- with room for its records, the answer in one stroke is that of the single scans (state, words, counts), and so are the bytes
  pub one_stroke_is_single_scans : (out : List ℕ) → 12 * length (run st row x).events ≤ length out
      → (held_of st row x (length out) ≡ granted_held st row x) × (held_into st row x out ≡ at_front (run st row x).events out)
  unfolding held_of held_into held_number
  one_stroke_is_single_scans out fits = (
    sym (granted_in_room (input_number st x row) (12 * length (run st row x).events) (length out) 0 (sym right_input_is_accepted) (granted_held st row x) (refused_held x) refl fits),
    sym (granted_in_room (input_number st x row) (12 * length (run st row x).events) (length out) 0 (sym right_input_is_accepted) (at_front (run st row x).events out) (λ n. out) refl fits),
  )

  -- 2 n + 1 rounds, of n effects, give what the single scans give
  pub rounds_suffice : by_rounds (2 * st.count + 1) (signals st row.words) row.hold (start_run x.scans_done x.next x.slots) ≡ run_of (run st row x)
  rounds_suffice =
      let ss = signals st row.words in
      let r = start_run x.scans_done x.next x.slots in
      ap (λ (n : ℕ). by_rounds (2 * n + 1) ss row.hold r) (sym (length-tabulate (signals_of st row.words) st.count))
      ∙ one_stroke ss row.hold r (signals_timed st row.words settings)
      ∙ sym (runs.run_is st row x right_input_is_accepted)

  -- the scans in which an effect changes state never outnumber twice the effects
  pub live_at_most_twice_the_effects : (run st row x).live ≤ 2 * st.count
  live_at_most_twice_the_effects = runs.live_few st row x right_input_is_accepted

  -- two records an effect, sixteen effects: no held run needs more room than 384 bytes
  pub records_fit_384_bytes : 12 * length (run st row x).events ≤ 384
  records_fit_384_bytes = runs.due_bytes st row x right_input_is_accepted

  -- the scans done grow by the hold
  pub scans_done_grow_by_the_hold : (run st row x).state.scans_done ≡ x.scans_done + row.hold
  scans_done_grow_by_the_hold = runs.done_is st row x right_input_is_accepted

  -- exercised scans are the hold where some effect is exercised, else 0
  pub exercised_is_the_hold_or_nothing : (run st row x).exercised ≡ row.hold * one (any_exercised (signals st row.words))
  exercised_is_the_hold_or_nothing = runs.exercised_is st row x right_input_is_accepted

  -- a held run of a valid state gives a valid state
  pub a_held_run_keeps_right : state_number st (run st row x).state ≡ 0
  unfolding run
  a_held_run_keeps_right =
      let ready : Ready st settings row.words (row.hold + 0) x = record { words = row_words (known_of st) row right-row; state = state; scans = omega arith } in
      (ready_at st settings row.hold 0 row.words (start x) ready).state

  -- a held run keeps the number of slots
  pub a_held_run_keeps_its_slots : length (run st row x).state.slots ≡ length x.slots
  a_held_run_keeps_its_slots = runs.slots_stay st row x right_input_is_accepted

-- each effect changes state at most twice in a held run
pub each_effect_moves_at_most_twice : (st : Settings) (row : Row) (i : ℕ) (x : Slot) → moves (signals_of st row.words i) row.hold x ≤ 2
each_effect_moves_at_most_twice st row i x = moves_at_most_two (signals_of st row.words i) row.hold x
