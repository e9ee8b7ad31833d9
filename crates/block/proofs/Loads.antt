-- What a stroke starts with, at a state: it shows the state, and it holds what the settings give.
use mathlib.Core.Path.{◌≡◌, refl, ap, sym, ◌∙◌}
use mathlib.Core.Bool.{true}
use mathlib.Core.List.{List, ◌++◌}
use Prim.Native.Nat.{ℕ, ◌+◌, ◌*◌, ◌≤◌}
use native.Mathlib.Omega.{arith}
use lib.ListN.{drop, get_or, length, replicate}
use lib.Seq.{sets, length-sets}
use Rattle.bits.specs.Lists.{tabulate}
use Rattle.bits.specs.Words.{word_of}
use Rattle.bits.proofs.Lists.{length-tabulate}
use Rattle.rules.specs.declared.Slot.{Slot}
use Rattle.rules.specs.Rules.{no_slot}
use Rattle.effects.specs.Records.{record_length}
use Rattle.cells.specs.declared.Plan.{Plan}
use Rattle.planes.specs.declared.Planes.{Planes}
use Rattle.cells.specs.Array.{part, part_length, array_length, associations_at, delays_at, timers_at, firsts_at, timers_in, firsts_in, associations_in, delays_in}
use Rattle.planes.specs.Planes.{planes_of}
use Rattle.boards.specs.Table.{Table, padded, table_of, slots_of}
use Rattle.boards.specs.Board.{Board}
use Rattle.boards.proofs.Step.{table, table_path}
use Rattle.boards.proofs.Fresh.{tripped_alone, fresh_table}
use Rattle.engine.specs.Marks.{board_at}
use Rattle.cells.specs.Loaded.{loaded_into}
use Rattle.plans.specs.Plans.{wired_into, plan_of}
use Rattle.cells.proofs.Parts.{part_filled, part_before, part_after}
use Rattle.plans.proofs.Wired.{wired_long, wired_past, wired_associations, wired_delays}
use Rattle.settings.specs.declared.Row.{Row}
use Rattle.settings.specs.declared.Settings.{Settings}
use Rattle.block.specs.declared.State.{State}
use Rattle.block.specs.State.{fresh}
use Rattle.block.specs.Scan.{input_number}
use Rattle.block.specs.Held.{run}
use Rattle.block.specs.Run.{Loaded, reached_by, kept_state, LoadedAs, Runs}
use Rattle.block.proofs.Answers.{settings_right, state_right}
use Rattle.block.proofs.Boards.{shows}
use Rattle.block.proofs.Runs.{state}

-- ## The array

abbrev none : List ℕ
none = replicate array_length 0

-- the timers and first-outs of n slots are put into an array that has none
module _ (n : ℕ) (xs : List Slot) (array : List ℕ) (few : n ≤ part_length) (long : length array ≡ array_length) where
  abbrev timer : ℕ → ℕ
  timer i = (get_or xs i no_slot).timer

  abbrev first : ℕ → ℕ
  first i = (get_or xs i no_slot).first_out

  abbrev half : List ℕ
  half = sets array timers_at (tabulate timer n)

  half_long : length half ≡ array_length
  half_long = length-sets array timers_at (tabulate timer n) ∙ long

  loaded_long : length (loaded_into n xs array) ≡ array_length
  unfolding loaded_into
  loaded_long = length-sets half firsts_at (tabulate first n) ∙ half_long

  -- the parts before the timers stay
  loaded_before : (o : ℕ) → o + part_length ≤ timers_at → part o (loaded_into n xs array) ≡ part o array
  unfolding loaded_into
  loaded_before o h = part_before o firsts_at half (tabulate first n) (omega arith) ∙ part_before o timers_at array (tabulate timer n) h

  loaded_timers : timers_in array ≡ replicate part_length 0 → timers_in (loaded_into n xs array) ≡ padded n timer
  unfolding loaded_into
  loaded_timers e =
      part_before timers_at firsts_at half (tabulate first n) (omega arith)
      ∙ part_filled timers_at timer n array (omega arith) few
      ∙ ap (λ (l : List ℕ). tabulate timer n ++ drop n l) e

  loaded_firsts : firsts_in array ≡ replicate part_length 0 → firsts_in (loaded_into n xs array) ≡ padded n first
  unfolding loaded_into
  loaded_firsts e =
      part_filled firsts_at first n half (omega (arith, half_long)) few
      ∙ ap (λ (l : List ℕ). tabulate first n ++ drop n l) (part_after firsts_at timers_at array (tabulate timer n) (omega (arith, length-tabulate timer n)) ∙ e)

-- ## At a state

module _ (st : Settings) (few : st.count ≤ 16) where
  abbrev wired : List ℕ
  wired = wired_into st none

  long : length wired ≡ array_length
  long = wired_long st none

  no_timers : timers_in wired ≡ replicate part_length 0
  unfolding part
  no_timers = wired_past st none timers_at (omega arith)

  no_firsts : firsts_in wired ≡ replicate part_length 0
  unfolding part
  no_firsts = wired_past st none firsts_at (omega arith)

  -- what `load` answers shows the state
  pub loaded : (x : State) {p : Planes} {array : List ℕ} → p ≡ planes_of st.count (λ i. (get_or x.slots i no_slot).state)
      → array ≡ loaded_into st.count x.slots wired
      → LoadedAs st x (record { mark = record { scans_done = x.scans_done; next = x.next; at = 0; live = 0; planes = p }; board = array })
  unfolding table_of
  loaded x {p} {array} ep ea =
      let n = st.count in
      let et = ap timers_in ea ∙ loaded_timers n x.slots wired few long no_timers in
      let ef = ap firsts_in ea ∙ loaded_firsts n x.slots wired few long no_firsts in
      record {
        board_is = λ i. record { scans_done = x.scans_done; next = x.next; at = 0; live = 0; table = table (ep i) (et i) (ef i) };
        associations_are = ap associations_in ea ∙ loaded_before n x.slots wired few long associations_at (omega arith) ∙ wired_associations st none refl;
        delays_are = ap delays_in ea ∙ loaded_before n x.slots wired few long delays_at (omega arith) ∙ wired_delays st none refl;
        long = ap length ea ∙ loaded_long n x.slots wired few long;
      }

  -- what `load_fresh` answers shows a fresh state
  pub loaded_fresh : {all : ℕ} {array : List ℕ} → all ≡ word_of (λ i. true) st.count → array ≡ wired
      → LoadedAs st fresh (record { mark = record { scans_done = 0; next = 0; at = 0; live = 0; planes = tripped_alone all }; board = array })
  loaded_fresh {all} {array} e ea =
      let is = table_path (ap tripped_alone e) (ap timers_in ea ∙ no_timers) (ap firsts_in ea ∙ no_firsts) ∙ sym (fresh_table st.count few) in
      record {
        board_is = λ i. record { scans_done = 0; next = 0; at = 0; live = 0; table = is i };
        associations_are = ap associations_in ea ∙ wired_associations st none refl;
        delays_are = ap delays_in ea ∙ wired_delays st none refl;
        long = ap length ea ∙ long;
      }

-- ## What the loaded words show

module _ {st : Settings} {x : State} {l : Loaded} (is : LoadedAs st x l) (row : Row) (input : input_number st x row ≡ 0) (sixteen : length x.slots ≡ 16) where
  abbrev back : slots_of st.count (table_of st.count x.slots) ≡ x.slots
  back = shows st x (state_right st row x _ refl input) sixteen (settings_right st row x _ refl input)

  pub shows_state : kept_state st l.mark l.board ≡ x
  shows_state = ap (reached_by st.count) is.board_is ∙ ap (state x.scans_done x.next) back

  shows_table : (board_at l.mark l.board).table ≡ table_of st.count (slots_of st.count (board_at l.mark l.board).table)
  shows_table =
      let e = ap (λ (b : Board). b.table) is.board_is in
      e ∙ ap (table_of st.count) (sym back) ∙ ap (λ (b : Table). table_of st.count (slots_of st.count b)) (sym e)

  pub runs_loaded : {plan : Plan} → plan ≡ plan_of st → {room : ℕ} → record_length * length (run st row x).events ≤ room
      → Runs st plan row l.mark l.board room
  runs_loaded ep fits =
      record {
        wired = record { plan-is = ep; associations_are = is.associations_are; delays_are = is.delays_are; long = is.long };
        shown = shows_table;
        input = rw shows_state input;
        fits = rw shows_state fits;
      }
