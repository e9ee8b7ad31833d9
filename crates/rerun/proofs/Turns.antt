-- Turns: what the code carries from row to row is what the definitions say, and a caller's loop can begin, go on, stop and end.
use mathlib.Core.Path.{◌≡◌, refl, sym, ap, ◌∙◌}
use mathlib.Core.Bool.{Bool, true}
use mathlib.Core.List.{List, ◌++◌}
use Prim.Native.Nat.{ℕ, zero, suc, ◌+◌, ◌-◌, ◌*◌, ◌/◌, ◌≤◌, ◌<◌}
use native.Mathlib.Nat.{mul-suc, mul-zero, mul-le-mul}
use native.Mathlib.Numerals.{add-one}
use native.Mathlib.Omega.{arith}
use lib.Dec.{leb}
use lib.ListN.{length, drop, length-append}
use lib.Seq.{sets}
use Rattle.bits.specs.Words.{one}
use Rattle.effects.specs.Records.{record_length, bytes, most_records, most_row_bytes}
use Rattle.settings.specs.declared.Row.{Row}
use Rattle.settings.specs.declared.Settings.{Settings}
use Rattle.rules.specs.Limits.{most_scans}
use Rattle.settings.specs.Refusals.{granted}
use Rattle.settings.proofs.Refusals.{granted_none, granted_refused, granted_either, unless_refused, limit_kept}
use Rattle.boards.specs.Board.{Board, board_of}
use Rattle.engine.specs.Marks.{board_at}
use Rattle.boards.specs.Table.{table_of, slots_of}
use Rattle.wiring.specs.declared.Struck.{Struck}
use Rattle.block.specs.Scan.{input_number, scans_number}
use Rattle.block.specs.Held.{Stepped, run as held_run}
use Rattle.block.specs.Run.{start_of, reached_by, kept_state, kept_run, Runs, Ran}
use Rattle.block.proofs.Boards.{shows}
use Rattle.block.proofs.Theorems.{right_input_is_accepted}
use Rattle.recording.specs.Answer.{Answer}
use Rattle.recording.specs.Answer as A
use Rattle.recording.specs.Answers.{number, row_count_of, first_row, row_width}
use Rattle.layout.specs.Entries.{row_at}
use Rattle.layout.specs.declared.Kind.TheVariants.{Rows}
use Rattle.recording.specs.Reader.{reading}
use Rattle.layout.specs.Sections.{width_of, most_of}
use Rattle.recording.specs.Steps.{row_place}
use Rattle.exactness.proofs.Theorems.{first_row_after_the_opening, row_in_the_file}
use Rattle.rerun.specs.declared.Run.{Run}
use Rattle.rerun.specs.Answer.{Turn}
use Rattle.rerun.specs.Replay.{Replay, Outcome, whole, joined, refused_at, started, replay, counts, refusal, answered, first_rows, row_of, row_run}
use Rattle.rerun.specs.Turn.{Begun, Totals, totals_at, totals_of, totals_in, Going, Begins, Fits, RowDone, run_after, SmallSums, rows_into, room_of, RowsReady, RowsDone, answer_of}
use Rattle.rerun.proofs.Files.{refusal_number, refused_replay, no_rows, all_the_rows, whole_so_far, counted, events_between, events_grow, number_at, next-number, next_runs, stops-there, told, settings_right, most-effects, row_right, few_rows, sound, sound_next, scans_next, records-next}
use Rattle.rerun.proofs.Filling.{length-between, all-kept}

-- ## The beginning: what the reader answers

pub few_effects : (s : List ℕ) (st : Settings) (rows first width : ℕ) → (reading s).answer ≡ A.Accepted rows first width → st ≡ (reading s).settings → st.count ≤ 16
few_effects s st rows first width a e = rw e (most-effects s (ap number a))

pub begins : {s : List ℕ} {rows first width : ℕ} {r : Begun} → Begins (reading s).settings rows first width r → (reading s).answer ≡ A.Accepted rows first width → Going s r.run r.board
begins {s} {rows} {first} {width} {r} b a =
    let none : r.run.rows ≡ 0 = ap (λ (u : Totals). u.rows) b.totals in
    let o = ap (first_rows s) none ∙ no_rows s in
    let p : first ≡ row_place s 0 = omega (arith, ap first_row a, mul-zero (row_width (reading s).answer)) in
    record {
      accepted = ap number a;
      wired = b.wired;
      wide = b.wide ∙ sym (ap row_width a);
      many = b.many ∙ sym (ap row_count_of a);
      counted = omega (arith, none);
      none_refused = ap (λ (v : Outcome). v.number) o;
      totals = b.totals ∙ (λ j. totals_at (reading s).settings.count (p j) started) ∙ sym (ap (λ (v : Outcome). totals_of s v.replay) o);
    }

-- at the beginning all rows of the file can be run
pub ready_all : {s : List ℕ} {rows first width : ℕ} {r : Begun} → Begins (reading s).settings rows first width r → (reading s).answer ≡ A.Accepted rows first width
    → {room : ℕ} {keep : Bool} → room_of s r.run.rows rows keep ≤ room → RowsReady s r.run rows r.board room keep
ready_all b a enough =
    record { going = begins b a; onward = omega (arith, ap (λ (u : Totals). u.rows) b.totals); within = omega (arith, ap row_count_of a); fits = enough }

-- what the rows so far have given
abbrev so_far : List ℕ → Run → Replay
so_far s run = (first_rows s run.rows).replay

module _ {s : List ℕ} {run : Run} {array : List ℕ} (g : Going s run array) where
  -- the number of records so far is the number of events so far
  pub records_so_far : run.records ≡ length (so_far s run).events
  records_so_far = ap (λ (u : Totals). u.records) g.totals

  pub rows_so_far : (so_far s run).rows ≡ run.rows
  rows_so_far = counted s run.rows g.counted g.none_refused

  pub place_is : run.place ≡ row_place s run.rows
  place_is = ap (λ (u : Totals). u.place) g.totals ∙ ap (λ (n : ℕ). row_place s n) rows_so_far

  -- the answer with a refusal number, at the run's place
  answered-by : (n k : ℕ) → answer_of (record { number = n; records = k; run = run }) ≡ answered (refused_at run.place (so_far s run) n)
  answered-by n k =
      λ j. granted n
      (record {
        number = 0;
        place = 0;
        records = (g.totals j).records;
        rows = (g.totals j).rows;
        scans = (g.totals j).board.scans_done;
        live = (g.totals j).live;
        exercised = (g.totals j).exercised;
      })
      (refusal run.place)

-- an answer without a refusal has no place
placed : (n place : ℕ) (r : Replay) → answered (refused_at place r n) ≡ answered (refused_at (granted n 0 (λ m. place)) r n)
placed zero place r = refl
placed (suc n) place r = refl

module _ {s : List ℕ} {run : Run} {array : List ℕ} (g : Going s run array) where
  abbrev answer : Answer
  answer = (reading s).answer

  abbrev st : Settings
  st = (reading s).settings

  abbrev so-far : Replay
  so-far = so_far s run

  -- ## The state so far

  board_is : board_at run.mark array ≡ board_of st.count (start_of so-far.state)
  board_is = ap (λ (u : Totals). u.board) g.totals

  -- the words of the state show its slots
  slots_shown : slots_of st.count (table_of st.count so-far.state.slots) ≡ so-far.state.slots
  slots_shown =
      let x = sound s g.accepted run.rows in
      shows st so-far.state x.state x.slots (settings_right s g.accepted)

  -- the run's words show the state
  pub state-is : kept_state st run.mark array ≡ so-far.state
  state-is = ap (reached_by st.count) board_is ∙ (λ j. record { scans_done = so-far.state.scans_done; next = so-far.state.next; slots = slots_shown j })

  -- ## The end: no row is left

  pub ends : run.rows ≡ row_count_of answer → replay s ≡ whole so-far
  ends e = all_the_rows s g.accepted ∙ ap (first_rows s) (sym e) ∙ whole_so_far s run.rows g.none_refused

  -- where no row is left, the answer of the run is that of the replay
  pub ends_answered : (k : ℕ) → run.rows ≡ row_count_of answer → answer_of (record { number = 0; records = k; run = run }) ≡ answered (replay s)
  ends_answered k e = answered-by g 0 k ∙ ap answered (sym (ends e))

  -- ## One row more

  module _ (more : run.rows < row_count_of answer) where
    -- the bytes of the next row are in the file
    pub row_there : (width_of Rows ≤ run.width) × (run.place + run.width ≤ length s)
    row_there =
        let there = row_in_the_file s run.rows more in
        (omega (arith, g.wide, there.2), rw (place_is g, g.wide) there.0)

    -- and are read as the next row
    pub row_read : (row : Row) → row ≡ row_at run.width s run.place → row ≡ row_of s run.rows
    row_read row is = is ∙ rw (place_is g, g.wide) (row_in_the_file s run.rows more).1

    number_next : (first_rows s (run.rows + 1)).number ≡ number_at s run.rows
    number_next = next-number s run.rows more g.none_refused

    -- if the next row runs, its records fit in the room of any row, two an effect
    pub fits_any : Fits s run.rows most_row_bytes
    fits_any none = omega (arith, records-next s g.accepted run.rows more (sym number_next ∙ none), most-effects s g.accepted)

    -- ## What a caller knows after one row

    module _ {buf : List ℕ} {r : Turn} {array' buf' : List ℕ} (d : RowDone s run buf r array' buf') where
      -- the records of a row are few
      pub few_records : r.records ≤ most_records
      few_records =
          rw d.records_are
          (granted_either (length (row_run s run.rows).events) (λ k. 0) (λ m. m ≤ most_records) (first_rows s (run.rows + 1)).number
          (λ z. omega (arith, fits_any z))
          (λ k. omega arith))

      -- without refusal the loop goes on with the next row
      pub one-row : r.number ≡ 0 → r.run.rows ≡ run.rows + 1
      one-row z = d.rows_are ∙ granted_none (run.rows + 1) (λ n. run.rows) (first_rows s (run.rows + 1)).number (sym d.number_is ∙ z)

      -- a refusal has refusal number 9, at the row's first byte, and the replay is what the rows before have given
      module _ (h : r.number ≡ 0 → ⊥) where
        refuses : number_at s run.rows ≡ 0 → ⊥
        refuses z = h (d.number_is ∙ number_next ∙ z)

        nine : number_at s run.rows ≡ 9
        nine = unless_refused (leb (so-far.state.scans_done + (row_of s run.rows).hold) most_scans) 9 refuses

        pub unchanged : r.run.rows ≡ run.rows
        unchanged = d.rows_are ∙ granted_refused (run.rows + 1) (λ n. run.rows) (first_rows s (run.rows + 1)).number (λ z. h (d.number_is ∙ z))

        pub stops : replay s ≡ refused_at r.run.place so-far 9
        stops =
            let place : row_place s run.rows ≡ r.run.place = ap (row_place s) (sym unchanged) ∙ sym (place_is d.going) in
            stops-there s run.rows more g.none_refused g.accepted refuses ∙ (λ j. refused_at (place j) so-far (nine j))

        pub stops_number : r.number ≡ 9
        stops_number = d.number_is ∙ number_next ∙ nine

        pub stops_answered : answer_of r ≡ answered (replay s)
        stops_answered =
            answered-by d.going r.number r.records
            ∙ (λ j. answered (refused_at r.run.place (first_rows s (unchanged j)).replay (stops_number j)))
            ∙ ap answered (sym stops)

    -- ## What the code reads and computes of a row

    module _ (row : Row) (is : row ≡ row_at run.width s run.place) (v : ℕ) (number_is : v ≡ scans_number run.mark.scans_done row.hold) where
      row_is : row ≡ row_of s run.rows
      row_is = row_read row is

      same_number : v ≡ number_at s run.rows
      same_number = number_is ∙ (λ j. scans_number (g.totals j).board.scans_done (row_is j).hold)

      -- a refused row leaves all as it was
      pub refused_done : (v ≡ 0 → ⊥) → (buf : List ℕ) → RowDone s run buf (record { number = v; records = 0; run = run }) array buf
      refused_done h buf =
          let n = (first_rows s (run.rows + 1)).number in
          let e : v ≡ n = same_number ∙ sym number_next in
          let refused : n ≡ 0 → ⊥ = λ z. h (e ∙ z) in
          record {
            number_is = e;
            records_are = sym (granted_refused (length (row_run s run.rows).events) (λ k. 0) n refused);
            going = g;
            rows_are = sym (granted_refused (run.rows + 1) (λ k. run.rows) n refused);
            laid = sym (granted_refused (sets buf 0 (bytes (row_run s run.rows).events)) (λ k. buf) n refused);
          }

      -- a row that runs
      module _ (z : v ≡ 0) where
        none : number_at s run.rows ≡ 0
        none = sym same_number ∙ z

        run_is : kept_run st row run.mark array ≡ row_run s run.rows
        unfolding row_run
        run_is = λ j. held_run st (row_is j) (state-is j)

        next-is : first_rows s (run.rows + 1) ≡ whole (joined so-far (row_run s run.rows))
        next-is = next_runs s run.rows more g.none_refused none

        right_input : input_number st (kept_state st run.mark array) row ≡ 0
        right_input =
            right_input_is_accepted st row (kept_state st run.mark array) (settings_right s g.accepted) (rw state-is (sound s g.accepted run.rows).state)
            (rw row_is (row_right s g.accepted run.rows more)) (limit_kept (run.mark.scans_done + row.hold) most_scans 8 (sym number_is ∙ z))

        -- the row can run, if there is room for its records
        pub row_runs : (room : ℕ) → Fits s run.rows room → Runs st run.plan row run.mark array room
        row_runs room f =
            let table = ap (λ (b : Board). b.table) board_is in
            record {
              wired = g.wired;
              shown = table ∙ ap (table_of st.count) (sym (ap (slots_of st.count) table ∙ slots_shown));
              input = right_input;
              fits = rw run_is (f (ap (λ (o : Outcome). o.number) next-is));
            }

        module _ {buf : List ℕ} {ran : Struck} {array' buf' : List ℕ} (x : Ran st run.plan row run.mark array buf ran array' buf') where
          abbrev given : Stepped
          given = row_run s run.rows

          at-is : ran.mark.at ≡ record_length * length given.events
          at-is = x.records ∙ ap (λ (r : Stepped). record_length * length r.events) run_is

          records_are : ran.mark.at / record_length ≡ length given.events
          records_are = omega (arith, at-is)

          live-is : ran.mark.live ≡ given.live
          live-is = x.live ∙ ap (λ (r : Stepped). r.live) run_is

          exercised_is : row.hold * one ran.exercised ≡ given.exercised
          exercised_is = x.exercised ∙ ap (λ (r : Stepped). r.exercised) run_is

          -- the sums after the row stay small
          pub sums : SmallSums run row.hold ran
          sums =
              let kept = sound_next s g.accepted run.rows more none in
              let most = scans_next s g.accepted run.rows more none in
              let rows = few_rows s g.accepted in
              let first = first_row_after_the_opening s g.accepted in
              let few = most-effects s g.accepted in
              let wide = (row_in_the_file s run.rows more).2 in
              let place : row_place s run.rows ≡ first_row answer + width_of Rows * run.rows = ap (λ (n : ℕ). first_row answer + n * run.rows) wide in
              let events : 2 * st.count * (so-far.rows + 1) ≤ most_records * most_of Rows =
              mul-le-mul {n₂ = most_records} {m₂ = most_of Rows} (omega (arith, few)) (omega (arith, more, rows, rows_so_far g))
              in
              let l : run.live ≡ so-far.live = ap (λ (u : Totals). u.live) g.totals in
              let e : run.exercised ≡ so-far.exercised = ap (λ (u : Totals). u.exercised) g.totals in
              record {
                place = omega (arith, more, rows, place_is g, place, first, few, g.wide, wide);
                rows = omega (arith, more, rows);
                records =
                    omega (
                      arith,
                      records_so_far g,
                      length-append so-far.events given.events,
                      kept.events,
                      events,
                      at-is,
                      few,
                      records-next s g.accepted run.rows more none,
                    );
                live = omega (arith, more, rows, l, live-is, kept.live, rows_so_far g);
                exercised = omega (arith, e, exercised_is, kept.exercised, most);
              }

          -- one row more in the run is one row more in the replay
          totals_are : totals_in (run_after run row.hold ran) array' ≡ totals_of s (joined so-far given)
          totals_are =
              let board = x.board ∙ ap (λ (r : Stepped). board_of st.count (start_of r.state)) run_is in
              let place : run.place + run.width ≡ row_place s (so-far.rows + 1) =
              rw add-one (omega (arith, place_is g, g.wide, ap (λ (n : ℕ). row_width answer * n) (rows_so_far g), mul-suc (row_width answer) so-far.rows))
              in
              let records : run.records + ran.mark.at / record_length ≡ length (so-far.events ++ given.events) =
              omega (arith, records_so_far g, records_are, length-append so-far.events given.events)
              in
              λ j. record {
                board = board j;
                place = place j;
                records = records j;
                rows = sym (rows_so_far g) j + 1;
                live = (g.totals j).live + live-is j;
                exercised = (g.totals j).exercised + exercised_is j;
              }

          pub ran_done : RowDone s run buf (record { number = 0; records = ran.mark.at / record_length; run = run_after run row.hold ran }) array' buf'
          ran_done =
              let zero_is = ap (λ (o : Outcome). o.number) next-is in
              let n = (first_rows s (run.rows + 1)).number in
              record {
                number_is = sym zero_is;
                records_are = records_are ∙ sym (granted_none (length given.events) (λ k. 0) n zero_is);
                going = record {
                  accepted = g.accepted;
                  wired = x.wired;
                  wide = g.wide;
                  many = g.many;
                  counted = omega (arith, more);
                  none_refused = zero_is;
                  totals = totals_are ∙ ap (λ (o : Outcome). totals_of s o.replay) (sym next-is);
                };
                rows_are = sym (granted_none (run.rows + 1) (λ k. run.rows) n zero_is);
                laid =
                    x.laid
                    ∙ ap (λ (r : Stepped). sets buf 0 (bytes r.events)) run_is
                    ∙ sym (granted_none (sets buf 0 (bytes given.events)) (λ k. buf) n zero_is);
              }

-- ## What a caller knows after some rows

module _ {s : List ℕ} {run : Run} {until : ℕ} {keep : Bool} {buf : List ℕ} {r : Turn} {array' buf' : List ℕ} (d : RowsDone s run until keep buf r array' buf') where
  pub answered_until : until ≤ row_count_of (reading s).answer → answer_of r ≡ answered (first_rows s until)
  answered_until l =
      let o = first_rows s until in
      let place : granted r.number 0 (λ m. r.run.place) ≡ granted o.number 0 (λ n. row_place s o.replay.rows) =
      λ j. granted (d.number_is j) 0 (λ n. (place_is d.going ∙ ap (row_place s) d.rows_are) j)
      in
      answered-by d.going r.number r.records
      ∙ placed r.number r.run.place (so_far s r.run)
      ∙ ap (λ (p : ℕ). answered (refused_at p (so_far s r.run) r.number)) place
      ∙ (λ j. answered (record { number = d.number_is j; place = granted o.number 0 (λ n. row_place s o.replay.rows); replay = (first_rows s (d.rows_are j)).replay }))
      ∙ ap answered (sym (told s until l))

  -- the records that were kept are those of the rows from the run's own on
  pub kept_between : keep ≡ true → (first_rows s run.rows).number ≡ 0 → run.rows ≤ until → until ≤ row_count_of (reading s).answer
      → buf' ≡ sets buf 0 (bytes (events_between s run.rows until))
  kept_between kept none l in-file =
      let sum : run.rows + (until - run.rows) ≡ until = omega arith in
      d.laid
      ∙ ap (λ (k : Bool). rows_into s k run.rows (until - run.rows) buf) kept
      ∙ all-kept s run.rows none buf (until - run.rows) (omega arith)
      ∙ ap (λ (n : ℕ). sets buf 0 (bytes (events_between s run.rows n))) sum

  -- where none of them is refused, the run has reached the row, with their records more
  module _ {array : List ℕ} (g : Going s run array) (l : run.rows ≤ until) (in-file : until ≤ row_count_of (reading s).answer) (ran : (first_rows s until).number ≡ 0) where
    pub reached : r.run.rows ≡ until
    reached = d.rows_are ∙ counted s until in-file ran

    pub records_more : r.run.records ≡ run.records + length (events_between s run.rows until)
    records_more =
        omega (
          arith,
          records_so_far g,
          records_so_far d.going ∙ ap (λ (n : ℕ). length (first_rows s n).replay.events) reached,
          length-between s run.rows until,
          events_grow s run.rows until l g.none_refused,
        )

  module _ (all : until ≡ row_count_of (reading s).answer) where
    all-rows : first_rows s until ≡ replay s
    all-rows = ap (first_rows s) all ∙ sym (all_the_rows s d.going.accepted)

    -- after all rows, the number of records is that of the whole file
    pub counted_all : r.run.records ≡ length (replay s).replay.events
    counted_all =
        records_so_far d.going
        ∙ ap (λ (n : ℕ). length (first_rows s n).replay.events) d.rows_are
        ∙ sym (ap (λ (o : Outcome). length o.replay.events) (told s until (omega (arith, all))))
        ∙ ap (λ (o : Outcome). length o.replay.events) all-rows

    -- after all rows, the answer is that of the whole file
    pub answered_all : answer_of r ≡ answered (replay s)
    answered_all = answered_until (omega (arith, all)) ∙ ap answered all-rows

    -- after all rows, the records that were kept from the first row on are those of the whole file
    pub kept-all : keep ≡ true → run.rows ≡ 0 → buf' ≡ sets buf 0 (bytes (replay s).replay.events)
    kept-all kept first =
        kept_between kept (ap (λ (n : ℕ). (first_rows s n).number) first ∙ ap (λ (o : Outcome). o.number) (no_rows s)) (omega (arith, first)) (omega (arith, all))
        ∙ (λ j. sets buf 0 (bytes (drop (length (first_rows s (first j)).replay.events) (all-rows j).replay.events)))
        ∙ (λ j. sets buf 0 (bytes (drop (length (no_rows s j).replay.events) (replay s).replay.events)))

-- ## A file that the reader refuses

-- the run that rows ended with, by itself
pub ended : {s : List ℕ} {run : Run} {until : ℕ} {keep : Bool} {buf array' buf' : List ℕ} (r : Turn) → RowsDone s run until keep buf r array' buf'
    → (end : Run) → end ≡ r.run → RowsDone s run until keep buf (record { number = r.number; records = r.records; run = end }) array' buf'
ended r d end e =
    record { number_is = d.number_is; records_are = d.records_are; going = rw e d.going; rows_are = rw e d.rows_are; laid = d.laid }

pub refused_answer : (s : List ℕ) (n p : ℕ) → (reading s).answer ≡ A.Refused n p → refusal p n ≡ answered (replay s)
refused_answer s n p e =
    sym (granted_refused (counts started) (refusal p) n (refusal_number s n p e)) ∙ ap answered (sym (refused_replay s n p e))
