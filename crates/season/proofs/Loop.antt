-- The loop over pieces of rows: what the count is after each piece, and that the events of the next one can be counted.
use mathlib.Core.Path.{◌≡◌, refl, ap, subst, sym, ◌∙◌}
use mathlib.Core.Bool.{true}
use mathlib.Core.List.{List, [], ◌++◌}
use Prim.Native.Nat.{ℕ, ◌+◌, ◌*◌, ◌-◌, ◌≤◌}
use native.Mathlib.Omega.{arith}
use lib.ListN.{length, length-map}
use lib.Seq.{sets, length-sets}
use Rattle.rules.specs.declared.EffectState.{EffectState}
use Rattle.rules.specs.declared.EffectState.TheVariants.{Tripped}
use Rattle.rules.specs.Limits.{most_effects, most_scans}
use Rattle.effects.specs.declared.Event.{Event}
use Rattle.effects.specs.Records.{record_length, bytes, StandFrom, Numbered}
use Rattle.effects.proofs.Records.{front_bytes}
use Rattle.block.proofs.RightStates.{right_state_few}
use Rattle.recording.specs.Answer as A
use Rattle.recording.specs.Answers.{row_count_of}
use Rattle.recording.specs.Reader.{reading}
use Rattle.rerun.specs.declared.Run.{Run}
use Rattle.rerun.specs.Answer.{Turn}
use Rattle.rerun.specs.Replay.{Replay, Outcome, whole, started, replay, first_rows}
use Rattle.rerun.specs.Turn.{Totals, Begun, Begins, room_of, RowsReady, RowsDone}
use Rattle.rerun.proofs.Files.{no_rows, never_refused, events_between, events_behind, sound, most-effects}
use Rattle.rerun.proofs.Filling.{length-between, few_bytes}
use Rattle.rerun.proofs.Turns.{begins, ends, kept_between, reached, records_more}
use Rattle.trace.specs.Effect.{own, changes, closed_by, tripped_by}
use Rattle.trace.specs.States.{state_at, states_at, trace_to}
use Rattle.trace.proofs.Changes.{stood_from_here, stood_few, tripped_few, trips_by_changes}
use Rattle.trace.proofs.Rows.{Told, told_first}
use Rattle.trace.proofs.Numbered.{numbered_more, numbered_drop, numbered_first}
use Rattle.trace.proofs.Theorems.{all_start_tripped}
use Rattle.tally.specs.Tally.{Count, none, counted, AllCountable, Waiting, CountedAll}
use Rattle.tally.proofs.Tallied.{first, tallied_none, tallied_all, counted_append, Bounded, all_countable}
use Rattle.season.specs.Rows.{Tallying, piece_rows, piece_bytes, PieceEnds, PieceCounted, AllCounted}

-- ## Sums are bounded by the scans

pub bounded : (s : List ℕ) (r : Replay) → Told s r → r.state.scans_done ≤ most_scans → Bounded r.events
bounded s r t few =
    record {
      stood = λ i q.
          let ps = states_at i (trace_to s r.rows) in
          let all = stood_from_here q 0 r.state.scans_done Tripped ps (long i) in
          omega (arith, ap (closed_by q first) (is i), all, stood_few q ps, long i);
      trips = λ i.
          let ps = states_at i (trace_to s r.rows) in
          omega (arith, ap tripped_by (is i), trips_by_changes 0 Tripped ps, tripped_few Tripped ps, long i);
    }
  where
    long : (i : ℕ) → length (states_at i (trace_to s r.rows)) ≡ r.state.scans_done
    long i = length-map (trace_to s r.rows) (state_at i) ∙ t.scans

    is : (i : ℕ) → own (1 + i) r.events ≡ changes 0 Tripped (states_at i (trace_to s r.rows))
    is i = t.events i ∙ ap (λ (p : EffectState). changes 0 p (states_at i (trace_to s r.rows))) (all_start_tripped i)

-- ## A recording that is replayed whole

-- before the first row nothing is counted
pub tallying_begins : {s : List ℕ} {rows at width : ℕ} {r : Begun} → Begins (reading s).settings rows at width r → (reading s).answer ≡ A.Accepted rows at width
    → (replay s).number ≡ 0 → Tallying s r.run r.board none
tallying_begins {s} {rows} {at} {width} {r} b a z =
    let o : first_rows s r.run.rows ≡ whole started = ap (λ (u : Totals). first_rows s u.rows) b.totals ∙ no_rows s in
    record { going = begins b a; all_run = z; counts = ap (λ (v : Outcome). counted v.replay.events none) (sym o) }

module _ {s : List ℕ} {run : Run} {array : List ℕ} {c : Count} (g : Tallying s run array c) where
  abbrev front : List Event
  front = (first_rows s run.rows).replay.events

  -- ## The end: no row is left

  pub all-counted : run.rows ≡ row_count_of (reading s).answer → AllCounted s run c
  all-counted last =
      let ended : replay s ≡ whole (first_rows s run.rows).replay = ends g.going last in
      record {
        scans = ap (λ (u : Totals). u.board.scans_done) g.going.totals ∙ ap (λ (o : Outcome). o.replay.state.scans_done) (sym ended);
        exercised = ap (λ (u : Totals). u.exercised) g.going.totals ∙ ap (λ (o : Outcome). o.replay.exercised) (sym ended);
        counts = g.counts ∙ ap (λ (o : Outcome). counted o.replay.events none) (sym ended);
      }

  -- ## A piece more

  module _ {until : ℕ} (e : PieceEnds run.rows run.row_count until) where
    in-file : until ≤ row_count_of (reading s).answer
    in-file = omega (arith, e.within, g.going.many)

    room_enough : room_of s run.rows until true ≤ piece_bytes
    room_enough = few_bytes s g.going.accepted run.rows until piece_rows (omega (arith, e.some)) e.few in-file

    -- its rows can be run
    pub piece_ready : (room : ℕ) → piece_bytes ≤ room → RowsReady s run until array room true
    piece_ready room long = record { going = g.going; onward = omega (arith, e.some); within = in-file; fits = omega (arith, room_enough) }

    abbrev those : List Event
    those = events_between s run.rows until

    next_runs : (first_rows s until).number ≡ 0
    next_runs = never_refused s g.going.accepted g.all_run until

    join : (first_rows s until).replay.events ≡ front ++ those
    join = events_behind s run.rows until (omega (arith, e.some)) g.going.none_refused

    bounded_next : Bounded (front ++ those)
    bounded_next =
        subst Bounded join
        (bounded s (first_rows s until).replay (told_first s g.going.accepted until in-file)
        (right_state_few (reading s).settings _ (sound s g.going.accepted until).state))

    few : (es : List Event) → Numbered (reading s).settings.count es → Numbered most_effects es
    few es = numbered_more (reading s).settings.count most_effects es (most-effects s g.going.accepted)

    those_countable : AllCountable those c
    those_countable =
        rw g.counts
        (all_countable front those (counted front none)
        (tallied_all [] front none tallied_none (few front (numbered_first s run.rows g.going.counted)))
        (few those (numbered_drop (reading s).settings.count (length front) _ (numbered_first s until in-file))) bounded_next)

    module _ {buf : List ℕ} {u : Turn} {array' buf' : List ℕ} (d : RowsDone s run until true buf u array' buf') (long : piece_bytes ≤ length buf) where
      more : u.run.records ≡ run.records + length those
      more = records_more d g.going (omega (arith, e.some)) in-file next_runs

      -- no record is lost
      pub records_grow : run.records ≤ u.run.records
      records_grow = omega (arith, more)

      records_are : length those ≡ u.run.records - run.records
      records_are = omega (arith, more)

      laid : buf' ≡ sets buf 0 (bytes those)
      laid = kept_between d refl g.going.none_refused (omega (arith, e.some)) in-file

      stand : StandFrom buf' 0 those
      stand =
          let fit : record_length * length those ≤ length buf = omega (arith, room_enough, length-between s run.rows until) in
          rw laid (omega (arith, length-sets buf 0 (bytes those)), front_bytes those buf fit)

      pub waiting : Waiting buf' (u.run.records - run.records) c
      waiting = (those, records_are, stand, those_countable)

      pub piece_counted : (c' : Count) → CountedAll buf' (u.run.records - run.records) c c' → PieceCounted s run u.run array' c'
      piece_counted c' n =
          let next = reached d g.going (omega (arith, e.some)) in-file next_runs in
          record {
            tallying =
                record {
                  going = d.going;
                  all_run = g.all_run;
                  counts =
                      n those records_are stand
                      ∙ ap (counted those) g.counts
                      ∙ sym (counted_append front those none)
                      ∙ ap (λ (es : List Event). counted es none) (sym join)
                      ∙ ap (λ (k : ℕ). counted (first_rows s k).replay.events none) (sym next);
                };
            onward = omega (arith, next, e.some);
          }
