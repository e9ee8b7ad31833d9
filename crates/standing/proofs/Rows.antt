-- One row more of a recording that is replayed whole: it can be run, and the records at the front are those of its events.
use mathlib.Core.Path.{◌≡◌, refl, ap, sym, subst, ◌∙◌}
use mathlib.Core.Bool.{true}
use mathlib.Core.List.{List}
use Prim.Native.Nat.{ℕ, ◌+◌, ◌-◌, ◌*◌, ◌≤◌, ◌<◌}
use native.Mathlib.Omega.{arith}
use lib.ListN.{length, drop}
use lib.Seq.{sets, length-sets, drop_at}
use Rattle.rules.specs.Limits.{most_effects}
use Rattle.effects.specs.declared.Event.{Event}
use Rattle.effects.specs.Records.{record_length, most_records, most_row_bytes, bytes, StandFrom, Numbered, Recorded}
use Rattle.effects.proofs.Records.{front_bytes}
use Rattle.boards.specs.Table.{Narrow, slots_of}
use Rattle.boards.specs.Board.{Board}
use Rattle.cells.specs.Array.{firsts_in}
use Rattle.cells.specs.Loaded.{table_in}
use Rattle.cells.specs.declared.Plan.{Plan}
use Rattle.plans.specs.Plans.{plan_of}
use Rattle.block.specs.declared.State.{State}
use Rattle.block.proofs.Boards.{settled}
use Rattle.recording.specs.Answers.{row_count_of}
use Rattle.recording.specs.Reader.{reading}
use Rattle.rerun.specs.declared.Run.{Run}
use Rattle.rerun.specs.Answer.{Turn}
use Rattle.rerun.specs.Replay.{replay, first_rows, row_run}
use Rattle.rerun.specs.Turn.{Totals, Going, room_of, RowsReady, RowsDone}
use Rattle.rerun.proofs.Files.{never_refused, events_between, events_join, settings_right, most-effects, sound}
use Rattle.rerun.proofs.Filling.{length-between, few_bytes}
use Rattle.rerun.proofs.Turns.{state-is, kept_between, reached, records_more}
use Rattle.trace.proofs.Numbered.{numbered_more, numbered_row}

-- ## The slots so far

module _ {s : List ℕ} {run : Run} {array : List ℕ} (g : Going s run array) where
  pub count-is : run.plan.count ≡ (reading s).settings.count
  unfolding plan_of
  count-is = ap (λ (p : Plan). p.count) g.wired.plan-is

  pub few_planned : run.plan.count ≤ most_effects
  few_planned = omega (arith, count-is, most-effects s g.accepted)

  pub narrow : Narrow (firsts_in array)
  narrow =
      let x = sound s g.accepted run.rows in
      subst (λ (b : Board). Narrow b.table.firsts) (sym (ap (λ (u : Totals). u.board) g.totals))
      (settled (reading s).settings (first_rows s run.rows).replay.state x.state x.slots (settings_right s g.accepted)).narrow

  pub slots_are : (n : ℕ) → n ≡ (reading s).settings.count → slots_of n (table_in run.mark.planes array) ≡ (first_rows s run.rows).replay.state.slots
  slots_are n e = ap (λ (m : ℕ). slots_of m (table_in run.mark.planes array)) e ∙ ap (λ (x : State). x.slots) (state-is g)

-- ## One row more

module _ {s : List ℕ} {run : Run} {array : List ℕ} (g : Going s run array) (more : run.rows < row_count_of (reading s).answer) where
  abbrev next : ℕ
  next = run.rows + 1

  room_enough : room_of s run.rows next true ≤ most_row_bytes
  room_enough = omega (arith, few_bytes s g.accepted run.rows next 1 (omega arith) (omega arith) (omega arith))

  -- the row can be run
  pub row_ready : (room : ℕ) → most_row_bytes ≤ room → RowsReady s run next array room true
  row_ready room long = record { going = g; onward = omega arith; within = omega arith; fits = omega (arith, room_enough) }

  module _ (whole : (replay s).number ≡ 0) where
    abbrev those : List Event
    those = (row_run s run.rows).events

    runs : (first_rows s next).number ≡ 0
    runs = never_refused s g.accepted whole next

    between : events_between s run.rows next ≡ those
    between =
        ap (drop (length (first_rows s run.rows).replay.events)) (events_join s run.rows more g.none_refused runs)
        ∙ drop_at (first_rows s run.rows).replay.events those (length (first_rows s run.rows).replay.events) refl

    module _ {buf : List ℕ} {u : Turn} {array' buf' : List ℕ} (d : RowsDone s run next true buf u array' buf') (long : most_row_bytes ≤ length buf) where
      pub rows_next : u.run.rows ≡ next
      rows_next = reached d g (omega arith) (omega arith) runs

      pub records-next : u.run.records ≡ run.records + length those
      records-next = records_more d g (omega arith) (omega arith) runs ∙ ap (λ (es : List Event). run.records + length es) between

      -- no record is lost
      pub records_grow : run.records ≤ u.run.records
      records_grow = omega (arith, records-next)

      -- a row has few
      pub few_records : u.run.records - run.records ≤ most_records
      few_records = omega (arith, records-next, room_enough, length-between s run.rows next, ap length between)

      pub records_are : length those ≡ u.run.records - run.records
      records_are = omega (arith, records-next)

      laid : buf' ≡ sets buf 0 (bytes those)
      laid = kept_between d refl g.none_refused (omega arith) (omega arith) ∙ ap (λ (es : List Event). sets buf 0 (bytes es)) between

      pub stand : StandFrom buf' 0 those
      stand =
          let fit : record_length * length those ≤ length buf = omega (arith, room_enough, length-between s run.rows next, ap length between) in
          rw laid (omega (arith, length-sets buf 0 (bytes those)), front_bytes those buf fit)

      pub numbered : Numbered most_effects those
      numbered = numbered_more (reading s).settings.count most_effects those (most-effects s g.accepted) (numbered_row s run.rows)

      pub recorded : Recorded buf' (u.run.records - run.records)
      recorded = (those, records_are, stand, numbered)
