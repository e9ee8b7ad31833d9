-- The last row of a recording that is replayed whole: the rows before it can be run, and how the effects stand after it.
use mathlib.Core.Path.{◌≡◌, ap, sym, ◌∙◌}
use mathlib.Core.Bool.{true, false}
use mathlib.Core.List.{List}
use Prim.Native.Nat.{ℕ, ◌+◌, ◌-◌, ◌≤◌, ◌<◌}
use native.Mathlib.Omega.{arith}
use lib.ListN.{length, get_or}
use Rattle.rules.specs.declared.Slot.{Slot}
use Rattle.rules.specs.Rules.{no_slot}
use Rattle.effects.specs.Records.{most_row_bytes}
use Rattle.boards.specs.Table.{slots_of}
use Rattle.cells.specs.Loaded.{table_in}
use Rattle.recording.specs.Answer as A
use Rattle.recording.specs.Answers.{row_count_of}
use Rattle.recording.specs.Reader.{reading}
use Rattle.recording.specs.Accepted.{Accepted}
use Rattle.exactness.proofs.Theorems.{accepted_is_right}
use Rattle.exactness.proofs.Trips.{length-rows_of}
use Rattle.rerun.specs.declared.Run.{Run}
use Rattle.rerun.specs.Answer.{Turn}
use Rattle.rerun.specs.Replay.{Outcome, replay, first_rows, row_run}
use Rattle.rerun.specs.Turn.{Begun, Totals, Going, Begins, RowsReady, RowsDone}
use Rattle.rerun.proofs.Files.{never_refused, all_the_rows, most-effects, sound}
use Rattle.rerun.proofs.Turns.{begins, reached}
use Rattle.trace.specs.Effect.{own, told}
use Rattle.reasons.specs.declared.Sight.{Sight}
use Rattle.reasoned.specs.Told.{row_sight}
use Rattle.standing.specs.Stands.{ToldAll, last_row, Stands}
use Rattle.standing.proofs.Records.{told_state}
use Rattle.standing.proofs.Rows.{count-is, slots_are, rows_next, records_are, stand, numbered}

-- ## The rows before the last

-- a recording has a row
pub some-row : (s : List ℕ) → Accepted s → 1 ≤ row_count_of (reading s).answer
some-row s a = omega (arith, (accepted_is_right s a).rows_least, length-rows_of s)

module _ {s : List ℕ} {rows first width : ℕ} {r : Begun} (b : Begins (reading s).settings rows first width r) (a : (reading s).answer ≡ A.Accepted rows first width) where
  pub ready_before : (room : ℕ) → most_row_bytes ≤ room → RowsReady s r.run (rows - 1) r.board room false
  ready_before room long =
      record { going = begins b a; onward = omega (arith, ap (λ (u : Totals). u.rows) b.totals); within = omega (arith, ap row_count_of a); fits = long }

  -- where they have run, one row is left
  pub one_left : 1 ≤ rows → (replay s).number ≡ 0 → {buf : List ℕ} {u : Turn} {array' buf' : List ℕ} → RowsDone s r.run (rows - 1) false buf u array' buf'
      → u.run.rows + 1 ≡ row_count_of (reading s).answer
  one_left some whole d =
      let g = begins b a in
      omega (
        arith,
        reached d g (omega (arith, ap (λ (u : Totals). u.rows) b.totals)) (omega (arith, ap row_count_of a)) (never_refused s g.accepted whole (rows - 1)),
        ap row_count_of a,
      )

-- ## After the last

module _ {s : List ℕ} {run : Run} {array : List ℕ} (g : Going s run array) (last : run.rows + 1 ≡ row_count_of (reading s).answer) (whole : (replay s).number ≡ 0) where
  pub more : run.rows < row_count_of (reading s).answer
  more = omega (arith, last)

  place : run.rows ≡ last_row s
  place = omega (arith, last)

  module _ {buf : List ℕ} {u : Turn} {array' buf' : List ℕ} (d : RowsDone s run (run.rows + 1) true buf u array' buf') (long : most_row_bytes ≤ length buf) where
    ended : first_rows s u.run.rows ≡ replay s
    ended = ap (first_rows s) (rows_next g more whole d long ∙ last) ∙ sym (all_the_rows s g.accepted)

    scans : u.run.mark.scans_done ≡ (replay s).replay.state.scans_done
    scans = ap (λ (t : Totals). t.board.scans_done) d.going.totals ∙ ap (λ (o : Outcome). o.replay.state.scans_done) ended

    -- of what the code reads and tells
    module _ (sight : Sight) (xs from to : List Slot) (c : ℕ) (seen : sight ≡ row_sight s run.rows) (at_first : xs ≡ slots_of run.plan.count (table_in run.mark.planes array))
        (scan : c ≡ u.run.mark.scans_done - 1) (tells : ToldAll c buf' (u.run.records - run.records) xs from)
        (at_last : to ≡ slots_of run.plan.count (table_in u.run.mark.planes array')) where
      slots : xs ≡ (first_rows s run.rows).replay.state.slots
      slots = at_first ∙ slots_are g run.plan.count (count-is g)

      pub stands : Stands s (record { from = from; to = to; sight = sight })
      stands =
          record {
            sight_is = seen ∙ ap (row_sight s) place;
            to_is = at_last ∙ slots_are d.going run.plan.count (count-is g) ∙ ap (λ (o : Outcome). o.replay.state.slots) ended;
            from_is = λ i h.
                let those = (row_run s run.rows).events in
                let few : i < length xs = omega (arith, h, most-effects s g.accepted, ap length slots, (sound s g.accepted run.rows).slots) in
                let before = slots ∙ ap (λ (n : ℕ). (first_rows s n).replay.state.slots) place in
                let at : c ≡ (replay s).replay.state.scans_done - 1 = omega (arith, scan, scans) in
                ap (λ (l : List Slot). (get_or l i no_slot).state) (tells those (records_are g more whole d long) (stand g more whole d long))
                ∙ told_state c i those xs (numbered g more whole d long) few
                ∙ (λ j. told (at j) (own (1 + i) (row_run s (place j)).events) (get_or (before j) i no_slot).state);
          }
