-- The loop of `go`: what it has reached, that one row more can be run there, and that it goes on, stops and ends as the definitions
-- say.
use mathlib.Core.Path.{◌≡◌, refl, sym, ap, ◌∙◌}
use mathlib.Core.Bool.{Bool}
use mathlib.Core.List.{List}
use Prim.Native.Nat.{ℕ, ◌+◌, ◌-◌, ◌≤◌, ◌<◌}
use native.Mathlib.Nat.{sub_self}
use native.Mathlib.Omega.{arith}
use borrow.Rule.Slice.PartMut.{put_mid}
use lib.ListN.{length, take, drop, length-take, length-drop}
use lib.Seq.{sets}
use Rattle.effects.specs.Records.{bytes}
use Rattle.settings.proofs.Refusals.{granted_refused}
use Rattle.recording.specs.Answers.{row_count_of}
use Rattle.recording.specs.Reader.{reading}
use Rattle.rerun.specs.declared.Run.{Run}
use Rattle.rerun.specs.Answer.{Turn}
use Rattle.rerun.specs.Replay.{Replay, Outcome, first_rows, row_run}
use Rattle.rerun.specs.Turn.{Going, Fits, row_into, RowReady, RowDone, records_between, place_of, rows_into, room_of, RowsReady, RowsDone}
use Rattle.rerun.proofs.Files.{counted, events_grow, stays_refused, refused_gives_nothing}
use Rattle.rerun.proofs.Filling.{part_into, length_into, row-into, stopped_into, place-within, next_fits}
use Rattle.rerun.proofs.Turns.{records_so_far, rows_so_far, fits_any, one-row, unchanged}

-- some rows after `from` have passed, and have stored their records
pub record Passed (s : List ℕ) (from : Run) (until : ℕ) (keep : Bool) (out : List ℕ) (run : Run) (array buf : List ℕ) : Type 0 where
  pub going : Going s run array
  pub onward : from.rows ≤ run.rows
  pub within : run.rows ≤ until
  pub stored : buf ≡ rows_into s keep from.rows (run.rows - from.rows) out

module _ {s : List ℕ} {from : Run} {until : ℕ} {keep : Bool} {first out : List ℕ} (ready : RowsReady s from until first (length out) keep) where
  pub begins : Passed s from until keep out from first out
  unfolding rows_into
  begins = record { going = ready.going; onward = omega arith; within = ready.onward; stored = rw sub_self }

  -- the buffer keeps its length
  pub length-done : {r : Turn} {array buf : List ℕ} → RowsDone s from until keep out r array buf → length buf ≡ length out
  length-done d = ap length d.laid ∙ length_into s keep from.rows (until - from.rows) out

  module _ {run : Run} {array buf : List ℕ} (p : Passed s from until keep out run array buf) where
    pub length_passed : length buf ≡ length out
    length_passed = ap length p.stored ∙ length_into s keep from.rows (run.rows - from.rows) out

    -- where no row is left, the loop ends
    pub ends : until ≤ run.rows → RowsDone s from until keep out (record { number = 0; records = 0; run = run }) array buf
    ends l =
        let e : run.rows ≡ until = omega (arith, p.within) in
        let none : (first_rows s until).number ≡ 0 = ap (λ (n : ℕ). (first_rows s n).number) (sym e) ∙ p.going.none_refused in
        record {
          number_is = sym none;
          records_are = refl;
          going = p.going;
          rows_are = e ∙ sym (counted s until ready.within none);
          laid = p.stored ∙ ap (λ (n : ℕ). rows_into s keep from.rows (n - from.rows) out) e;
        }

    -- one row more, whose records go to this place
    -- the records before the loop are among those so far
    pub records_before : from.records ≤ run.records
    records_before = omega (arith, records_so_far ready.going, records_so_far p.going, events_grow s from.rows run.rows p.onward ready.going.none_refused)

    module _ (more : run.rows < until) (at : ℕ) (at-is : at ≡ place_of keep (run.records - from.records)) where
      in-file : run.rows < row_count_of (reading s).answer
      in-file = omega (arith, ready.within, more)

      room : room_of s from.rows until keep ≤ length buf
      room = omega (arith, ready.fits, length_passed)

      place : at ≡ place_of keep (records_between s from.rows run.rows)
      place = at-is ∙ (λ j. place_of keep (records_so_far p.going j - records_so_far ready.going j))

      pub at-within : at ≤ length buf
      at-within = rw place (place-within s from.rows run.rows ready.going.none_refused p.going.none_refused p.onward until keep (length buf) room (omega (arith, more)))

      fits : Fits s run.rows (length buf - at)
      fits = rw place (next_fits s from.rows run.rows ready.going.none_refused p.going.none_refused p.onward until keep (length buf) room more in-file (fits_any p.going in-file))

      abbrev part : List ℕ
      part = take (length buf - at) (drop at buf)

      pub row_ready : RowReady s run array (length part)
      row_ready = record { going = p.going; more = in-file; fits = λ none. simp (length-take, length-drop) (omega (arith, fits none)) }

      module _ {r : Turn} {array' part' : List ℕ} (d : RowDone s run part r array' part') where
        abbrev buf' : List ℕ
        buf' = put_mid at (length buf - at) buf part'

        -- the records of the row are at their place
        into : buf' ≡ row_into s run.rows at buf
        into = part_into s run.rows at buf part' at-within fits d.laid

        -- after a row that runs, one row fewer is left
        pub less : r.number ≡ 0 → until - r.run.rows < until - run.rows
        less z = omega (arith, one-row p.going in-file d z, more)

        pub goes_on : r.number ≡ 0 → Passed s from until keep out r.run array' buf'
        goes_on z =
            let e = one-row p.going in-file d z in
            record {
              going = d.going;
              onward = omega (arith, e, p.onward);
              within = omega (arith, e, more);
              stored =
                  into
                  ∙ (λ j. row_into s run.rows (place j) (p.stored j))
                  ∙ row-into s keep from.rows run.rows p.onward out
                  ∙ ap (λ (n : ℕ). rows_into s keep from.rows (n - from.rows) out) (sym e);
            }

        pub stops : (r.number ≡ 0 → ⊥) → RowsDone s from until keep out r array' buf'
        stops h =
            let refused : (first_rows s (run.rows + 1)).number ≡ 0 → ⊥ = λ z. h (d.number_is ∙ z) in
            let n = (first_rows s (run.rows + 1)).number in
            let last = stays_refused s (run.rows + 1) until (omega (arith, more)) refused in
            let replay = ap (λ (o : Outcome). o.replay) last ∙ refused_gives_nothing s run.rows in-file refused in
            let sum : run.rows + (until - run.rows) ≡ until = omega (arith, more) in
            record {
              number_is = d.number_is ∙ sym (ap (λ (o : Outcome). o.number) last);
              records_are = d.records_are ∙ granted_refused (length (row_run s run.rows).events) (λ k. 0) n refused;
              going = d.going;
              rows_are = unchanged p.going in-file d h ∙ sym (ap (λ (x : Replay). x.rows) replay ∙ rows_so_far p.going);
              laid =
                  into
                  ∙ granted_refused (sets buf at (bytes (row_run s run.rows).events)) (λ k. buf) n refused
                  ∙ p.stored
                  ∙ sym (stopped_into s keep from.rows run.rows (until - run.rows) p.onward refused out)
                  ∙ ap (λ (m : ℕ). rows_into s keep from.rows (m - from.rows) out) sum;
            }
