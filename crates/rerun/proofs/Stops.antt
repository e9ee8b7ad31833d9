-- Where a replay stops, by the holds alone: what a loop that only sums the holds knows at each row.
use mathlib.Core.Path.{◌≡◌, sym, ap, ◌∙◌}
use mathlib.Core.List.{List}
use Prim.Native.Nat.{ℕ, ◌+◌, ◌≤◌, ◌<◌}
use native.Mathlib.Nat.{mul-suc, mul-zero}
use native.Mathlib.Numerals.{add-one}
use native.Mathlib.Omega.{arith}
use lib.ListN.{length}
use Rattle.settings.specs.declared.Row.{Row}
use Rattle.rules.specs.Limits.{most_scans}
use Rattle.settings.proofs.Refusals.{limit_kept}
use Rattle.block.specs.Scan.{scans_number}
use Rattle.recording.specs.Answer as A
use Rattle.recording.specs.Answers.{number, row_count_of, first_row, row_width}
use Rattle.layout.specs.Entries.{row_at}
use Rattle.layout.specs.declared.Kind.TheVariants.{Rows}
use Rattle.recording.specs.Reader.{reading}
use Rattle.layout.specs.Sections.{width_of}
use Rattle.recording.specs.Steps.{row_place}
use Rattle.exactness.proofs.Theorems.{row_in_the_file}
use Rattle.rerun.specs.Answer.{Stop}
use Rattle.rerun.specs.Replay.{Outcome, replay, first_rows, row_of}
use Rattle.rerun.specs.Turn.{stop_of}
use Rattle.rerun.proofs.Files.{no_rows, all_the_rows, whole_so_far, number_at, next_runs, stops-there, done_next}

-- in an accepted file with rows of this width, the first i were not refused, their scans are done, and the next row stands here
pub record Reached (s : List ℕ) (width done place i : ℕ) : Type 0 where
  pub accepted : number (reading s).answer ≡ 0
  pub wide : width ≡ row_width (reading s).answer
  pub none_refused : (first_rows s i).number ≡ 0
  pub scans : (first_rows s i).replay.state.scans_done ≡ done
  pub here : place ≡ row_place s i

pub begins : (s : List ℕ) (rows first width : ℕ) → (reading s).answer ≡ A.Accepted rows first width → Reached s width 0 first 0
begins s rows first width a =
    record {
      accepted = ap number a;
      wide = sym (ap row_width a);
      none_refused = ap (λ (o : Outcome). o.number) (no_rows s);
      scans = ap (λ (o : Outcome). o.replay.state.scans_done) (no_rows s);
      here = omega (arith, ap first_row a, mul-zero (row_width (reading s).answer));
    }

module _ (s : List ℕ) (width done place i : ℕ) (g : Reached s width done place i) where
  -- where no row is left, the replay stops without refusal
  pub ends : i ≡ row_count_of (reading s).answer → ◌≡◌ {A = Stop} (record { number = 0; place = 0 }) (stop_of (replay s))
  ends e = sym (ap stop_of (all_the_rows s g.accepted ∙ ap (first_rows s) (sym e) ∙ whole_so_far s i g.none_refused))

  module _ (more : i < row_count_of (reading s).answer) where
    pub row_there : (width_of Rows ≤ width) × (place + width ≤ length s)
    row_there =
        let there = row_in_the_file s i more in
        (omega (arith, g.wide, there.2), rw (g.here, g.wide) there.0)

    module _ (row : Row) (is : row ≡ row_at width s place) (v : ℕ) (number_is : v ≡ scans_number done row.hold) where
      row_is : row ≡ row_of s i
      row_is = is ∙ rw (g.here, g.wide) (row_in_the_file s i more).1

      same_number : number_at s i ≡ v
      same_number = (λ j. scans_number (g.scans j) (sym row_is j).hold) ∙ sym number_is

      -- a refused row stops the replay
      pub stops : (v ≡ 0 → ⊥) → ◌≡◌ {A = Stop} (record { number = v; place = place }) (stop_of (replay s))
      stops h =
          (λ j. record { number = sym same_number j; place = g.here j })
          ∙ sym (ap stop_of (stops-there s i more g.none_refused g.accepted (λ z. h (sym same_number ∙ z))))

      -- a row that runs: the loop goes on
      module _ (z : v ≡ 0) where
        pub few_scans : done + row.hold ≤ most_scans
        few_scans = limit_kept (done + row.hold) most_scans 8 (sym number_is ∙ z)

        pub goes_on : Reached s width (done + row.hold) (place + width) (i + 1)
        goes_on =
            let next = next_runs s i more g.none_refused (same_number ∙ z) in
            record {
              accepted = g.accepted;
              wide = g.wide;
              none_refused = ap (λ (o : Outcome). o.number) next;
              scans = ap (λ (o : Outcome). o.replay.state.scans_done) next ∙ done_next s g.accepted i more (same_number ∙ z) ∙ (λ j. g.scans j + (sym row_is j).hold);
              here = rw add-one (omega (arith, g.here, g.wide, mul-suc (row_width (reading s).answer) i));
            }
