-- Season totals, as the page says them: each field follows from a law of `season`, of `season_bytes` or of the replay.
use mathlib.Core.Path.{◌≡◌, refl, sym, ap, ◌∙◌}
use mathlib.Core.Bool.{Bool, true, false}
use mathlib.Core.List.{List}
use Prim.Native.Nat.{ℕ, ◌≤◌}
use native.Mathlib.Omega.{arith}
use borrow.Author.Tests.{ltb-true, ltb-false, le-leb, lt-leb}
use lib.Dec.{leb, ltb}
use lib.ListN.{length}
use lib.Seq.{sets}
use Rattle.bits.proofs.Lists.{length-tabulate}
use Rattle.rules.specs.Limits.{most_scans}
use Rattle.settings.specs.Refusals.{unless, or_else, room_number}
use Rattle.settings.proofs.Refusals.{granted_either, granted_none, room_short, or_else_none, or_else_alone}
use Rattle.recording.specs.Answers.{number}
use Rattle.recording.specs.Reader.{reading}
use Rattle.recording.specs.Steps.{rows_of}
use Rattle.recording.specs.Accepted.{Accepted}
use Rattle.exactness.proofs.Theorems.{refused_as_said}
use Rattle.rerun.specs.Replay.{Outcome, replay, sum_of_holds}
use Rattle.rerun.proofs.Theorems.{a_refused_file_is_not_run, nine_for_too_many_scans}
use Rattle.tally.specs.Tally.{sum_count}
use Rattle.season.specs.declared.Report.{Report}
use Rattle.season.specs.Answer.{Added}
use Rattle.season.specs.Season.{season_number, accepted, refused, added_to}
use Rattle.season.proofs.Theorems as season
use Rattle.season.proofs.Theorems.{the_answer's_number, a_refusal_leaves_the_report, an_accepted_file_has_no_place, else_it_grows}
use Rattle.season_bytes.specs.Bytes.{report_length, report_of, report_bytes, into_number, season_into}
use Rattle.season_bytes.proofs.Answers.{with-room}
use Rattle.season_bytes.proofs.Theorems.{a_refusal_touches_no_byte, the_report_after}
use Rattle.demands.specs.Season.{CountsSingleScans, AddsInOrder, SeasonInOrder}

pub counts_single_scans : (s : List ℕ) → CountsSingleScans s
counts_single_scans s =
    record {
      stood_in = season.a_state's_sum_is_its_scans s;
      trips = season.its_trips_are_its_changes_into_tripped s;
      slots_past = λ i j h l past. season.an_absent_effect_adds_nothing s i h j l past;
      exercised = season.the_last_sum_is_the_exercised_scans s;
    }

-- ## Refusals, in order

module _ (r : Report) (s : List ℕ) (long : length r.sums ≡ 113) where
  abbrev said : (added_to r s).number ≡ season_number r s
  said = the_answer's_number r s

  -- what the reader accepts has no place
  no_place : Accepted s → (added_to r s).place ≡ 0
  unfolding added_to
  no_place ok = granted_either (accepted r s) (refused r s) (λ a. a.place ≡ 0) (season_number r s) (λ z. refl) (λ k. an_accepted_file_has_no_place s ok)

  pub adds_in_order : AddsInOrder r s (added_to r s)
  adds_in_order =
      record {
        the_readers = λ h.
            let n = season.the_reader_first r s h in
            (said ∙ n, ap (λ (a : Added). a.place) (a_refusal_leaves_the_report r s (λ z. h (sym n ∙ z))), (refused_as_said s h).1);
        nine = λ ok h. (said ∙ season.then_nine r s ok h, no_place ok);
        eleven = λ ok few k l past. (said ∙ season.then_eleven r s ok few k (omega (arith, long)) past, no_place ok);
        added = λ ok few h. (said ∙ season.else_none r s ok few (λ k l. h k (omega (arith, long))), no_place ok);
        unchanged = λ h.
            let e = a_refusal_leaves_the_report r s (λ z. h (said ∙ z)) in
            (ap (λ (a : Added). a.report) e, ap (λ (a : Added). a.effects) e);
        grown = λ z.
            let n = sym said ∙ z in
            let e = else_it_grows r s n in
            (ap (λ (a : Added). a.effects) e, ap (λ (a : Added). length a.report.sums) e ∙ length-tabulate _ sum_count, season.each_sum_grows r s n);
      }

-- ## A report in lent bytes

module _ (s bytes : List ℕ) where
  abbrev rest : ℕ
  rest = or_else (room_number report_length (length bytes)) (season_number (report_of bytes) s)

  -- no refusal means that there is room
  room_there : into_number s bytes ≡ 0 → report_length ≤ length bytes
  room_there z = go (ltb (length bytes) report_length) refl
    where
      none : room_number report_length (length bytes) ≡ 0
      none = (or_else_none (room_number report_length (length bytes)) _ (or_else_none (replay s).number rest z).1).0

      go : (b : Bool) → ltb (length bytes) report_length ≡ b → report_length ≤ length bytes
      go true e = absurd (omega (arith, none, room_short report_length (length bytes) (ltb-true (length bytes) report_length e)))
      go false e = ltb-false (length bytes) report_length e

  -- by the replay's refusal number, or where it has none by what comes after
  as_replayed : (n : ℕ) → (replay s).number ≡ n → into_number s bytes ≡ or_else n rest
  as_replayed n e = ap (λ (m : ℕ). or_else m rest) e

  by_holds : Accepted s → (b : Bool) → leb (sum_of_holds (rows_of s)) most_scans ≡ b → into_number s bytes ≡ or_else (unless b 9) rest
  by_holds ok b e = as_replayed (unless b 9) (nine_for_too_many_scans s ok ∙ ap (λ (c : Bool). unless c 9) e)

  the_reader_first : (Accepted s → ⊥) → into_number s bytes ≡ number (reading s).answer
  the_reader_first h = go (number (reading s).answer) (ap (λ (o : Outcome). o.number) (a_refused_file_is_not_run s h)) h
    where
      go : (n : ℕ) → (replay s).number ≡ n → (n ≡ 0 → ⊥) → into_number s bytes ≡ n
      go n e k = as_replayed n e ∙ or_else_alone n rest (λ z. absurd (k z))

  pub season_in_order : SeasonInOrder s bytes (into_number s bytes) (season_into s bytes)
  season_in_order =
      record {
        the_readers = the_reader_first;
        nine = λ ok h. by_holds ok false (lt-leb (sum_of_holds (rows_of s)) most_scans h);
        ten = λ ok few h.
            by_holds ok true (le-leb (sum_of_holds (rows_of s)) most_scans few)
            ∙ ap (λ (n : ℕ). or_else n (season_number (report_of bytes) s)) (room_short report_length (length bytes) h);
        as_added = λ h. sym (the_answer's_number (report_of bytes) s ∙ with-room s bytes h);
        untouched = a_refusal_touches_no_byte s bytes;
        in_place = granted_none (sets bytes 0 (report_bytes (added_to (report_of bytes) s).report)) (λ n. bytes) (into_number s bytes);
        read_back = λ z. the_report_after s bytes (room_there z);
      }
