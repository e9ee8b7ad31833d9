-- What is promised of a report, beside the contract of `Report::add`, which gives its whole answer by `added_to`. Document 02, L1.
use mathlib.Core.Path.{◌≡◌, refl, ap, sym, ◌∙◌}
use mathlib.Core.Bool.{Bool, true, false, cond}
use mathlib.Core.List.{List, [], ◌∷◌}
use Prim.Native.Nat.{ℕ, zero, suc, ◌+◌, ◌/◌, ◌%◌, ◌≤◌, ◌<◌}
use native.Mathlib.Nat.{add-zero}
use native.Mathlib.Omega.{arith}
use borrow.Author.Tests.{lt-ltb, le-ltb, le-leb, lt-leb}
use lib.ListN.{length, get_or, get_or-replicate}
use Rattle.bits.proofs.Lists.{get_or-tabulate}
use Rattle.rules.specs.declared.EffectState.{EffectState}
use Rattle.rules.specs.declared.EffectState.TheVariants.{Tripped, WaitReset, Ready, WaitStart, Normal, Delayed}
use Rattle.rules.specs.Limits.{most_effects, most_scans}
use Rattle.rules.specs.Rules.{code}
use Rattle.settings.specs.Refusals.{unless, or_else, granted}
use Rattle.settings.proofs.Refusals.{granted_none, granted_refused, granted_number, or_else_first, or_else_none}
use Rattle.recording.specs.Answers.{number, place}
use Rattle.recording.specs.Reader.{reading}
use Rattle.recording.specs.Steps.{rows_of}
use Rattle.recording.specs.Accepted.{Accepted}
use Rattle.exactness.proofs.Theorems.{accepted_case}
use Rattle.rerun.specs.Replay.{Outcome, replay, sum_of_holds}
use Rattle.rerun.proofs.Theorems.{a_refused_file_is_not_run, nine_for_too_many_scans, scans_are_the_holds}
use Rattle.trace.specs.Effect.{stood, tripped, over_states}
use Rattle.trace.specs.States.{states_at, trace}
use Rattle.trace.proofs.Theorems.{six_totals_are_the_scans}
use Rattle.sums.specs.Sums.{most_sum, in_range}
use Rattle.sums.proofs.Sums.{sum_fits, in_range_if}
use Rattle.tally.specs.Tally.{sums_of_effect, exercised_sum, sum_count, state_sum, trip_sum}
use Rattle.season.specs.declared.Report.{Report}
use Rattle.season.specs.Answer.{Added}
use Rattle.season.specs.Season.{empty, has, sum_of, sum_in, season_number, refused, accepted, added_to}
use Rattle.season.specs.Overall.{over_all, six_of, holds_of}

-- ## Refusals

-- the number of the answer is `season_number`
pub the_answer's_number : (r : Report) (s : List ℕ) → (added_to r s).number ≡ season_number r s
unfolding added_to
the_answer's_number r s = granted_number (accepted r s) (refused r s) (λ a. a.number) (season_number r s) (λ z. refl) (λ n. refl)

-- on any refusal the report comes back unchanged, the effect count is 0, and the place is the reader's, which is 0 for an accepted file
pub a_refusal_leaves_the_report : (r : Report) (s : List ℕ) → (season_number r s ≡ 0 → ⊥) → added_to r s ≡ refused r s (season_number r s)
unfolding added_to
a_refusal_leaves_the_report r s h = granted_refused (accepted r s) (refused r s) (season_number r s) h

pub an_accepted_file_has_no_place : (s : List ℕ) → Accepted s → place (reading s).answer ≡ 0
an_accepted_file_has_no_place s ok = ap place (accepted_case s ok)

pub else_it_grows : (r : Report) (s : List ℕ) → season_number r s ≡ 0 → added_to r s ≡ accepted r s
unfolding added_to
else_it_grows r s z = granted_none (accepted r s) (refused r s) (season_number r s) z

-- the order: the reader's refusal; 9 for more than 1,000,000,000 scans in all; 11 for a sum that would pass 64 bits
pub the_reader_first : (r : Report) (s : List ℕ) → (Accepted s → ⊥) → season_number r s ≡ number (reading s).answer
unfolding season_number
the_reader_first r s h =
    let is : (replay s).number ≡ number (reading s).answer = ap (λ (o : Outcome). o.number) (a_refused_file_is_not_run s h) in
    sym (or_else_first (replay s).number (unless (in_range (sum_in s) r.sums) 11) (number (reading s).answer) (sym is) h)

module _ (r : Report) (s : List ℕ) (ok : Accepted s) where
  pub then_nine : most_scans < sum_of_holds (rows_of s) → season_number r s ≡ 9
  unfolding season_number
  then_nine h =
      let nine : (replay s).number ≡ 9 = nine_for_too_many_scans s ok ∙ ap (λ (b : Bool). unless b 9) (lt-leb (sum_of_holds (rows_of s)) most_scans h) in
      ap (λ (n : ℕ). or_else n (unless (in_range (sum_in s) r.sums) 11)) nine

  module _ (few : sum_of_holds (rows_of s) ≤ most_scans) where
    by_the_sums : season_number r s ≡ unless (in_range (sum_in s) r.sums) 11
    unfolding season_number
    by_the_sums =
        let none : (replay s).number ≡ 0 = nine_for_too_many_scans s ok ∙ ap (λ (b : Bool). unless b 9) (le-leb (sum_of_holds (rows_of s)) most_scans few) in
        ap (λ (n : ℕ). or_else n (unless (in_range (sum_in s) r.sums) 11)) none

    pub then_eleven : (k : ℕ) → k < length r.sums → most_sum < get_or r.sums k 0 + sum_in s k → season_number r s ≡ 11
    then_eleven k l h = by_the_sums ∙ go (in_range (sum_in s) r.sums) refl
      where
        go : (b : Bool) → in_range (sum_in s) r.sums ≡ b → unless b 11 ≡ 11
        go true e = absurd (omega (arith, h, sum_fits (sum_in s) r.sums k e l))
        go false e = refl

    pub else_none : ((k : ℕ) → k < length r.sums → get_or r.sums k 0 + sum_in s k ≤ most_sum) → season_number r s ≡ 0
    else_none h = by_the_sums ∙ ap (λ (b : Bool). unless b 11) (in_range_if (sum_in s) r.sums h)

-- what is added was accepted by the reader, and every row ran
pub added_is_replayed : (r : Report) (s : List ℕ) → season_number r s ≡ 0 → Accepted s × ((replay s).number ≡ 0)
unfolding season_number
added_is_replayed r s e = (go (number (reading s).answer) refl, ran)
  where
    ran : (replay s).number ≡ 0
    ran = (or_else_none (replay s).number (unless (in_range (sum_in s) r.sums) 11) e).0

    go : (n : ℕ) → number (reading s).answer ≡ n → number (reading s).answer ≡ 0
    go zero q = q
    go (suc n) q =
        sym (ap (λ (o : Outcome). o.number) (a_refused_file_is_not_run s (λ z. omega (arith, q, z)))) ∙ ran

-- ## Totals are those of single scans

-- what a recording adds to the sums of its effects: by the states after each single scan (`trace`). Those that it does not have get nothing
module _ (s : List ℕ) (i : ℕ) (h : i < most_effects) where
  sum_at : (j : ℕ) → j < sums_of_effect → sum_in s (state_sum i j) ≡ cond (has s i) (sum_of j (states_at i (trace s))) 0
  sum_at j l =
      let a : state_sum i j / sums_of_effect ≡ i = omega arith in
      let b : state_sum i j % sums_of_effect ≡ j = omega arith in
      λ k. cond (lt-ltb (state_sum i j) exercised_sum (omega arith) k) (cond (has s (a k)) (sum_of (b k) (states_at (a k) (trace s))) 0) (replay s).replay.exercised

  pub an_absent_effect_adds_nothing : (j : ℕ) → j < sums_of_effect → (reading s).settings.count ≤ i → sum_in s (state_sum i j) ≡ 0
  an_absent_effect_adds_nothing j l k = sum_at j l ∙ ap (λ (b : Bool). cond b (sum_of j (states_at i (trace s))) 0) (le-ltb i (reading s).settings.count k)

  module _ (is-there : i < (reading s).settings.count) where
    of_its_own : (j : ℕ) → j < sums_of_effect → sum_in s (state_sum i j) ≡ sum_of j (states_at i (trace s))
    of_its_own j l = sum_at j l ∙ ap (λ (b : Bool). cond b (sum_of j (states_at i (trace s))) 0) (lt-ltb i (reading s).settings.count is-there)

    pub a_state's_sum_is_its_scans : (q : EffectState) → sum_in s (state_sum i (code q)) ≡ stood q (states_at i (trace s))
    a_state's_sum_is_its_scans Tripped = of_its_own 0 (omega arith)
    a_state's_sum_is_its_scans WaitReset = of_its_own 1 (omega arith)
    a_state's_sum_is_its_scans Ready = of_its_own 2 (omega arith)
    a_state's_sum_is_its_scans WaitStart = of_its_own 3 (omega arith)
    a_state's_sum_is_its_scans Normal = of_its_own 4 (omega arith)
    a_state's_sum_is_its_scans Delayed = of_its_own 5 (omega arith)

    pub its_trips_are_its_changes_into_tripped : sum_in s (trip_sum i) ≡ tripped Tripped (states_at i (trace s))
    its_trips_are_its_changes_into_tripped = of_its_own 6 (omega arith)

-- and to the last one the exercised scans of its held runs
pub the_last_sum_is_the_exercised_scans : (s : List ℕ) → sum_in s exercised_sum ≡ (replay s).replay.exercised
the_last_sum_is_the_exercised_scans s = refl

-- each sum grows by what the recording adds
pub each_sum_grows : (r : Report) (s : List ℕ) → season_number r s ≡ 0 → (k : ℕ) → k < sum_count → get_or (added_to r s).report.sums k 0 ≡ get_or r.sums k 0 + sum_in s k
each_sum_grows r s z k h =
    ap (λ (a : Added). get_or a.report.sums k 0) (else_it_grows r s z) ∙ get_or-tabulate (λ i. get_or r.sums i 0 + sum_in s i) sum_count k 0 h

-- ## An effect's six state totals add up to the holds of the recordings that have it

module _ (r : Report) (s : List ℕ) (i : ℕ) (h : i < most_effects) where
  six_in : Accepted s → (b : Bool) → over_states (λ q. cond b (stood q (states_at i (trace s))) 0) ≡ cond b (replay s).replay.state.scans_done 0
  six_in ok true = six_totals_are_the_scans s ok i
  six_in ok false = refl

  pub one_recording_adds_its_holds : season_number r s ≡ 0 → six_of (added_to r s).report i ≡ six_of r i + cond (has s i) (sum_of_holds (rows_of s)) 0
  one_recording_adds_its_holds z =
      let ran = added_is_replayed r s z in
      let six = six_in ran.0 (has s i) ∙ ap (λ (n : ℕ). cond (has s i) n 0) (scans_are_the_holds s ran.0 ran.1) in
      let grows : (j : ℕ) → j < 6 → get_or (added_to r s).report.sums (state_sum i j) 0 ≡ get_or r.sums (state_sum i j) 0 + cond (has s i) (sum_of j (states_at i (trace s))) 0 =
      λ j l. each_sum_grows r s z (state_sum i j) (omega arith) ∙ ap (λ (n : ℕ). get_or r.sums (state_sum i j) 0 + n) (sum_at s i h j (omega arith))
      in
      omega (
        arith,
        six,
        grows 0 (omega arith),
        grows 1 (omega arith),
        grows 2 (omega arith),
        grows 3 (omega arith),
        grows 4 (omega arith),
        grows 5 (omega arith),
      )

  one_more : six_of (added_to r s).report i ≡ six_of r i + granted (added_to r s).number (cond (has s i) (sum_of_holds (rows_of s)) 0) (λ n. 0)
  one_more =
      go (season_number r s) refl
      ∙ ap (λ (n : ℕ). six_of r i + granted n (cond (has s i) (sum_of_holds (rows_of s)) 0) (λ k. 0)) (sym (the_answer's_number r s))
    where
      go : (n : ℕ) → season_number r s ≡ n → six_of (added_to r s).report i ≡ six_of r i + granted n (cond (has s i) (sum_of_holds (rows_of s)) 0) (λ k. 0)
      go zero e = one_recording_adds_its_holds e
      go (suc n) e = ap (λ (a : Added). six_of a.report i) (a_refusal_leaves_the_report r s (λ z. omega (arith, e, z))) ∙ sym (add-zero _)

pub recordings_add_their_holds : (r : Report) (i : ℕ) → i < most_effects → (ss : List (List ℕ)) → six_of (over_all r ss) i ≡ six_of r i + holds_of r i ss
recordings_add_their_holds r i h [] = sym (add-zero _)
recordings_add_their_holds r i h (s ∷ ss) = omega (arith, recordings_add_their_holds (added_to r s).report i h ss, one_more r s i h)

pub six_totals_are_the_holds : (i : ℕ) → i < most_effects → (ss : List (List ℕ)) → six_of (over_all empty ss) i ≡ holds_of empty i ss
six_totals_are_the_holds i h ss =
    let none : (q : ℕ) → q < 6 → get_or empty.sums (state_sum i q) 0 ≡ 0 = λ q l. get_or-replicate sum_count (state_sum i q) 0 0 (omega arith) in
    omega (arith, recordings_add_their_holds empty i h ss, none 0 (omega arith), none 1 (omega arith), none 2 (omega arith), none 3 (omega arith), none 4 (omega arith), none 5 (omega arith))
