-- What the code has counted is what single scans give, and its answer is the definition's.
use mathlib.Core.Path.{◌≡◌, refl, ap, ap₂, sym, ◌∙◌}
use mathlib.Core.Bool.{Bool, true, false, cond, ◌&&◌}
use mathlib.Core.List.{List, []}
use Prim.Native.Nat.{ℕ, zero, suc, ◌+◌, ◌*◌, ◌-◌, ◌/◌, ◌%◌, ◌≤◌, ◌<◌}
use native.Mathlib.Nat.{add-zero}
use native.Mathlib.Omega.{arith}
use borrow.Author.Tests.{ltb-true, ltb-false, eqb-true, eqb-false, ne_eqb}
use lib.Dec.{eqb, ltb}
use lib.ListN.{length, get_or, set}
use lib.Seq.{get_or-set_same, get_or-set_other}
use Rattle.bits.specs.Words.{one}
use Rattle.rules.specs.declared.EffectState.{EffectState}
use Rattle.rules.specs.declared.EffectState.TheVariants.{Tripped}
use Rattle.rules.specs.Limits.{most_effects, most_scans}
use Rattle.rules.specs.Rules.{code, same}
use Rattle.effects.specs.declared.Event.{Event}
use Rattle.settings.specs.Refusals.{unless, or_else, granted}
use Rattle.settings.proofs.Refusals.{granted_refused}
use Rattle.block.proofs.RightStates.{right_state_few}
use Rattle.recording.specs.Answers.{place}
use Rattle.recording.specs.Reader.{reading}
use Rattle.recording.specs.Accepted.{Accepted}
use Rattle.rerun.specs.Replay.{replay}
use Rattle.rerun.proofs.Files.{most-effects}
use Rattle.rerun.proofs.Theorems.{the_state_is_right, exercised_at_most_the_scans}
use Rattle.trace.specs.Effect.{Change, own, stood, tripped, closed_by, tripped_by}
use Rattle.trace.specs.States.{states_at, trace}
use Rattle.trace.proofs.Numbered.{numbered_more, numbered_replay, absent}
use Rattle.trace.proofs.Rows.{told_replay}
use Rattle.trace.proofs.Theorems.{a_replay's_stretches_are_its_scans, a_replay's_trips_are_its_events, no_total_passes_the_scans, no_more_trips_than_scans}
use Rattle.sums.specs.Sums.{in_range}
use Rattle.tally.specs.Tally.{Count, none, counted, trip_place, sums_of_effect, exercised_sum, sum_count, state_sum, trip_sum, code_in, since_of, closed_to, AllClosable}
use Rattle.tally.proofs.Tallied.{code_few, first, open_after, Tallied, tallied_none, tallied_all}
use Rattle.tally.proofs.Closing.{open_part, length-closed, closed_at, all_closable}
use Rattle.season.specs.declared.Report.{Report}
use Rattle.season.specs.Season.{has, states, sum_of, sum_in, season_number, accepted, added_to}
use Rattle.season.specs.Rows.{refused_at, joined_by, joined}
use Rattle.season.proofs.Loop.{bounded}
use Rattle.season.proofs.Joins.{joined-alike}

-- the state of a code
abbrev state_for : ℕ → EffectState
state_for j = get_or states j Tripped

code_for : (j : ℕ) → j < trip_place → code (state_for j) ≡ j
code_for zero h = refl
code_for (suc zero) h = refl
code_for (suc (suc zero)) h = refl
code_for (suc (suc (suc zero))) h = refl
code_for (suc (suc (suc (suc zero)))) h = refl
code_for (suc (suc (suc (suc (suc zero))))) h = refl
code_for (suc (suc (suc (suc (suc (suc j)))))) h = absurd (omega arith)

part_of : (b : Bool) (n : ℕ) → cond b n 0 ≡ one b * n
part_of true n = omega arith
part_of false n = omega arith

never : (b : Bool) → (b && false) ≡ false
never true = refl
never false = refl

module _ (s : List ℕ) (ok : Accepted s) (c : Count) (is : c ≡ counted (replay s).replay.events none) where
  abbrev es : List Event
  es = (replay s).replay.events

  abbrev n : ℕ
  n = (reading s).settings.count

  abbrev done : ℕ
  done = (replay s).replay.state.scans_done

  abbrev exercised : ℕ
  exercised = (replay s).replay.exercised

  tallied : Tallied es c
  tallied = rw is (tallied_all [] es none tallied_none (numbered_more n most_effects es (most-effects s ok) (numbered_replay s ok)))

  no_events : (i : ℕ) → n ≤ i → own (1 + i) es ≡ []
  no_events i h = absent n i es (numbered_replay s ok) h

  few_effects : n ≤ most_effects
  few_effects = most-effects s ok

  -- ## Each sum

  -- the changes into Tripped: no stretch has any
  trips_are : (i : ℕ) → i < most_effects → get_or c.sums (trip_sum i) 0 + open_part n done c i trip_place ≡ cond (has s i) (tripped Tripped (states_at i (trace s))) 0
  trips_are i h =
      let closed : eqb (code_in c i) trip_place ≡ false = ne_eqb (code_in c i) trip_place (λ z. omega (arith, z, tallied.states i h, code_few (open_after i es).state)) in
      ap₂ (λ (a b : ℕ). a + b) (tallied.trips i h) ((λ j. cond (ltb i n && closed j) (done - since_of c i) 0) ∙ ap (λ (b : Bool). cond b (done - since_of c i) 0) (never (ltb i n)))
      ∙ add-zero _ ∙ go (has s i) refl
    where
      go : (b : Bool) → has s i ≡ b → tripped_by (own (1 + i) es) ≡ cond b (tripped Tripped (states_at i (trace s))) 0
      go true e = a_replay's_trips_are_its_events s ok i
      go false e = ap tripped_by (no_events i (ltb-false i n e))

  -- the scans in a state: those of the closed stretches and of the open one
  stood_are : (i : ℕ) (q : EffectState) → i < most_effects
      → get_or c.sums (state_sum i (code q)) 0 + open_part n done c i (code q) ≡ cond (has s i) (stood q (states_at i (trace s))) 0
  stood_are i q h =
      ap₂ (λ (a b : ℕ). a + b) (tallied.stood i q h) (λ j. cond (ltb i n && eqb (tallied.states i h j) (code q)) (done - tallied.since i h j) 0) ∙ go (has s i) refl
    where
      go : (b : Bool) → has s i ≡ b
          → closed_by q first (own (1 + i) es) + cond (b && eqb (code (open_after i es).state) (code q)) (done - (open_after i es).since) 0 ≡ cond b (stood q (states_at i (trace s))) 0
      go true e =
          ap (λ (m : ℕ). closed_by q first (own (1 + i) es) + m) (part_of (same (open_after i es).state q) (done - (open_after i es).since))
          ∙ a_replay's_stretches_are_its_scans s ok i q
      go false e = ap (λ (l : List Change). closed_by q first l + 0) (no_events i (ltb-false i n e))

  -- sum j of the effect in slot i
  effect_sum : (i j : ℕ) → i < most_effects → j < sums_of_effect → get_or (closed_to n done c) (state_sum i j) 0 ≡ cond (has s i) (sum_of j (states_at i (trace s))) 0
  effect_sum i j h l = closed_at tallied done n few_effects i j l ∙ go (eqb j trip_place) refl
    where
      below : (b : Bool) → ltb j trip_place ≡ b → (j ≡ trip_place → ⊥) → j < trip_place
      below true f d = ltb-true j trip_place f
      below false f d = absurd (d (omega (arith, ltb-false j trip_place f)))

      go : (b : Bool) → eqb j trip_place ≡ b
          → get_or c.sums (state_sum i j) 0 + open_part n done c i j ≡ cond (has s i) (cond b (tripped Tripped (states_at i (trace s))) (stood (state_for j) (states_at i (trace s)))) 0
      go true e = let z = eqb-true j trip_place e in (λ m. get_or c.sums (state_sum i (z m)) 0 + open_part n done c i (z m)) ∙ trips_are i h
      go false e =
          let z = code_for j (below (ltb j trip_place) refl (eqb-false j trip_place e)) in
          (λ m. get_or c.sums (state_sum i (sym z m)) 0 + open_part n done c i (sym z m)) ∙ stood_are i (state_for j) h

  -- where the open stretches are closed and the exercised scans put behind, the sums are those of the recording
  pub sums-are : (k : ℕ) → k < sum_count → get_or (set (closed_to n done c) exercised_sum exercised) k 0 ≡ sum_in s k
  sums-are k h = go (ltb k exercised_sum) refl
    where
      go : (b : Bool) → ltb k exercised_sum ≡ b
          → get_or (set (closed_to n done c) exercised_sum exercised) k 0
          ≡ cond b (cond (has s (k / sums_of_effect)) (sum_of (k % sums_of_effect) (states_at (k / sums_of_effect) (trace s))) 0) exercised
      go true e =
          let l = ltb-true k exercised_sum e in
          let w : k ≡ state_sum (k / sums_of_effect) (k % sums_of_effect) = omega arith in
          get_or-set_other (closed_to n done c) exercised_sum k exercised 0 (λ z. omega (arith, z, l))
          ∙ ap (λ (m : ℕ). get_or (closed_to n done c) m 0) w
          ∙ effect_sum (k / sums_of_effect) (k % sums_of_effect) (omega (arith, l)) (omega arith)
      go false e =
          let w : k ≡ exercised_sum = omega (arith, ltb-false k exercised_sum e, h) in
          ap (λ (m : ℕ). get_or (set (closed_to n done c) exercised_sum exercised) m 0) w
          ∙ get_or-set_same (closed_to n done c) exercised_sum exercised 0 (omega (arith, length-closed tallied done n))

  -- no sum passes the scans
  few_scans : done ≤ most_scans
  few_scans = right_state_few (reading s).settings (replay s).replay.state (the_state_is_right s ok)

  pub sums_few : (k : ℕ) → sum_in s k ≤ most_scans
  sums_few k = go (ltb k exercised_sum) (has s (k / sums_of_effect)) (eqb (k % sums_of_effect) trip_place)
    where
      ps : List EffectState
      ps = states_at (k / sums_of_effect) (trace s)

      go : (a b d : Bool) → cond a (cond b (cond d (tripped Tripped ps) (stood (state_for (k % sums_of_effect)) ps)) 0) exercised ≤ most_scans
      go true true true = omega (arith, no_more_trips_than_scans s ok (k / sums_of_effect), few_scans)
      go true true false = omega (arith, no_total_passes_the_scans s ok (k / sums_of_effect) (state_for (k % sums_of_effect)), few_scans)
      go true false d = omega arith
      go false b d = omega (arith, exercised_at_most_the_scans s ok, few_scans)

  -- ## As the code has them

  module _ (m scans x : ℕ) (effects : m ≡ n) (all : scans ≡ done) (put : x ≡ exercised) where
    pub closable : AllClosable m scans c
    closable =
        rw (effects, all) (all_closable tallied done (bounded s (replay s).replay (told_replay s ok) few_scans) few_scans n few_effects)

    pub joined_is : (sums : List ℕ) → sums ≡ closed_to m scans c → (r : Report) → length r.sums ≡ sum_count → joined r m (set sums exercised_sum x) ≡ joined_by r n (sum_in s)
    unfolding joined
    joined_is sums e r l =
        (λ j. joined_by r (effects j) (λ k. get_or (set ((e ∙ (λ i. closed_to (effects i) (all i) c)) j) exercised_sum (put j)) k 0))
        ∙ joined-alike r n (λ k. get_or (set (closed_to n done c) exercised_sum exercised) k 0) (sum_in s) l sums-are

-- ## The answer

-- a recording that is replayed whole
pub whole_added : (r : Report) (s : List ℕ) → place (reading s).answer ≡ 0 → (replay s).number ≡ 0 → joined_by r (reading s).settings.count (sum_in s) ≡ added_to r s
unfolding added_to season_number
whole_added r s p z = λ j. granted (or_else (sym z j) (unless (in_range (sum_in s) r.sums) 11)) (accepted r s) (λ k. refused_at r k (sym p j))

-- one that is not
pub refused_added : (r : Report) (s : List ℕ) (m p : ℕ) → (replay s).number ≡ m → (m ≡ 0 → ⊥) → place (reading s).answer ≡ p → refused_at r m p ≡ added_to r s
unfolding added_to season_number
refused_added r s m p e h f =
    sym (granted_refused (accepted r s) (λ k. refused_at r k p) m h)
    ∙ ap (λ (k : ℕ). granted k (accepted r s) (λ i. refused_at r i p)) (sym (granted_refused (unless (in_range (sum_in s) r.sums) 11) (λ k. k) m h))
    ∙ (λ j. granted (or_else (sym e j) (unless (in_range (sum_in s) r.sums) 11)) (accepted r s) (λ k. refused_at r k (sym f j)))
