-- Events that are counted one after the other are the stretches of each effect.
use mathlib.Core.Path.{◌≡◌, refl, ap, ap₂, subst, sym, ◌∙◌}
use mathlib.Core.Bool.{Bool, true, false}
use mathlib.Core.List.{List, [], ◌∷◌, ◌++◌, append_assoc, append-nil}
use Prim.Native.Nat.{ℕ, ◌+◌, ◌*◌, ◌-◌, ◌≤◌, ◌<◌}
use native.Mathlib.Omega.{arith}
use borrow.Author.Tests.{eqb-true, eqb-false}
use lib.Dec.{eqb}
use lib.ListN.{length, get_or, set, length-set, get_or-replicate}
use lib.Seq.{get_or-set_same, get_or-set_other}
use Rattle.bits.specs.Words.{one}
use Rattle.rules.specs.declared.EffectState.{EffectState}
use Rattle.rules.specs.declared.EffectState.TheVariants.{Tripped, WaitReset, Ready, WaitStart, Normal, Delayed}
use Rattle.rules.specs.Limits.{most_effects, most_scans}
use Rattle.rules.specs.Rules.{code, most_code, same}
use Rattle.rules.proofs.States.{same_eq}
use Rattle.effects.specs.declared.Event.{Event}
use Rattle.effects.specs.Records.{Numbered}
use Rattle.trace.specs.Effect.{Change, change_of, only_if, own, Stretch, standing, stretch, closed_by, tripped_by}
use Rattle.trace.proofs.Changes.{own-append, stretch_append, closed_append, tripped_append}
use Rattle.tally.specs.Tally.{Count, none, sum_count, stretch_cells, exercised_sum, state_sum, trip_sum, since_of, code_in, slot_of, count_event, counted, Countable, AllCountable}

-- a state's code is at most 5
pub code_few : (q : EffectState) → code q ≤ most_code
code_few Tripped = omega arith
code_few WaitReset = omega arith
code_few Ready = omega arith
code_few WaitStart = omega arith
code_few Normal = omega arith
code_few Delayed = omega arith

-- ## Two places of a list that are stored

module _ (l : List ℕ) (j k v w : ℕ) where
  at_others : (i : ℕ) → (i ≡ j → ⊥) → (i ≡ k → ⊥) → get_or (set (set l j v) k w) i 0 ≡ get_or l i 0
  at_others i a b = get_or-set_other (set l j v) k i w 0 b ∙ get_or-set_other l j i v 0 a

  at_first : (j ≡ k → ⊥) → j < length l → get_or (set (set l j v) k w) j 0 ≡ v
  at_first a h = get_or-set_other (set l j v) k j w 0 a ∙ get_or-set_same l j v 0 h

  at_second : k < length l → get_or (set (set l j v) k w) k 0 ≡ w
  at_second h = get_or-set_same (set l j v) k w 0 (omega (arith, length-set l j v, h))

  long_still : length (set (set l j v) k w) ≡ length l
  long_still = length-set (set l j v) k w ∙ length-set l j v

-- ## The count is that of events

-- every effect stands in Tripped from the beginning
abbrev pub first : Stretch
first = standing 0 Tripped

-- the stretch of slot i that events leave open
abbrev pub open_after : ℕ → List Event → Stretch
open_after i es = stretch first (own (1 + i) es)

pub record Tallied (es : List Event) (t : Count) : Type 0 where
  pub sums_long : length t.sums ≡ sum_count
  pub stretches_long : length t.stretches ≡ stretch_cells
  pub stood : (i : ℕ) (q : EffectState) → i < most_effects → get_or t.sums (state_sum i (code q)) 0 ≡ closed_by q first (own (1 + i) es)
  pub trips : (i : ℕ) → i < most_effects → get_or t.sums (trip_sum i) 0 ≡ tripped_by (own (1 + i) es)
  pub exercised : get_or t.sums exercised_sum 0 ≡ 0
  pub since : (i : ℕ) → i < most_effects → since_of t i ≡ (open_after i es).since
  pub states : (i : ℕ) → i < most_effects → code_in t i ≡ code (open_after i es).state

pub tallied_none : Tallied [] none
tallied_none =
    record {
      sums_long = refl;
      stretches_long = refl;
      stood = λ i q h. get_or-replicate sum_count (state_sum i (code q)) 0 0 (omega (arith, code_few q));
      trips = λ i h. get_or-replicate sum_count (trip_sum i) 0 0 (omega arith);
      exercised = get_or-replicate sum_count exercised_sum 0 0 (omega arith);
      since = λ i h. get_or-replicate stretch_cells i 0 0 (omega arith);
      states = λ i h. get_or-replicate stretch_cells (most_effects + i) 0 0 (omega arith);
    }

-- ## One event more

module _ (e : Event) (es : List Event) (least : 1 ≤ e.effect) (most : e.effect ≤ most_effects) where
  -- it is one of an effect's own, or not
  own_more : (i : ℕ) (b : Bool) → eqb e.effect (1 + i) ≡ b → own (1 + i) (es ++ (e ∷ [])) ≡ own (1 + i) es ++ only_if b (change_of e)
  own_more i b h =
      own-append (1 + i) es (e ∷ [])
      ∙ ap (λ (l : List Change). own (1 + i) es ++ l) (append-nil (only_if (eqb e.effect (1 + i)) (change_of e)) ∙ ap (λ (c : Bool). only_if c (change_of e)) h)

  module _ (t : Count) (is : Tallied es t) where
    abbrev j : ℕ
    j = slot_of e

    abbrev now : Count
    now = count_event e t

    -- the sum that grows by the stretch
    abbrev k : ℕ
    k = state_sum j (code_in t j)

    in_slots : j < most_effects
    in_slots = omega arith

    few : code_in t j ≤ most_code
    few = omega (arith, is.states j in_slots, code_few (open_after j es).state)

    -- what holds of the sums and stretches of an effect
    abbrev Holds : ℕ → List Change → Type 0
    Holds i l =
        ((q : EffectState) → get_or now.sums (state_sum i (code q)) 0 ≡ closed_by q first l)
        × (get_or now.sums (trip_sum i) 0 ≡ tripped_by l)
        × (since_of now i ≡ (stretch first l).since)
        × (code_in now i ≡ code (stretch first l).state)

    -- another effect's are as they were
    other : (i : ℕ) → i < most_effects → (e.effect ≡ 1 + i → ⊥) → Holds i (own (1 + i) es)
    other i h d =
        let n : i ≡ j → ⊥ = λ q. d (omega (arith, q)) in (
          λ q. at_others t.sums k (trip_sum j) _ _ (state_sum i (code q)) (λ z. n (omega (arith, z, few, code_few q))) (λ z. n (omega (arith, z, code_few q))) ∙ is.stood i q h,
          at_others t.sums k (trip_sum j) _ _ (trip_sum i) (λ z. n (omega (arith, z, few))) (λ z. n (omega (arith, z))) ∙ is.trips i h,
          at_others t.stretches j (most_effects + j) _ _ i n (λ z. n (omega (arith, z))) ∙ is.since i h,
          at_others t.stretches j (most_effects + j) _ _ (most_effects + i) (λ z. n (omega (arith, z, in_slots))) (λ z. n (omega (arith, z))) ∙ is.states i h,
        )

    -- the state that its own effect stood in
    abbrev p : EffectState
    p = (open_after j es).state

    sum_is : k ≡ state_sum j (code p)
    sum_is = ap (state_sum j) (is.states j in_slots)

    length-is : e.scan - 1 - since_of t j ≡ e.scan - 1 - (open_after j es).since
    length-is = ap (λ (n : ℕ). e.scan - 1 - n) (is.since j in_slots)

    -- the sum of the state that it stood in grows by the stretch, and no other
    same_state : (q : EffectState) → same p q ≡ true → get_or now.sums (state_sum j (code q)) 0 ≡ closed_by q first (own (1 + j) es) + (e.scan - 1 - (open_after j es).since)
    same_state q h =
        let c : state_sum j (code q) ≡ k = ap (λ (r : EffectState). state_sum j (code r)) (sym (same_eq p q h)) ∙ sym sum_is in
        ap (λ (n : ℕ). get_or now.sums n 0) c
        ∙ at_first t.sums k (trip_sum j) _ _ (λ z. omega (arith, z, few)) (omega (arith, few, is.sums_long))
        ∙ ap₂ (λ (a b : ℕ). a + b) (ap (λ (n : ℕ). get_or t.sums n 0) (sym c) ∙ is.stood j q in_slots) length-is

    other_state : (q : EffectState) → same p q ≡ false → get_or now.sums (state_sum j (code q)) 0 ≡ closed_by q first (own (1 + j) es)
    other_state q h =
        at_others t.sums k (trip_sum j) _ _ (state_sum j (code q)) (λ z. eqb-false (code p) (code q) h (omega (arith, z, sum_is))) (λ z. omega (arith, z, code_few q))
        ∙ is.stood j q in_slots

    abbrev ch : Change
    ch = change_of e

    stood_more : (q : EffectState) → get_or now.sums (state_sum j (code q)) 0 ≡ closed_by q first (own (1 + j) es ++ (ch ∷ []))
    stood_more q = go (same p q) refl ∙ sym (closed_append q first (own (1 + j) es) (ch ∷ []))
      where
        go : (b : Bool) → same p q ≡ b → get_or now.sums (state_sum j (code q)) 0 ≡ closed_by q first (own (1 + j) es) + (one b * (e.scan - 1 - (open_after j es).since) + 0)
        go true h = same_state q h ∙ omega arith
        go false h = other_state q h ∙ omega arith

    trips_before : get_or (set t.sums k (get_or t.sums k 0 + (e.scan - 1 - since_of t j))) (trip_sum j) 0 ≡ tripped_by (own (1 + j) es)
    trips_before = get_or-set_other t.sums k (trip_sum j) _ 0 (λ z. omega (arith, z, few)) ∙ is.trips j in_slots

    mine : Holds j (own (1 + j) es ++ (ch ∷ []))
    mine = (
      stood_more,
      at_second t.sums k (trip_sum j) _ _ (omega (arith, in_slots, is.sums_long)) ∙ omega (arith, trips_before, tripped_append (own (1 + j) es) (ch ∷ [])),
      at_first t.stretches j (most_effects + j) _ _ (λ z. omega (arith, z)) (omega (arith, in_slots, is.stretches_long))
          ∙ ap (λ (x : Stretch). x.since) (sym (stretch_append first (own (1 + j) es) (ch ∷ []))),
      at_second t.stretches j (most_effects + j) _ _ (omega (arith, in_slots, is.stretches_long))
          ∙ ap (λ (x : Stretch). code x.state) (sym (stretch_append first (own (1 + j) es) (ch ∷ []))),
    )

    each : (i : ℕ) → i < most_effects → Holds i (own (1 + i) (es ++ (e ∷ [])))
    each i h = go (eqb e.effect (1 + i)) refl
      where
        go : (b : Bool) → eqb e.effect (1 + i) ≡ b → Holds i (own (1 + i) (es ++ (e ∷ [])))
        go true b =
            let m : j ≡ i = omega (arith, eqb-true e.effect (1 + i) b) in
            rw (own_more i true b) (subst (λ (n : ℕ). Holds n (own (1 + n) es ++ (ch ∷ []))) m mine)
        go false b = rw (own_more i false b, append-nil) (other i h (eqb-false e.effect (1 + i) b))

    pub tallied_more : Tallied (es ++ (e ∷ [])) (count_event e t)
    tallied_more =
        record {
          sums_long = long_still t.sums k (trip_sum j) _ _ ∙ is.sums_long;
          stretches_long = long_still t.stretches j (most_effects + j) _ _ ∙ is.stretches_long;
          stood = λ i q h. (each i h).0 q;
          trips = λ i h. (each i h).1;
          exercised = at_others t.sums k (trip_sum j) _ _ exercised_sum (λ z. omega (arith, z, few, in_slots)) (λ z. omega (arith, z, in_slots)) ∙ is.exercised;
          since = λ i h. (each i h).2;
          states = λ i h. (each i h).3;
        }

-- ## Many

pub tallied_all : (front es : List Event) (t : Count) → Tallied front t → Numbered most_effects es → Tallied (front ++ es) (counted es t)
tallied_all front [] t is n = rw (append-nil front) is
tallied_all front (e ∷ es) t is n =
    rw (append_assoc front (e ∷ []) es) at (tallied_all (front ++ (e ∷ [])) es (count_event e t) (tallied_more e front n.0 n.1 t is) n.2)

pub counted_append : (es fs : List Event) (t : Count) → counted (es ++ fs) t ≡ counted fs (counted es t)
counted_append [] fs t = refl
counted_append (e ∷ es) fs t = counted_append es fs (count_event e t)

-- no sum passes the scans of a recording
pub record Bounded (es : List Event) : Type 0 where
  pub stood : (i : ℕ) (q : EffectState) → closed_by q first (own (1 + i) es) ≤ most_scans
  pub trips : (i : ℕ) → tripped_by (own (1 + i) es) ≤ most_scans

-- nor do those of fewer events
bounded_front : (es fs : List Event) → Bounded (es ++ fs) → Bounded es
bounded_front es fs b =
    record {
      stood = λ i q. omega (arith, b.stood i q, ap (closed_by q first) (own-append (1 + i) es fs), closed_append q first (own (1 + i) es) (own (1 + i) fs));
      trips = λ i. omega (arith, b.trips i, ap tripped_by (own-append (1 + i) es fs), tripped_append (own (1 + i) es) (own (1 + i) fs));
    }

-- so they can be counted
module _ (front : List Event) (e : Event) (t : Count) (is : Tallied front t) (least : 1 ≤ e.effect) (most : e.effect ≤ most_effects) (b : Bounded (front ++ (e ∷ []))) where
  can_count : Countable e t
  can_count =
      let i = slot_of e in
      let h : i < most_effects = omega arith in
      let q = (open_after i front).state in
      let c : state_sum i (code_in t i) ≡ state_sum i (code q) = sum_is e front least most t is in
      let after = tallied_more e front least most t is in
      let grows : get_or (count_event e t).sums (state_sum i (code_in t i)) 0 ≡ closed_by q first (own (1 + i) (front ++ (e ∷ []))) =
      ap (λ (n : ℕ). get_or (count_event e t).sums n 0) c ∙ after.stood i q h
      in
      let same : get_or (count_event e t).sums (state_sum i (code_in t i)) 0 ≡ get_or t.sums (state_sum i (code_in t i)) 0 + (e.scan - 1 - since_of t i) =
      at_first t.sums (state_sum i (code_in t i)) (trip_sum i) _ _ (λ z. omega (arith, z, few e front least most t is)) (omega (arith, few e front least most t is, is.sums_long, h))
      in
      record {
        least = least;
        closable = record { slot_fits = h; code_fits = few e front least most t is; sum_fits = omega (arith, grows, same, b.stood i q) };
        trips_fit = omega (arith, is.trips i h, (bounded_front front (e ∷ []) b).trips i);
      }

pub all_countable : (front es : List Event) (t : Count) → Tallied front t → Numbered most_effects es → Bounded (front ++ es) → AllCountable es t
all_countable front [] t is n b = tt
all_countable front (e ∷ es) t is n b =
    let again : (front ++ (e ∷ [])) ++ es ≡ front ++ (e ∷ es) = append_assoc front (e ∷ []) es in
    let b' : Bounded ((front ++ (e ∷ [])) ++ es) = rw again b in (
      can_count front e t is n.0 n.1 (bounded_front (front ++ (e ∷ [])) es b'),
      all_countable (front ++ (e ∷ [])) es (count_event e t) (tallied_more e front n.0 n.1 t is) n.2 b',
    )
