-- A held run: rounds give what the scans give one by one, and the run has at most two events an effect.
-- The scans after the first are steps of one kind, so the generic theorem of Rounds applies: the skip is a law of the
-- lists of effects, and the rank is the moves left to them.
use mathlib.Core.Path.{◌≡◌, refl, ap, sym, ◌∙◌}
use mathlib.Core.List.{List, ◌++◌, map, append-nil, append_assoc}
use Prim.Native.Nat.{ℕ, zero, suc, ◌+◌, ◌-◌, ◌*◌, ◌≤◌, ◌<◌}
use native.Mathlib.Nat.{add-sub_of_le, add-zero, not-suc-le-zero}
use native.Mathlib.Numerals.{add-one, sub-one}
use native.Mathlib.Omega.{arith}
use lib.ListN.{length, length-append}
use Rattle.bits.specs.Words.{one}
use Rattle.rules.specs.declared.Slot.{Slot}
use Rattle.rules.specs.Signals.{Signals}
use Rattle.effects.specs.declared.Event.{Event}
use Rattle.effects.specs.Scan.{steps, events_from}
use Rattle.effects.proofs.Laws.{length-steps}
use Rattle.rounds.specs.Steps.{Run, start, scan, clear, held}
use Rattle.rounds.specs.Stroke.{quiets, advances, skip, by_rounds}
use Rattle.rounds.proofs.Rounds.{iterate, rounds, Skips, joined, rounds_are_steps}
use Rattle.rounds.proofs.Effects.{Timed, clear_clear, timed_clear, Settled, settled_steps, settled_clear, quiets_le, advances_none, steps_more, still, no_events, same_seq, wakes, ranks, ranks_clear, ranks_advances, events_fall, events_two, live_recorded}

-- the events of a run's next scan
abbrev pub due : List Signals → Run → List Event
due ss r = events_from r.next (r.scans_done + 1) 1 ss r.slots

-- ## What a held run keeps

-- a held run keeps the number of slots
pub length-slots : (ss : List Signals) (n : ℕ) (r : Run) → length (held ss n r).slots ≡ length r.slots
length-slots ss zero r = refl
length-slots ss (suc n) r = length-slots (map clear ss) n (scan ss r) ∙ length-steps ss r.slots

-- a held run only appends events: those of a run that starts at the same point and has no events yet
pub appends : (ss : List Signals) (n : ℕ) (r : Run)
    → (held ss n r).events ≡ r.events ++ (held ss n (start r.scans_done r.next r.slots)).events
appends ss zero r = sym (append-nil r.events)
appends ss (suc n) r =
    let s = scan ss r in
    let es = (held (map clear ss) n (start s.scans_done s.next s.slots)).events in
    appends (map clear ss) n s
    ∙ append_assoc r.events (due ss r) es
    ∙ ap (λ (l : List Event). r.events ++ l) (sym (appends (map clear ss) n (scan ss (start r.scans_done r.next r.slots))))

-- the number of events never falls in a held run
pub grows : (ss : List Signals) (n : ℕ) (r : Run) → length r.events ≤ length (held ss n r).events
grows ss n r =
    let es = (held ss n (start r.scans_done r.next r.slots)).events in
    omega (arith, ap length (appends ss n r), length-append r.events es)

-- ## The skip

-- runs of equal parts are equal
run_path : {d d' q q' l l' : ℕ} {xs xs' : List Slot} {es es' : List Event} → d ≡ d' → q ≡ q' → xs ≡ xs' → es ≡ es' → l ≡ l'
    → ◌≡◌ {A = Run} (record { scans_done = d; next = q; slots = xs; events = es; live = l }) (record { scans_done = d'; next = q'; slots = xs'; events = es'; live = l' })
run_path a b c d e = λ i. record { scans_done = a i; next = b i; slots = c i; events = d i; live = e i }

-- a skip of no scans changes nothing
skip-none : (cs : List Signals) (r : Run) → skip 0 cs r ≡ r
skip-none cs r = run_path (add-zero r.scans_done) refl (advances_none cs r.slots) refl refl

-- a scan that is not live gives no event, takes no sequence number, counts as no live scan, and advances the timers and
-- the scan number
skip_more : (n k : ℕ) (cs : List Signals) (r : Run) → Timed cs → Settled cs r.slots → k < quiets n cs r.slots
    → scan cs (skip k cs r) ≡ skip (suc k) cs r
skip_more n k cs r h g w =
    let e = still n k cs r.slots h w in
    run_path
    (omega arith)
    (same_seq r.next cs (advances k cs r.slots) e)
    (steps_more n k cs r.slots h g w)
    (ap (λ (l : List Event). r.events ++ l) (no_events r.next (r.scans_done + k + 1) 1 cs (advances k cs r.slots) e) ∙ append-nil r.events)
    (omega (arith, ap one e))

-- scans without reset are steps that can be skipped
skips : (ss : List Signals) → Timed (map clear ss)
    → Skips (scan (map clear ss)) (λ k r. skip k (map clear ss) r) (λ n r. quiets n (map clear ss) r.slots) (λ r. ranks ss r.slots) (λ r. Settled (map clear ss) r.slots)
skips ss h =
    let cs = map clear ss in
    record {
      none = λ r. skip-none cs r;
      more = λ n k r g w. skip_more n k cs r h g w;
      within = λ n r. quiets_le n cs r.slots;
      good = λ r. settled_steps cs r.slots;
      falls = λ n r g w.
          let k = quiets n cs r.slots in
          let xs = advances k cs r.slots in
          omega (arith, events_fall 0 0 0 ss xs, live_recorded 0 0 0 cs xs, ap one (wakes n cs r.slots h w), ranks_advances k ss cs r.slots);
    }

-- ## Rounds

-- scans without reset are one step, again and again
held_iterate : (n : ℕ) (ss : List Signals) (r : Run) → held (map clear ss) n r ≡ iterate (scan (map clear ss)) n r
held_iterate zero ss r = refl
held_iterate (suc n) ss r = rw clear_clear (held_iterate n ss (scan (map clear ss) r))

-- rounds without reset are the generic rounds
rounds_rounds : (f n : ℕ) (ss : List Signals) (r : Run)
    → by_rounds f (map clear ss) n r ≡ rounds (scan (map clear ss)) (λ k r. skip k (map clear ss) r) (λ n r. quiets n (map clear ss) r.slots) f n r
rounds_rounds zero n ss r = refl
rounds_rounds (suc f) zero ss r = refl
rounds_rounds (suc f) (suc n) ss r = rw clear_clear (rounds_rounds f _ ss _)

-- the slots after the first scan are settled, whatever the reset
settled_first : (ss : List Signals) (xs : List Slot) → Settled (map clear ss) (steps ss xs)
settled_first ss xs = settled_clear ss (steps ss xs) (settled_steps ss xs)

-- after the first scan at most two moves are left an effect
pub ranks_first : (ss : List Signals) (xs : List Slot) → ranks ss (steps ss xs) ≤ 2 * length ss
ranks_first ss xs = omega (arith, events_two 0 0 0 ss xs)

-- the central theorem: 2 n + 1 rounds, of n effects, give what the scans give one by one
pub one_stroke : (ss : List Signals) (n : ℕ) (r : Run) → Timed ss → by_rounds (2 * length ss + 1) ss n r ≡ held ss n r
one_stroke ss n r h = rw add-one (go n)
  where
    go : (n : ℕ) → by_rounds (suc (2 * length ss)) ss n r ≡ held ss n r
    go zero = refl
    go (suc n) =
        let cs = map clear ss in
        let y = scan ss r in
        rounds_rounds (2 * length ss) (n - quiets n cs y.slots) ss (skip (quiets n cs y.slots) cs y)
        ∙ rounds_are_steps (skips ss (timed_clear ss h)) (2 * length ss) n y (settled_first ss r.slots) (ranks_first ss r.slots)
        ∙ sym (held_iterate n ss y)

-- ## At most two events an effect, and no more live scans than events

-- without reset, the events and the moves left are together at most those before
due_falls : (n : ℕ) (ss : List Signals) (r : Run)
    → length (iterate (scan (map clear ss)) n r).events + ranks ss (iterate (scan (map clear ss)) n r).slots ≤ length r.events + ranks ss r.slots
due_falls zero ss r = omega arith
due_falls (suc n) ss r =
    omega (arith, due_falls n ss (scan (map clear ss) r), events_fall r.next (r.scans_done + 1) 1 ss r.slots, length-append r.events (due (map clear ss) r))

-- a held run gives at most two events an effect
pub due_at_most : (ss : List Signals) (n : ℕ) (r : Run) → length (held ss n r).events ≤ length r.events + 2 * length ss
due_at_most ss zero r = omega arith
due_at_most ss (suc n) r =
    rw (held_iterate n ss (scan ss r))
    (omega (arith, due_falls n ss (scan ss r), events_two r.next (r.scans_done + 1) 1 ss r.slots, length-append r.events (due ss r)))

-- each live scan gives an event
live_due : (ss : List Signals) (n : ℕ) (r : Run) → (held ss n r).live + length r.events ≤ r.live + length (held ss n r).events
live_due ss zero r = omega arith
live_due ss (suc n) r =
    omega (arith, live_due (map clear ss) n (scan ss r), live_recorded r.next (r.scans_done + 1) 1 ss r.slots, length-append r.events (due ss r))

-- the live scans of a held run are at most twice the effects
pub live_at_most : (ss : List Signals) (n : ℕ) (r : Run) → (held ss n r).live ≤ r.live + 2 * length ss
live_at_most ss n r = omega (arith, live_due ss n r, due_at_most ss n r)

-- ## One turn of the loop over rounds

module _ (ss : List Signals) (h : Timed ss) (r : Run) where
  -- how many scans the skip after the first takes
  abbrev kept : ℕ → ℕ
  kept n = quiets n (map clear ss) (steps ss r.slots)

  -- a scan and the skip after it leave the rest of the held run
  pub round_turn : (n : ℕ) → 0 < n → held (map clear ss) (n - 1 - kept (n - 1)) (skip (kept (n - 1)) (map clear ss) (scan ss r)) ≡ held ss n r
  round_turn zero w = absurd (not-suc-le-zero w)
  round_turn (suc n) w = rw sub-one
      (held_iterate (n - kept n) ss (skip (kept n) (map clear ss) (scan ss r))
      ∙ joined (skips ss (timed_clear ss h)) n (n - kept n) (scan ss r) (settled_first ss r.slots) (add-sub_of_le (quiets_le n (map clear ss) (steps ss r.slots)))
      ∙ sym (held_iterate n ss (scan ss r)))

  -- where scans are left, the next turn takes one of the moves that are left
  pub round_falls : (n : ℕ) → 0 < n - kept n
      → ranks (map clear ss) (steps (map clear ss) (advances (kept n) (map clear ss) (steps ss r.slots))) < ranks ss (steps ss r.slots)
  round_falls n w = rw ranks_clear ((skips ss (timed_clear ss h)).falls n (scan ss r) (settled_first ss r.slots) (omega arith))
