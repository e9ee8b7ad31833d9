-- Single scans of a valid state are all accepted, and they give what the run over lists of signals and slots gives.
use mathlib.Core.Path.{◌≡◌, refl, ap, ap₂, sym, ◌∙◌}
use mathlib.Core.List.{List}
use Prim.Native.Nat.{ℕ, zero, suc, ◌+◌, ◌*◌, ◌≤◌}
use native.Mathlib.Nat.{zero-add, suc-add, suc-mul}
use native.Mathlib.Omega.{arith}
use borrow.Author.Tests.{le-leb}
use lib.ListN.{length}
use Rattle.bits.specs.Words.{one}
use Rattle.rules.specs.Signals.{Signals}
use Rattle.effects.specs.Scan.{effect_word, latent_word, any_exercised}
use Rattle.rounds.specs.Steps.{Run, scan, held}
use Rattle.settings.specs.declared.Settings.{Settings}
use Rattle.settings.specs.declared.Words.{Words}
use Rattle.rules.specs.Limits.{most_scans}
use Rattle.settings.specs.Right.{known_of, settings_number, words_number}
use Rattle.settings.specs.Signals.{signals}
use Rattle.settings.proofs.Answers.{granted_in_room}
use Rattle.block.specs.declared.State.{State}
use Rattle.block.specs.Answer.{Scanned}
use Rattle.block.specs.State.{state_number}
use Rattle.block.specs.Scan.{input_number, once, after, events, scan_number, granted_scan, refused_scan, scan_of}
use Rattle.block.specs.Held.{later, words_at, Stepped, single, step, stepped}
use Rattle.block.specs.Run.{run_of}
use Rattle.block.proofs.Later.{later-right, once_right, signals_later, latent_clear, exercised_clear}
use Rattle.block.proofs.RightStates.{scan_keeps_right}

-- all scans after the first have the same words
pub later_again : (k : ℕ) (w : Words) → words_at k (later w) ≡ later w
later_again zero w = refl
later_again (suc k) w = refl

-- ## Each single scan is accepted

module _ (st : Settings) (right : settings_number st ≡ 0) where
  input_accepted : (w : Words) (x : State) → words_number (known_of st) w ≡ 0 → state_number st x ≡ 0 → x.scans_done + 1 ≤ most_scans → input_number st x (once w) ≡ 0
  unfolding input_number
  input_accepted w x ok state h = rw (right, state, once_right (known_of st) w ok, le-leb (x.scans_done + 1) most_scans h)

  -- a scan of a valid state and valid words, with room, is accepted
  pub scan_accepted : (w : Words) (x : State) (room : ℕ) → words_number (known_of st) w ≡ 0 → state_number st x ≡ 0 → x.scans_done + 1 ≤ most_scans → 12 * length (events st w x) ≤ room
      → scan_of st w x room ≡ granted_scan st w x
  unfolding scan_of scan_number
  scan_accepted w x room ok state h fits =
      sym (granted_in_room (input_number st x (once w)) (12 * length (events st w x)) room 0 (sym (input_accepted w x ok state h)) (granted_scan st w x) (refused_scan x) refl fits)

  -- n more scans of these words can follow at this state
  pub record Ready (w : Words) (n : ℕ) (x : State) : Type 0 where
    pub words : words_number (known_of st) w ≡ 0
    pub state : state_number st x ≡ 0
    pub scans : x.scans_done + n ≤ most_scans

  module _ (w : Words) (n : ℕ) (x : State) (ready : Ready w (suc n) x) where
    pub single_accepted : single st w x ≡ granted_scan st w x
    single_accepted = scan_accepted w x (12 * length (events st w x)) ready.words ready.state (omega (arith, ready.scans)) (omega arith)

    pub ready-after : Ready (later w) n (single st w x).state
    unfolding after
    ready-after =
        rw single_accepted
        (record {
          words = later-right (known_of st) w ready.words;
          state = scan_keeps_right st w x right ready.state (omega (arith, ready.scans));
          scans = omega (arith, ready.scans);
        })

  -- after k scans, n more can follow
  pub ready_at : (k n : ℕ) (w : Words) (r : Stepped) → Ready w (k + n) r.state → Ready (words_at k w) n (stepped st w k r).state
  ready_at zero n w r ready = rw zero-add at ready
  ready_at (suc k) n w r ready =
      let next : Ready w (suc (k + n)) r.state = rw suc-add at ready in
      rw (later_again k w) at (ready_at k n (later w) (step st w r) (ready-after w (k + n) r.state next))

  -- ## What single scans give

  step_runs : (w : Words) (n : ℕ) (r : Stepped) → Ready w (suc n) r.state → run_of (step st w r) ≡ scan (signals st w) (run_of r)
  unfolding after events
  step_runs w n r ready = rw (single_accepted w n r.state ready)

  -- single scans give the state, the events and the live scans of the run over lists
  pub stepped_runs : (n : ℕ) (w : Words) (r : Stepped) → Ready w n r.state → run_of (stepped st w n r) ≡ held (signals st w) n (run_of r)
  stepped_runs zero w r ready = refl
  stepped_runs (suc n) w r ready =
      stepped_runs n (later w) (step st w r) (ready-after w n r.state ready)
      ∙ ap₂ (λ (ss : List Signals) (q : Run). held ss n q) (signals_later st w) (step_runs w n r ready)

  -- single scans give the words of the last scan
  pub stepped_effect : (n : ℕ) (w : Words) (r : Stepped) → Ready w (suc n) r.state
      → (stepped st w (suc n) r).effect ≡ effect_word st.count (stepped st w (suc n) r).state.slots
  stepped_effect zero w r ready = rw (single_accepted w zero r.state ready)
  stepped_effect (suc n) w r ready = stepped_effect n (later w) (step st w r) (ready-after w (suc n) r.state ready)

  pub stepped_latent : (n : ℕ) (w : Words) (r : Stepped) → Ready w (suc n) r.state → (stepped st w (suc n) r).latent ≡ latent_word (signals st w)
  stepped_latent zero w r ready = rw (single_accepted w zero r.state ready)
  stepped_latent (suc n) w r ready =
      stepped_latent n (later w) (step st w r) (ready-after w (suc n) r.state ready) ∙ rw (signals_later st w) (latent_clear (signals st w))

  -- n single scans add n to the scans done
  pub stepped_done : (n : ℕ) (w : Words) (r : Stepped) → Ready w n r.state → (stepped st w n r).state.scans_done ≡ r.state.scans_done + n
  unfolding after
  stepped_done zero w r ready = omega arith
  stepped_done (suc n) w r ready =
      let one_more : (step st w r).state.scans_done ≡ r.state.scans_done + 1 = ap (λ (a : Scanned). a.state.scans_done) (single_accepted w n r.state ready) in
      omega (arith, stepped_done n (later w) (step st w r) (ready-after w n r.state ready), one_more)

-- the exercised scans are all of the hold, or none
pub stepped_exercised : (st : Settings) (n : ℕ) (w : Words) (r : Stepped) → (stepped st w n r).exercised ≡ r.exercised + n * one (any_exercised (signals st w))
stepped_exercised st zero w r = omega arith
stepped_exercised st (suc n) w r =
    let e : one (any_exercised (signals st (later w))) ≡ one (any_exercised (signals st w)) = ap one (ap any_exercised (signals_later st w) ∙ exercised_clear (signals st w)) in
    let b = one (any_exercised (signals st w)) in
    stepped_exercised st n (later w) (step st w r) ∙ rw (e, suc-mul n b) (omega arith)
