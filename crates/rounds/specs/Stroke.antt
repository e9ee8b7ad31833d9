-- One stroke by rounds. Document 01, "Held runs and their two counts". A promise cites `by_rounds` (`rounds_suffice`,
-- block/proofs/Theorems); no contract does.
use Rattle.std.specs.Prelude.{ℕ, zero, suc, ◌+◌, ◌-◌, ◌*◌, ◌/◌, min, cond, List, [], ◌∷◌, map}
use Rattle.rules.specs.declared.EffectState.TheVariants.{Delayed}
use Rattle.rules.specs.Signals.{Signals}
use Rattle.rules.specs.declared.Slot.{Slot}
use Rattle.rules.specs.Rules.{same, moved}
use Rattle.rounds.specs.Steps.{Run, scan, clear}

-- ## One effect

-- how many of the next n scans, all with these signals, leave the state as it is
abbrev pub quiet : ℕ → Signals → Slot → ℕ
quiet n s x = cond (moved s x) 0 (cond (same x.state Delayed) (min n ((x.timer - 1) / s.period)) n)

-- the effect after k scans with these signals that leave its state as it is
abbrev pub advance : ℕ → Signals → Slot → Slot
advance k s x = record { state = x.state; timer = x.timer - k * s.period; first_out = x.first_out }

-- ## All effects

-- how many of the next n scans, all with these signals, are not live
abbrev pub quiets : ℕ → List Signals → List Slot → ℕ
quiets n [] xs = n
quiets n (s ∷ ss) [] = n
quiets n (s ∷ ss) (x ∷ xs) = quiets (quiet n s x) ss xs

-- the slots after k scans with these signals that are not live
abbrev pub advances : ℕ → List Signals → List Slot → List Slot
advances k [] xs = xs
advances k (s ∷ ss) [] = []
advances k (s ∷ ss) (x ∷ xs) = advance k s x ∷ advances k ss xs

-- ## A run

-- the run after k scans that are not live: they give no event
abbrev pub skip : ℕ → List Signals → Run → Run
skip k ss r =
    record {
      scans_done = r.scans_done + k;
      next = r.next;
      slots = advances k ss r.slots;
      events = r.events;
      live = r.live;
    }

-- at most f rounds: one scan by the rules, and then all scans before the next live one or the end
abbrev pub by_rounds : ℕ → List Signals → ℕ → Run → Run
by_rounds zero ss n r = r
by_rounds (suc f) ss zero r = r
by_rounds (suc f) ss (suc n) r =
    let cs = map clear ss in
    let y = scan ss r in
    let k = quiets n cs y.slots in
    by_rounds f cs (n - k) (skip k cs y)
