-- A report over many recordings, one after the other.
use Rattle.std.specs.Prelude.{ℕ, ◌+◌, cond, List, [], ◌∷◌, get_or}
use Rattle.settings.specs.Refusals.{granted}
use Rattle.recording.specs.Steps.{rows_of}
use Rattle.rerun.specs.Replay.{sum_of_holds}
use Rattle.season.specs.declared.Report.{Report}
use Rattle.tally.specs.Tally.{state_sum}
use Rattle.season.specs.Season.{has, added_to}

-- each is added or refused
abbrev pub over_all : Report → List (List ℕ) → Report
over_all r [] = r
over_all r (s ∷ ss) = over_all (added_to r s).report ss

-- the six sums of slot i
abbrev pub six_of : Report → ℕ → ℕ
six_of r i =
    get_or r.sums (state_sum i 0) 0 + get_or r.sums (state_sum i 1) 0 + get_or r.sums (state_sum i 2) 0 + get_or r.sums (state_sum i 3) 0
    + get_or r.sums (state_sum i 4) 0 + get_or r.sums (state_sum i 5) 0

-- the holds of the recordings that were added and have its effect
abbrev pub holds_of : Report → ℕ → List (List ℕ) → ℕ
holds_of r i [] = 0
holds_of r i (s ∷ ss) =
    granted (added_to r s).number (cond (has s i) (sum_of_holds (rows_of s)) 0) (λ n. 0) + holds_of (added_to r s).report i ss
