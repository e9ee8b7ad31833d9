-- Season totals. Document 02, L1: over recordings, each from a fresh state, the scans after which each effect stood in each state, its
-- changes into Tripped, and the exercised scans, in 64-bit sums.
use Rattle.std.specs.Prelude.{ℕ, ◌/◌, ◌%◌, Bool, cond, List, [], ◌∷◌, eqb, ltb, get_or, replicate}
use Rattle.rules.specs.declared.EffectState.{EffectState}
use Rattle.rules.specs.declared.EffectState.TheVariants.{Tripped, WaitReset, Ready, WaitStart, Normal, Delayed}
use Rattle.settings.specs.Refusals.{unless, or_else, granted}
use Rattle.recording.specs.Answers.{place}
use Rattle.recording.specs.Reader.{reading}
use Rattle.rerun.specs.Replay.{replay}
use Rattle.trace.specs.Effect.{stood, tripped}
use Rattle.trace.specs.States.{states_at, trace}
use Rattle.tally.specs.Tally.{trip_place, sums_of_effect, exercised_sum, sum_count}
use Rattle.sums.specs.Sums.{in_range, summed}
use Rattle.season.specs.declared.Report.{Report}
use Rattle.season.specs.Answer.{Added}

-- an empty report
abbrev pub empty : Report
empty = record { sums = replicate sum_count 0 }

-- ## What a recording adds, by single scans

-- the effect in slot i, from 0, is one that the recording has
abbrev pub has : List ℕ → ℕ → Bool
has s i = ltb i (reading s).settings.count

-- the states in the order of their codes
abbrev pub states : List EffectState
states = Tripped ∷ WaitReset ∷ Ready ∷ WaitStart ∷ Normal ∷ Delayed ∷ []

-- sum j of an effect: the scans after which it stood in a state; the last is its changes into Tripped. A fresh state has every effect Tripped
abbrev pub sum_of : ℕ → List EffectState → ℕ
sum_of j ps = cond (eqb j trip_place) (tripped Tripped ps) (stood (get_or states j Tripped) ps)

-- sum k of a recording: those of each effect that it has, and the exercised scans behind them
abbrev pub sum_in : List ℕ → ℕ → ℕ
sum_in s k =
    cond (ltb k exercised_sum) (cond (has s (k / sums_of_effect)) (sum_of (k % sums_of_effect) (states_at (k / sums_of_effect) (trace s))) 0) (replay s).replay.exercised

-- ## The report after it

abbrev pub grown : Report → List ℕ → Report
grown r s = record { sums = summed (sum_in s) sum_count r.sums }

-- the reader's refusal number, or 9; then 11: a total would pass 64 bits
unfoldable pub season_number : Report → List ℕ → ℕ
season_number r s = or_else (replay s).number (unless (in_range (sum_in s) r.sums) 11)

-- the place is the reader's, and 0 for 9 and 11; on any refusal the report comes back unchanged, and the effect count is 0
abbrev pub refused : Report → List ℕ → ℕ → Added
refused r s n = record { number = n; place = place (reading s).answer; effects = 0; report = r }

-- beside the report stands the effect count of the recording
abbrev pub accepted : Report → List ℕ → Added
accepted r s = record { number = 0; place = 0; effects = (reading s).settings.count; report = grown r s }

unfoldable pub added_to : Report → List ℕ → Added
added_to r s = granted (season_number r s) (accepted r s) (refused r s)
