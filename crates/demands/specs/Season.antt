-- Season totals: what a recording adds to a report, and its refusals, in order. Document 02, L1. A report has 113 sums of 64 bits: seven for
-- each of sixteen effects, and the exercised scans behind them; limits are written out.
use Rattle.std.specs.Prelude.{◌≡◌, List, ℕ, ◌+◌, ◌*◌, ◌≤◌, ◌<◌, length, get_or}
use Rattle.std.proofs.lemmas.List.Edits.{sets}
use Rattle.rules.specs.declared.EffectState.{EffectState}
use Rattle.rules.specs.declared.EffectState.TheVariants.{Tripped}
use Rattle.rules.specs.Rules.{code}
use Rattle.recording.specs.Answers.{number, place}
use Rattle.recording.specs.Reader.{reading}
use Rattle.recording.specs.Steps.{rows_of}
use Rattle.recording.specs.Refused.{Refused}
use Rattle.recording.specs.Accepted.{Accepted}
use Rattle.rerun.specs.Replay.{replay, sum_of_holds}
use Rattle.trace.specs.Effect.{stood, tripped}
use Rattle.trace.specs.States.{states_at, trace}
use Rattle.season.specs.declared.Report.{Report}
use Rattle.season.specs.Answer.{Added}
use Rattle.season.specs.Season.{sum_in, added_to}
use Rattle.season_bytes.specs.Bytes.{report_of, report_bytes}

-- What a recording adds to each sum (`sum_in`), by the states after each single scan from a fresh state (`trace`); effects count from 0 here
pub record CountsSingleScans (s : List ℕ) : Type 0 where
  -- of each effect that it has: the scans after which it stood in each state, and its changes into Tripped
  pub stood_in : (i : ℕ) → i < 16 → i < (reading s).settings.count → (q : EffectState) → sum_in s (7 * i + code q) ≡ stood q (states_at i (trace s))
  pub trips : (i : ℕ) → i < 16 → i < (reading s).settings.count → sum_in s (7 * i + 6) ≡ tripped Tripped (states_at i (trace s))
  -- of an effect that it has not got: nothing
  pub slots_past : (i j : ℕ) → i < 16 → j < 7 → (reading s).settings.count ≤ i → sum_in s (7 * i + j) ≡ 0
  -- for all, the exercised scans
  pub exercised : sum_in s 112 ≡ (replay s).replay.exercised

-- One recording more (`Report::add`): it is refused by the reader's refusal number, then by 9 for its whole length, and then by 11, exactly
-- if a sum would pass 64 bits. r is the report before, and a is the answer
pub record AddsInOrder (r : Report) (s : List ℕ) (a : Added) : Type 0 where
  pub the_readers : (Accepted s → ⊥) → let x = (reading s).answer in (a.number ≡ number x) × (a.place ≡ place x) × Refused s (number x) (place x)
  pub nine : Accepted s → 1000000000 < sum_of_holds (rows_of s) → (a.number ≡ 9) × (a.place ≡ 0)
  pub eleven : Accepted s → sum_of_holds (rows_of s) ≤ 1000000000 → (k : ℕ) → k < 113 → 18446744073709551615 < get_or r.sums k 0 + sum_in s k
      → (a.number ≡ 11) × (a.place ≡ 0)
  pub added : Accepted s → sum_of_holds (rows_of s) ≤ 1000000000 → ((k : ℕ) → k < 113 → get_or r.sums k 0 + sum_in s k ≤ 18446744073709551615)
      → (a.number ≡ 0) × (a.place ≡ 0)
  -- on any refusal the report comes back unchanged, and no effects are told
  pub unchanged : (a.number ≡ 0 → ⊥) → (a.report ≡ r) × (a.effects ≡ 0)
  -- else each sum has grown by what the recording adds, and its effects are told
  pub grown : a.number ≡ 0
      → (a.effects ≡ (reading s).settings.count) × (length a.report.sums ≡ 113) × ((k : ℕ) → k < 113 → get_or a.report.sums k 0 ≡ get_or r.sums k 0 + sum_in s k)

-- The same of a report in lent bytes (`pohandira_season`): 10, room below its 904 bytes, is given after 9 and before 11. n is the refusal
-- number, and `after` the bytes after the call
pub record SeasonInOrder (s bytes : List ℕ) (n : ℕ) (after : List ℕ) : Type 0 where
  pub the_readers : (Accepted s → ⊥) → n ≡ number (reading s).answer
  pub nine : Accepted s → 1000000000 < sum_of_holds (rows_of s) → n ≡ 9
  pub ten : Accepted s → sum_of_holds (rows_of s) ≤ 1000000000 → length bytes < 904 → n ≡ 10
  pub as_added : 904 ≤ length bytes → n ≡ (added_to (report_of bytes) s).number
  -- a refusal touches no byte; else the report after the recording stands in front, and the bytes past it stay
  pub untouched : (n ≡ 0 → ⊥) → after ≡ bytes
  pub in_place : n ≡ 0 → after ≡ sets bytes 0 (report_bytes (added_to (report_of bytes) s).report)
  -- a report that was written so is read back
  pub read_back : n ≡ 0 → report_of after ≡ (added_to (report_of bytes) s).report
