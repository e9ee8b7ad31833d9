-- The reasons after the last scan are those of effects that stand as the last row leaves them.
use mathlib.Core.Path.{◌≡◌, ap, sym, ◌∙◌}
use mathlib.Core.List.{List}
use Prim.Native.Nat.{ℕ, suc, ◌+◌, ◌-◌, ◌<◌}
use native.Mathlib.Omega.{arith}
use lib.ListN.{get_or}
use Rattle.bits.specs.Lists.{tabulate}
use Rattle.bits.proofs.Lists.{tabulate_ext}
use Rattle.rules.specs.declared.Slot.{Slot}
use Rattle.rules.specs.Limits.{most_scans}
use Rattle.rules.specs.Rules.{no_slot}
use Rattle.settings.specs.declared.Settings.{Settings}
use Rattle.settings.specs.declared.Row.{Row}
use Rattle.settings.specs.Right.{known_of}
use Rattle.settings.specs.Signals.{no_effect}
use Rattle.settings.proofs.Refusals.{limit_kept}
use Rattle.settings.proofs.Right.{hold_some}
use Rattle.block.specs.declared.State.{State}
use Rattle.recording.specs.Answers.{row_count_of}
use Rattle.recording.specs.Reader.{reading}
use Rattle.recording.specs.Accepted.{Accepted}
use Rattle.rerun.specs.Replay.{Outcome, replay, first_rows, row_of, row_run}
use Rattle.rerun.proofs.Files.{never_refused, all_the_rows, number_at, next-number, next_runs, settings_right, most-effects, row_right, sound, done_next}
use Rattle.trace.specs.Effect.{own, told}
use Rattle.trace.specs.States.{state_at}
use Rattle.reasons.specs.Given.{signs_in}
use Rattle.reasons.specs.Reasons.{reason_by}
use Rattle.reasons.proofs.Given.{signs_of_an_effect}
use Rattle.reasoned.specs.Reasoned.{row_reasons, reasons_now}
use Rattle.reasoned.proofs.Theorems.{a_run_tells_its_last_reasons}
use Rattle.standing.specs.declared.Standing.{Standing}
use Rattle.standing.specs.Stands.{last_row, Stands, reason_now}
use Rattle.standing.proofs.Last.{some-row}

module _ {s : List ℕ} {x : Standing} (a : Accepted s) (all : (replay s).number ≡ 0) (is : Stands s x) where
  abbrev st : Settings
  st = (reading s).settings

  abbrev i : ℕ
  i = last_row s

  abbrev row : Row
  row = row_of s i

  abbrev at : State
  at = (first_rows s i).replay.state

  in-file : i < row_count_of (reading s).answer
  in-file = omega (arith, some-row s a)

  runs : number_at s i ≡ 0
  runs = sym (next-number s i in-file (never_refused s a all i)) ∙ never_refused s a all (i + 1)

  -- the state after the last row is that of the replay
  state-is : (replay s).replay.state ≡ (row_run s i).state
  state-is =
      let last : row_count_of (reading s).answer ≡ i + 1 = omega (arith, some-row s a) in
      ap (λ (o : Outcome). o.replay.state) (all_the_rows s a ∙ ap (first_rows s) last ∙ next_runs s i in-file (never_refused s a all i) runs)

  hold_is : row.hold ≡ suc (row.hold - 1)
  hold_is = omega (arith, hold_some (known_of st) row (row_right s a i in-file))

  scan-is : at.scans_done + (row.hold - 1) ≡ (replay s).replay.state.scans_done - 1
  scan-is = omega (arith, ap (λ (y : State). y.scans_done) state-is, done_next s a i in-file runs, hold_is)

  pub the_reasons_now : reasons_now s ≡ tabulate (reason_now st x) st.count
  unfolding reasons_now row_reasons row_run
  the_reasons_now =
      a_run_tells_its_last_reasons st row at (settings_right s a) (sound s a i).state (row_right s a i in-file)
      (limit_kept (at.scans_done + row.hold) most_scans 8 runs) (omega (arith, most-effects s a, (sound s a i).slots)) (row.hold - 1) hold_is
      ∙ tabulate_ext _ (reason_now st x) st.count
      (λ k h.
      let signs = sym (signs_of_an_effect st row.words k) ∙ ap (λ v. signs_in v (get_or st.effects k no_effect).association k) (sym is.sight_is) in
      let before = ap (λ (n : ℕ). told n (own (1 + k) (row_run s i).events) (state_at k at)) scan-is ∙ sym (is.from_is k h) in
      let after : get_or (row_run s i).state.slots k no_slot ≡ get_or x.to k no_slot = ap (λ (l : List Slot). get_or l k no_slot) (sym (is.to_is ∙ ap (λ (y : State). y.slots) state-is)) in
      λ j. reason_by (signs j) (before j) (after j).state (after j).timer)
