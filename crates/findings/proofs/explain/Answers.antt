-- `findings::explain` meets its contract: where the reader refuses, the replay has its refusal number and place, too.
use mathlib.Core.Path.{◌≡◌, refl, sym, ap, ◌∙◌}
use Rattle.std.proofs.Common.{Result, Ok, Err}
use Rattle.std.specs.Result.{result_err}
use Rattle.settings.specs.declared.numbers.Refused.{Refused}
use Rattle.recording.specs.Answers.{row_count_of}
use Rattle.recording.proofs.Opened.{answer_is, refusal_is}
use Rattle.rerun.specs.Answer.{Stop, as_stop}
use Rattle.rerun.specs.Replay.{replay}
use Rattle.rerun.proofs.Files.{refused_replay}
use Rattle.findings.specs.Answer.{number_at, place_at}
use Rattle.findings.specs.Findings.{explanation, explained}
use Rattle.findings.proofs.explain.Goals as goal

-- where the rows stop, as an answer that may have none
number_there : (r : Result (Unit {0}) Refused) → number_at (result_err r) ≡ (as_stop r).number
number_there (Ok none) = refl
number_there (Err e) = refl

place_there : (r : Result (Unit {0}) Refused) → place_at (result_err r) ≡ (as_stop r).place
place_there (Ok none) = refl
place_there (Err e) = refl

pub returns-in-Ok : goal.returns-in-Ok
unfolding explained
returns-in-Ok c =
    let s = c.args.s.now in
    let stop = c.check_holds.ensures in
    let number : number_at c.err.result ≡ (replay s).number = ap number_at c.err.ensures.value ∙ number_there c.check_holds.result ∙ ap (λ (x : Stop). x.number) stop in
    let place : place_at c.err.result ≡ (replay s).place = ap place_at c.err.ensures.value ∙ place_there c.check_holds.result ∙ ap (λ (x : Stop). x.place) stop in
    c.explained_at.ensures ∙ (λ j. explanation s (number j) (place j) (sym (ap row_count_of (answer_is _ c.in-Ok.file c.in-Ok.ensures)) j))

pub returns-in-Err : goal.returns-in-Err
unfolding explained
returns-in-Err c =
    let s = c.args.s.now in
    let is = refusal_is _ _ c.in-Err.ensures in
    let run = sym (refused_replay s _ _ is) in
    c.explained_at-in-Err.ensures ∙ (λ j. explanation s (run j).number (run j).place (sym (ap row_count_of is) j))

pub check_holds-requires : goal.check_holds-requires
check_holds-requires c = answer_is _ c.in-Ok.file c.in-Ok.ensures
