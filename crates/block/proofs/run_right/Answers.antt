-- `block::run_right` meets its contract: the stroke is the run of single scans from the state, and its records are those of the definitions.
use mathlib.Core.Path.{◌≡◌, refl, ap, ◌∙◌}
use borrow.Author.Rules.{rules}
use lib.ListN.{length}
use lib.Seq.{sets}
use Rattle.bits.proofs.Lists.{length_mapped}
use Rattle.effects.specs.Records.{bytes}
use Rattle.wiring.proofs.Held.{few as few_planned}
use Rattle.block.specs.declared.State.{State}
use Rattle.block.specs.Held.{run, granted_held}
use Rattle.block.proofs.Answers.{few}
use Rattle.block.proofs.Loads.{shows_state, runs_loaded}
use Rattle.block.proofs.Runs.{strokes, laid, narrow_after, answers}
use Rattle.block.proofs.run_right.Goals as goal

pub load-from-requires : goal.load-from-requires
load-from-requires c = (few c.args.st c.args.row c.args.x _ refl c.requires.0, refl)

pub plan_of-plan-requires : goal.plan_of-plan-requires
plan_of-plan-requires c = few c.args.st c.args.row c.args.x _ refl c.requires.0

pub stroke-r-requires : goal.stroke-r-requires
stroke-r-requires c =
    let a = c.args in
    let sixteen : length a.x.slots ≡ 16 = search (rules, length_mapped) in
    record { st = a.st; runs = strokes (runs_loaded c.load-from.ensures a.row c.requires.0 sixteen c.plan_of-plan.ensures c.requires.1) }

pub reached-requires : goal.reached-requires
reached-requires c =
    let a = c.args in
    let sixteen : length a.x.slots ≡ 16 = search (rules, length_mapped) in
    let runs = runs_loaded c.load-from.ensures a.row c.requires.0 sixteen c.plan_of-plan.ensures c.requires.1 in
    (few_planned (strokes runs), narrow_after runs (c.stroke-r.ensures _ (strokes runs)))

pub returns : goal.returns
returns c =
    let a = c.args in
    let sixteen : length a.x.slots ≡ 16 = search (rules, length_mapped) in
    let runs = runs_loaded c.load-from.ensures a.row c.requires.0 sixteen c.plan_of-plan.ensures c.requires.1 in
    let ran = c.stroke-r.ensures _ (strokes runs) in
    let same = shows_state c.load-from.ensures a.row c.requires.0 sixteen in
    record {
      value = answers runs ran _ _ c.reached.ensures c.exercised_scans.ensures ∙ ap (granted_held a.st a.row) same;
      buf_after = laid runs ran ∙ ap (λ (x : State). sets a.buf.now 0 (bytes (run a.st a.row x).events)) same;
    }
