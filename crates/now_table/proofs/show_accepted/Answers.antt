-- `now_table::show_accepted` meets its contract: 9 has the line of its refusal, and else all rows run.
use mathlib.Core.Path.{◌≡◌, sym, ap, ◌∙◌}
use mathlib.Core.List.{List}
use Prim.Native.Nat.{ℕ}
use native.Mathlib.Omega.{arith}
use lib.ListN.{length}
use lib.Seq.{sets}
use Rattle.settings.proofs.Refusals.{number_some}
use Rattle.recording.specs.Accepted.{Accepted}
use Rattle.recording.proofs.Opened.{answer_is, settings_are}
use Rattle.rerun.specs.Answer.{Stop}
use Rattle.rerun.proofs.Turns.{few_effects}
use Rattle.recording.specs.Answers.{number}
use Rattle.settings.specs.declared.Settings.{Settings}
use Rattle.now_table.specs.Lines.{standing_table}
use Rattle.now_table.proofs.Texts.{narrow, shows_table, shows_refusal}
use Rattle.now_table.proofs.show_accepted.Goals as goal

-- 9
pub returns-in-Err : goal.returns-in-Err
returns-in-Err c =
    let number = ap (λ (r : Stop). r.number) c.in-Err.ensures in
    let place = ap (λ (r : Stop). r.place) c.in-Err.ensures in
    shows_refusal _ _ (sym number) (sym place) (number_some c.in-Err.refused.refusal) c.refuse.ensures.number_value c.refuse.ensures.out_after

pub at_end-x-requires : goal.at_end-x-requires
at_end-x-requires c = (c.requires.0, sym (ap (λ (r : Stop). r.number) c.in_default.ensures))

pub put_table-requires : goal.put_table-requires
put_table-requires c =
    let p = c.requires in
    -- all rows run
    let runs = sym (ap (λ (r : Stop). r.number) c.in_default.ensures) in
    let is = answer_is _ c.args.file p.0 in
    let accepted : Accepted c.args.s.now = ap number is in
    (few_effects _ _ _ _ _ is (settings_are _ c.args.file p.0), narrow accepted runs c.at_end-x.ensures, omega (arith, p.1))

pub returns : goal.returns
returns c =
    let p = c.requires in
    -- all rows run
    let runs = sym (ap (λ (r : Stop). r.number) c.in_default.ensures) in
    let accepted : Accepted c.args.s.now = ap number (answer_is _ c.args.file p.0) in
    let a = c.args in
    let table : (st : Settings) → List ℕ = λ st. standing_table st c.at_end-x.result in
    let put : (c.put_table.result ≡ length (table a.file.settings)) × (c.put_table.new.out ≡ sets a.out.now 0 (table a.file.settings)) = c.put_table.ensures.value in
    let same = ap table (settings_are _ c.args.file p.0) in
    shows_table accepted runs c.at_end-x.ensures (put.0 ∙ ap length same, put.1 ∙ ap (sets a.out.now 0) same) c.put_table.ensures.upper_bound

pub check_holds-requires : goal.check_holds-requires
check_holds-requires c = answer_is _ c.args.file c.requires.0
