-- The next row of a run, and what is read of it for each effect where the association words stand in an array.
use mathlib.Core.Path.{◌≡◌, refl, ap, sym, ◌∙◌}
use mathlib.Core.List.{List}
use Prim.Native.Nat.{ℕ, ◌-◌, ◌≤◌, ◌<◌}
use native.Mathlib.Omega.{arith}
use lib.ListN.{get_or}
use Rattle.bits.proofs.Lists.{get_or-tabulate}
use Rattle.cells.proofs.Filled.{get_or_association}
use Rattle.cells.specs.declared.Plan.{Plan}
use Rattle.settings.specs.declared.Settings.{Settings}
use Rattle.settings.specs.declared.Words.{Words}
use Rattle.plans.specs.Plans.{association_at, Wired, plan_of}
use Rattle.recording.specs.Answers.{row_count_of}
use Rattle.recording.specs.Reader.{reading}
use Rattle.rerun.specs.declared.Run.{Run}
use Rattle.rerun.specs.Turn.{Going}
use Rattle.rerun.proofs.Turns.{row_there, row_read}
use Rattle.reasons.specs.Given.{sight_of, signs_in}
use Rattle.reasons.proofs.Given.{signs_of_an_effect}
use Rattle.reasoned.specs.Told.{NextRow, signs_for}

pub next_row : {s : List ℕ} {run : Run} {array : List ℕ} → Going s run array → run.rows < row_count_of (reading s).answer → NextRow s run
unfolding plan_of
next_row g more =
    let there = row_there g more in
    record { wide = there.0; within = there.1; is = row_read g more _ refl; options_are = ap (λ (p : Plan). p.options) g.wired.plan-is }

-- of effect number n, from 1
pub signs_in_array : (st : Settings) (plan : Plan) (array : List ℕ) → Wired st plan array → (w : Words) (n : ℕ) → 1 ≤ n → n ≤ 16
    → signs_in (sight_of st.options w) (get_or array (n - 1) 0) (n - 1) ≡ signs_for st w n
signs_in_array st plan array wired w n low high =
    let i = n - 1 in
    let a : get_or array i 0 ≡ association_at st i =
    sym (get_or_association array i (omega arith)) ∙ ap (λ (l : List ℕ). get_or l i 0) wired.associations_are ∙ get_or-tabulate (association_at st) 16 i 0 (omega arith)
    in
    ap (λ (v : ℕ). signs_in (sight_of st.options w) v i) a ∙ signs_of_an_effect st w i
