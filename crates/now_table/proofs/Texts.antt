-- The text that is shown of a recording: the table of how its effects stand, or the line of its refusal.
use mathlib.Core.Path.{◌≡◌, refl, sym, ap, ap₂, ◌∙◌}
use mathlib.Core.List.{List, ◌++◌}
use Prim.Native.Nat.{ℕ, zero, suc, ◌+◌, ◌≤◌}
use native.Mathlib.Omega.{arith}
use lib.ListN.{length, get_or}
use lib.Seq.{sets}
use Rattle.bits.specs.Lists.{tabulate}
use Rattle.bits.proofs.Lists.{get_or-tabulate}
use Rattle.rules.specs.Rules.{no_slot}
use Rattle.settings.specs.declared.Settings.{Settings}
use Rattle.settings.proofs.Refusals.{granted_none, granted_refused}
use Rattle.recording.specs.Accepted.{Accepted}
use Rattle.recording.specs.Reader.{reading}
use Rattle.rerun.specs.Replay.{replay, row_of}
use Rattle.reasons.specs.declared.Reason.{Reason}
use Rattle.reasons.specs.declared.Reason.TheVariants.{AtRest}
use Rattle.reasons.specs.Given.{Narrow}
use Rattle.reasons.proofs.Given.{sight_is_narrow}
use Rattle.reasoned.specs.Reasoned.{reasons_now}
use Rattle.standing.specs.declared.Standing.{Standing}
use Rattle.standing.specs.Stands.{last_row, Stands, reason_now}
use Rattle.standing.proofs.Theorems.{the_reasons_now}
use Rattle.text.specs.Text.{refusal_line}
use Rattle.now_table.specs.Answer.{Shown}
use Rattle.now_table.specs.Now.{now_header, now_line, now_lines, now_text}
use Rattle.now_table.specs.Lines.{standing_lines, standing_table, ShownOf}

-- ## A table

same_lines : (st : Settings) (x : Standing) (n : ℕ) → n ≤ st.count → now_lines x.to (tabulate (reason_now st x) st.count) n ≡ standing_lines st x n
same_lines st x zero h = refl
same_lines st x (suc i) h =
    let y = get_or x.to i no_slot in
    ap₂ (λ (l : List ℕ) (r : Reason). l ++ now_line (i + 1) y.state y.first_out r)
    (same_lines st x i (omega arith))
    (get_or-tabulate (reason_now st x) st.count i AtRest (omega arith))

module _ {s : List ℕ} {x : Standing} (a : Accepted s) (all : (replay s).number ≡ 0) (is : Stands s x) where
  abbrev st : Settings
  st = (reading s).settings

  -- what is read of the last row has 16 bits
  pub narrow : Narrow x.sight
  narrow = rw is.sight_is (sight_is_narrow st.options (row_of s (last_row s)).words)

  table_is : now_text s ≡ standing_table st x
  unfolding now_text
  table_is =
      granted_none (now_header ++ now_lines (replay s).replay.state.slots (reasons_now s) st.count) (λ n. refusal_line n (replay s).place) (replay s).number all
      ∙ (λ j. now_header ++ now_lines (sym is.to_is j) (the_reasons_now a all is j) st.count)
      ∙ ap (λ (l : List ℕ). now_header ++ l) (same_lines st x st.count (omega arith))

  pub shows_table : {out out' : List ℕ} {size : ℕ} → (size ≡ length (standing_table st x)) × (out' ≡ sets out 0 (standing_table st x)) → size ≤ length out
      → ShownOf s out (record { number = 0; size = size }) out'
  shows_table p within = record { number_is = sym all; size_is = rw table_is p.0; text = rw table_is p.1; within = within }

-- ## A refusal

pub shows_refusal : {s out out' : List ℕ} {r : Shown} (n p : ℕ) → (replay s).number ≡ n → (replay s).place ≡ p → (n ≡ 0 → ⊥)
    → (r.number ≡ n) × (r.size ≡ length (refusal_line n p)) × (r.size ≤ length out) → out' ≡ sets out 0 (refusal_line n p) → ShownOf s out r out'
unfolding now_text
shows_refusal {s} n p number place refused h text =
    let is : now_text s ≡ refusal_line n p =
    granted_refused (now_header ++ now_lines (replay s).replay.state.slots (reasons_now s) (reading s).settings.count) (λ k. refusal_line k (replay s).place) (replay s).number (λ z. refused (sym number ∙ z))
    ∙ ap₂ refusal_line number place
    in
    record { number_is = h.0 ∙ sym number; size_is = h.1 ∙ ap length (sym is); text = text ∙ ap (sets _ 0) (sym is); within = h.2 }
