-- `block::State::held` meets its contract: the run's records, laid in a space of their own, are those of the definitions, so they fit
-- or do not, and the cases of the answer are those of the code.
use mathlib.Core.Path.{◌≡◌, refl, ap, sym, ◌∙◌}
use Prim.Native.Nat.{ℕ, ◌*◌, ◌≤◌}
use native.Mathlib.Omega.{arith}
use lib.ListN.{length, replicate}
use lib.Seq.{length-sets}
use Rattle.std.proofs.Common.{Ok, Err}
use Rattle.effects.specs.Records.{record_length, most_row_bytes}
use Rattle.settings.specs.Refusals.{number_of}
use Rattle.settings.proofs.Refusals.{number_some}
use Rattle.block.specs.declared.RunRefused.{RunRefused}
use Rattle.block.specs.Answer.{Held, as_held}
use Rattle.block.specs.Scan.{at_front}
use Rattle.block.specs.Held.{run, granted_held, refused_held, held_number, held_of, held_into}
use Rattle.settings.proofs.Answers.{answers_refused, answers_no_room, answers_granted}
use Rattle.block.proofs.Answers.{copied}
use Rattle.block.proofs.Runs.{due_bytes}
use Rattle.block.proofs.State.held.Goals as goal

pub returns-in-Err : goal.returns-in-Err
unfolding held_of held_into held_number
returns-in-Err c =
    let a = c.args in
    let e = c.in-Err.refusal in
    let both = answers_refused _ (record_length * length (run a.st a.row a.self).events) a.out.now (at_front (run a.st a.row a.self).events a.out.now) (granted_held a.st a.row a.self) (refused_held a.self) (number_of e) c.in-Err.ensures
    (as_held (Err c.refused.result)) (ap (λ (q : RunRefused). as_held (Err q)) c.refused.ensures) (number_some e) in
    record { value = both.0; out_after = both.1 }

pub run_right-ran-requires : goal.run_right-ran-requires
run_right-ran-requires c =
    let a = c.args in
    (sym c.in_default.ensures, due_bytes a.st a.row a.self (sym c.in_default.ensures))

pub overflow_mul-at : goal.overflow_mul-at
overflow_mul-at c =
    let n = (ap (λ (r : Held). r.records) c.run_right-ran.ensures.value) in
    let b : record_length * length (run c.args.st c.args.row c.args.self).events ≤ most_row_bytes = due_bytes c.args.st c.args.row c.args.self (sym c.in_default.ensures) in
    omega (arith, n, b)

pub returns-then-out-at : goal.returns-then-out-at
unfolding held_of held_into held_number
returns-then-out-at c =
    let a = c.args in
    let both = answers_no_room _ (record_length * length (run a.st a.row a.self).events) a.out.now (at_front (run a.st a.row a.self).events a.out.now) (granted_held a.st a.row a.self) (refused_held a.self) 0 c.in_default.ensures
    (as_held (Err c.refused-then-out-at.result)) (ap (λ (q : RunRefused). as_held (Err q)) c.refused-then-out-at.ensures) refl (omega (arith, ap (λ (r : Held). r.records) c.run_right-ran.ensures.value, c.if-out-at.true)) in
    record { value = both.0; out_after = both.1 }

pub copy_front-requires : goal.copy_front-requires
copy_front-requires c =
    let n = (ap (λ (r : Held). r.records) c.run_right-ran.ensures.value) in
    let b : record_length * length (run c.args.st c.args.row c.args.self).events ≤ most_row_bytes = due_bytes c.args.st c.args.row c.args.self (sym c.in_default.ensures) in
    let len : length c.run_right-ran.new.buf ≡ most_row_bytes = ap length c.run_right-ran.ensures.buf_after ∙ simp length-sets in
    (omega (arith, n, b, len), omega arith)

pub returns : goal.returns
unfolding held_of held_into held_number
returns c =
    let a = c.args in
    let n = (ap (λ (r : Held). r.records) c.run_right-ran.ensures.value) in
    let b : record_length * length (run c.args.st c.args.row c.args.self).events ≤ most_row_bytes = due_bytes c.args.st c.args.row c.args.self (sym c.in_default.ensures) in
    let e : record_length * c.run_right-ran.result.records ≡ record_length * length (run a.st a.row a.self).events = ap (λ (m : ℕ). record_length * m) n in
    let both = answers_granted _ (record_length * length (run a.st a.row a.self).events) a.out.now (at_front (run a.st a.row a.self).events a.out.now) (granted_held a.st a.row a.self) (refused_held a.self) 0 c.in_default.ensures _ _
    c.run_right-ran.ensures.value
    (copied (run a.st a.row a.self).events _ (replicate most_row_bytes 0) _ a.out.now _ e b c.run_right-ran.ensures.buf_after c.copy_front.ensures)
    refl (omega (arith, n, c.if-out-at.false)) in
    record { value = both.0; out_after = both.1 }
