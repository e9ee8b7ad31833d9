-- A reading, and what stands at a place, is that of one answer only.
use mathlib.Core.Path.{◌≡◌, refl, sym, ap}
use Rattle.std.proofs.Common.{Result, Ok, Err, Option, Some, None}
use mathlib.Core.Bool.{true≢false}
use Rattle.settings.specs.declared.numbers.Refused.{Refused as Refusal}
use Rattle.settings.proofs.Refusals.{number_some}
use Rattle.settings.proofs.Once.{refused_once}
use Rattle.recording.specs.declared.Recording.{Recording}
use Rattle.recording.specs.declared.RowAt.{RowAt}
use Rattle.recording.specs.Answer.{Reading, as_reading}
use Rattle.recording.specs.Answers.{number, place, row_count_of, first_row, row_width, ended, step_row, next_place}
use Rattle.recording.specs.Step.{Step, as_step}

pub reading_once : (r q : Result Recording Refusal) → as_reading r ≡ as_reading q → r ≡ q
reading_once (Ok f) (Ok g) e =
    λ j. Ok (record {
      settings = (e j).settings;
      rows = row_count_of (e j).answer;
      first = first_row (e j).answer;
      width = row_width (e j).answer;
    })
reading_once (Ok f) (Err q) e = absurd (number_some q.refusal (sym (ap (λ (x : Reading). number x.answer) e)))
reading_once (Err r) (Ok g) e = absurd (number_some r.refusal (ap (λ (x : Reading). number x.answer) e))
reading_once (Err r) (Err q) e = ap Err (refused_once r q (ap (λ (x : Reading). number x.answer) e) (ap (λ (x : Reading). place x.answer) e))

pub step_once : (r q : Option RowAt) → as_step r ≡ as_step q → r ≡ q
step_once (Some f) (Some g) e = λ j. Some (record { row = step_row (e j); next = next_place (e j) })
step_once (Some f) None e = absurd (true≢false (sym (ap ended e)))
step_once None (Some g) e = absurd (true≢false (ap ended e))
step_once None None e = refl
