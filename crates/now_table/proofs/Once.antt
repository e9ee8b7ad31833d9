-- What is shown of a recording is that of one answer only.
use mathlib.Core.Path.{◌≡◌, refl, sym, ap}
use Rattle.std.proofs.Common.{Option, Some, None}
use Rattle.settings.specs.declared.numbers.Refusal.{Refusal}
use Rattle.settings.proofs.Refusals.{number_some}
use Rattle.settings.proofs.Once.{refusal_once}
use Rattle.now_table.specs.declared.Shown.{Shown}
use Rattle.now_table.specs.Answer.{number_at}

number_once : (r q : Option Refusal) → number_at r ≡ number_at q → r ≡ q
number_once None None e = refl
number_once None (Some q) e = absurd (number_some q (sym e))
number_once (Some r) None e = absurd (number_some r e)
number_once (Some r) (Some q) e = ap Some (refusal_once r q e)

pub shown_once : (r q : Shown) → number_at r.refusal ≡ number_at q.refusal → r.size ≡ q.size → r ≡ q
shown_once r q e f = λ j. record { refusal = number_once r.refusal q.refusal e j; size = f j }
