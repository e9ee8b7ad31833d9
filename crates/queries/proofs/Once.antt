-- A reply is that of one answer only.
use mathlib.Core.Path.{◌≡◌, sym, ap}
use Rattle.std.proofs.Common.{Result, Ok, Err}
use Rattle.settings.specs.declared.numbers.Refusal.{Refusal}
use Rattle.settings.proofs.Refusals.{number_some}
use Rattle.settings.proofs.Once.{refusal_once}
use Rattle.reasons.specs.declared.Reason.{Reason}
use Rattle.reasons.specs.declared.Reason.TheVariants.{AtRest}
use Rattle.queries.specs.Reply.{Reply, Because, Refused, as_reply}
use Rattle.queries.specs.Queries.{reply_number}

abbrev reason_in : Reply → Reason
reason_in (Because r) = r
reason_in (Refused number place) = AtRest

pub reply_once : (r q : Result Reason Refusal) → as_reply r ≡ as_reply q → r ≡ q
reply_once (Ok a) (Ok b) e = ap Ok (ap reason_in e)
reply_once (Ok a) (Err q) e = absurd (number_some q (sym (ap reply_number e)))
reply_once (Err r) (Ok b) e = absurd (number_some r (ap reply_number e))
reply_once (Err r) (Err q) e = ap Err (refusal_once r q (ap reply_number e))
