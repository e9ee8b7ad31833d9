-- What one recording more results in is that of one answer only.
use mathlib.Core.Path.{◌≡◌, sym, ap}
use Rattle.std.proofs.Common.{Result, Ok, Err}
use Rattle.settings.proofs.Refusals.{number_some}
use Rattle.settings.proofs.Once.{refused_once}
use Rattle.season.specs.declared.Added.{Added as Grown}
use Rattle.season.specs.declared.NotAdded.{NotAdded}
use Rattle.season.specs.Answer.{Added, as_added}

pub added_once : (r q : Result Grown NotAdded) → as_added r ≡ as_added q → r ≡ q
added_once (Ok a) (Ok b) e = λ j. Ok (record { effects = (e j).effects; report = (e j).report })
added_once (Ok a) (Err q) e = absurd (number_some q.refused.refusal (sym (ap (λ (x : Added). x.number) e)))
added_once (Err r) (Ok b) e = absurd (number_some r.refused.refusal (ap (λ (x : Added). x.number) e))
added_once (Err r) (Err q) e =
    λ j. Err (record {
      refused = refused_once r.refused q.refused (ap (λ (x : Added). x.number) e) (ap (λ (x : Added). x.place) e) j;
      report = (e j).report;
    })
