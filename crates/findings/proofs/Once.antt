-- Why a file is refused is told by one answer only.
use mathlib.Core.Path.{◌≡◌, refl, sym, ap}
use Rattle.std.proofs.Common.{Option, Some, None}
use Rattle.settings.specs.declared.numbers.Refused.{Refused}
use Rattle.settings.proofs.Refusals.{number_some}
use Rattle.settings.proofs.Once.{refused_once}
use Rattle.findings.specs.declared.Explained.{Explained as Told}
use Rattle.findings.specs.Answer.{Explained, number_at, place_at, as_explained}

refusal_once : (r q : Option Refused) → number_at r ≡ number_at q → place_at r ≡ place_at q → r ≡ q
refusal_once None None e f = refl
refusal_once None (Some q) e f = absurd (number_some q.refusal (sym e))
refusal_once (Some r) None e f = absurd (number_some r.refusal e)
refusal_once (Some r) (Some q) e f = ap Some (refused_once r q e f)

pub explained_once : (r q : Told) → as_explained r ≡ as_explained q → r ≡ q
explained_once r q e =
    λ j. record {
      refused = refusal_once r.refused q.refused (ap (λ (x : Explained). x.number) e) (ap (λ (x : Explained). x.place) e) j;
      rows = (e j).rows;
      finding = (e j).finding;
    }
