-- What rows and a whole file result in is that of one answer only.
use mathlib.Core.Path.{◌≡◌, refl, sym, ap}
use Rattle.std.proofs.Common.{Result, Ok, Err}
use Rattle.settings.specs.declared.numbers.Refused.{Refused}
use Rattle.settings.proofs.Refusals.{number_some}
use Rattle.settings.proofs.Once.{refusal_once, refused_once}
use Rattle.rerun.specs.declared.Run.{Run}
use Rattle.rerun.specs.declared.Turn.{Turn as RowDone}
use Rattle.rerun.specs.declared.Stopped.{Stopped}
use Rattle.rerun.specs.declared.Counts.{Counts}
use Rattle.rerun.specs.Answer.{Turn, Stop, as_turn, as_end, as_replayed, as_stop}
use Rattle.rerun.specs.declared.Replayed.{Replayed}

pub turn_once : (r q : Result RowDone Stopped) → as_turn r ≡ as_turn q → r ≡ q
turn_once (Ok a) (Ok b) e = λ j. Ok (record { records = (e j).records; run = (e j).run })
turn_once (Ok a) (Err q) e = absurd (number_some q.refusal (sym (ap (λ (x : Turn). x.number) e)))
turn_once (Err r) (Ok b) e = absurd (number_some r.refusal (ap (λ (x : Turn). x.number) e))
turn_once (Err r) (Err q) e =
    λ j. Err (record { refusal = refusal_once r.refusal q.refusal (ap (λ (x : Turn). x.number) e) j; run = (e j).run })

pub end_once : (r q : Result Run Stopped) → as_end r ≡ as_end q → r ≡ q
end_once (Ok a) (Ok b) e = ap Ok (ap (λ (x : Turn). x.run) e)
end_once (Ok a) (Err q) e = absurd (number_some q.refusal (sym (ap (λ (x : Turn). x.number) e)))
end_once (Err r) (Ok b) e = absurd (number_some r.refusal (ap (λ (x : Turn). x.number) e))
end_once (Err r) (Err q) e =
    λ j. Err (record { refusal = refusal_once r.refusal q.refusal (ap (λ (x : Turn). x.number) e) j; run = (e j).run })

pub replayed_once : (r q : Result Counts Refused) → as_replayed r ≡ as_replayed q → r ≡ q
replayed_once (Ok a) (Ok b) e =
    λ j. Ok (record {
      records = (e j).records;
      rows = (e j).rows;
      scans = (e j).scans;
      live = (e j).live;
      exercised = (e j).exercised;
    })
replayed_once (Ok a) (Err q) e = absurd (number_some q.refusal (sym (ap (λ (x : Replayed). x.number) e)))
replayed_once (Err r) (Ok b) e = absurd (number_some r.refusal (ap (λ (x : Replayed). x.number) e))
replayed_once (Err r) (Err q) e = ap Err (refused_once r q (ap (λ (x : Replayed). x.number) e) (ap (λ (x : Replayed). x.place) e))

pub stop_once : (r q : Result (Unit {0}) Refused) → as_stop r ≡ as_stop q → r ≡ q
stop_once (Ok a) (Ok b) e = refl
stop_once (Ok a) (Err q) e = absurd (number_some q.refusal (sym (ap (λ (x : Stop). x.number) e)))
stop_once (Err r) (Ok b) e = absurd (number_some r.refusal (ap (λ (x : Stop). x.number) e))
stop_once (Err r) (Err q) e = ap Err (refused_once r q (ap (λ (x : Stop). x.number) e) (ap (λ (x : Stop). x.place) e))
