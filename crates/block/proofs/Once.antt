-- What a scan and a held run result in is that of one answer only.
use mathlib.Core.Path.{◌≡◌, sym, ap}
use Rattle.std.proofs.Common.{Result, Ok, Err}
use Rattle.settings.proofs.Refusals.{number_some}
use Rattle.settings.proofs.Once.{refusal_once}
use Rattle.block.specs.declared.Scanned.{Scanned as ScanDone}
use Rattle.block.specs.declared.Held.{Held as RunDone}
use Rattle.block.specs.declared.RunRefused.{RunRefused}
use Rattle.block.specs.Answer.{Scanned, Held, as_scanned, as_held}

pub scanned_once : (r q : Result ScanDone RunRefused) → as_scanned r ≡ as_scanned q → r ≡ q
scanned_once (Ok a) (Ok b) e = λ j. Ok (record { state = (e j).state; effect = (e j).effect; latent = (e j).latent; records = (e j).records })
scanned_once (Ok a) (Err q) e = absurd (number_some q.refusal (sym (ap (λ (x : Scanned). x.number) e)))
scanned_once (Err r) (Ok b) e = absurd (number_some r.refusal (ap (λ (x : Scanned). x.number) e))
scanned_once (Err r) (Err q) e =
    λ j. Err (record { refusal = refusal_once r.refusal q.refusal (ap (λ (x : Scanned). x.number) e) j; state = (e j).state })

pub held_once : (r q : Result RunDone RunRefused) → as_held r ≡ as_held q → r ≡ q
held_once (Ok a) (Ok b) e =
    λ j. Ok (record {
      state = (e j).state;
      effect = (e j).effect;
      latent = (e j).latent;
      records = (e j).records;
      live = (e j).live;
      exercised = (e j).exercised;
    })
held_once (Ok a) (Err q) e = absurd (number_some q.refusal (sym (ap (λ (x : Held). x.number) e)))
held_once (Err r) (Ok b) e = absurd (number_some r.refusal (ap (λ (x : Held). x.number) e))
held_once (Err r) (Err q) e =
    λ j. Err (record { refusal = refusal_once r.refusal q.refusal (ap (λ (x : Held). x.number) e) j; state = (e j).state })

-- two runs that are granted alike are one
run_in : RunDone → Result RunDone RunRefused → RunDone
run_in default (Ok a) = a
run_in default (Err e) = default

pub run_once : (r q : RunDone) → ◌≡◌ {A = Result RunDone RunRefused} (Ok r) (Ok q) → r ≡ q
unfolding run_in
run_once r q e = ap (run_in r) e
