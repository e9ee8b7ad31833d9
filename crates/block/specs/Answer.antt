-- What a scan and a held run answer: a refusal number (0 for none) and its place, the state after it or the given one, the effect and the latent
-- word, and the number of records; of a held run the words are those of its last scan, and it has its live and its exercised scans. Document
-- 01, "Held runs and their two counts" and "Refusal numbers".
use Rattle.std.specs.Prelude.{ℕ, Result, Ok, Err}
use Rattle.settings.specs.Refusals.{number_of}
use Rattle.block.specs.declared.State.{State}
use Rattle.block.specs.declared.Scanned.{Scanned as ScanDone}
use Rattle.block.specs.declared.Held.{Held as RunDone}
use Rattle.block.specs.declared.RunRefused.{RunRefused}

pub record Scanned : Type 0 where
  pub number : ℕ
  pub place : ℕ
  pub state : State
  pub effect : ℕ
  pub latent : ℕ
  pub records : ℕ

pub record Held : Type 0 where
  pub number : ℕ
  pub place : ℕ
  pub state : State
  pub effect : ℕ
  pub latent : ℕ
  pub records : ℕ
  pub live : ℕ
  pub exercised : ℕ

-- what the code answers, as that: a refusal has place 0, the given state, and zeros
abbrev pub as_scanned : Result ScanDone RunRefused → Scanned
as_scanned (Ok s) = record { number = 0; place = 0; state = s.state; effect = s.effect; latent = s.latent; records = s.records }
as_scanned (Err e) = record { number = number_of e.refusal; place = 0; state = e.state; effect = 0; latent = 0; records = 0 }

abbrev pub as_held : Result RunDone RunRefused → Held
as_held (Ok h) =
    record {
      number = 0;
      place = 0;
      state = h.state;
      effect = h.effect;
      latent = h.latent;
      records = h.records;
      live = h.live;
      exercised = h.exercised;
    }
as_held (Err e) =
    record { number = number_of e.refusal; place = 0; state = e.state; effect = 0; latent = 0; records = 0; live = 0; exercised = 0 }
