-- The answer to one recording more: 0, the effect count of the recording and the report after it; or the refusal number, its place and the
-- report as it was. Document 02, L1.
use Rattle.std.specs.Prelude.{ℕ, Result, Ok, Err}
use Rattle.settings.specs.Refusals.{number_of}
use Rattle.season.specs.declared.Report.{Report}
use Rattle.season.specs.declared.Added.{Added as Grown}
use Rattle.season.specs.declared.NotAdded.{NotAdded}

pub record Added : Type 0 where
  pub number : ℕ
  pub place : ℕ
  pub effects : ℕ
  pub report : Report

-- what the code answers, as that: beside a refusal the effect count is 0
abbrev pub as_added : Result Grown NotAdded → Added
as_added (Ok g) = record { number = 0; place = 0; effects = g.effects; report = g.report }
as_added (Err e) = record { number = number_of e.refused.refusal; place = e.refused.place; effects = 0; report = e.report }
