-- What rows and a whole file result in, by the refusal numbers. Document 01, "Refusal numbers" and "One session, whole".
use Rattle.std.specs.Prelude.{ℕ, Result, Ok, Err}
use Rattle.settings.specs.declared.numbers.Refused.{Refused}
use Rattle.settings.specs.Refusals.{number_of}
use Rattle.rerun.specs.declared.Run.{Run}
use Rattle.rerun.specs.declared.Turn.{Turn as RowDone}
use Rattle.rerun.specs.declared.Stopped.{Stopped}
use Rattle.rerun.specs.declared.Counts.{Counts}
use Rattle.rerun.specs.declared.Replayed.{Replayed}

-- what one row more, or some rows, result in: 0 and the run after them; or refusal number 9 and the run before the row that is refused,
-- whose place is that row's first byte. records: the number of records of the one row; 0 after some rows
pub record Turn : Type 0 where
  pub number : ℕ
  pub records : ℕ
  pub run : Run

-- where a replay stops: 0 and 0 where every row is replayed, or the refusal number and its place
pub record Stop : Type 0 where
  pub number : ℕ
  pub place : ℕ

-- ## What the code answers, as that

-- one row more
abbrev pub as_turn : Result RowDone Stopped → Turn
as_turn (Ok t) = record { number = 0; records = t.records; run = t.run }
as_turn (Err e) = record { number = number_of e.refusal; records = 0; run = e.run }

-- some rows
abbrev pub as_end : Result Run Stopped → Turn
as_end (Ok run) = record { number = 0; records = 0; run = run }
as_end (Err e) = record { number = number_of e.refusal; records = 0; run = e.run }

-- a whole file
abbrev pub as_replayed : Result Counts Refused → Replayed
as_replayed (Ok c) =
    record { number = 0; place = 0; records = c.records; rows = c.rows; scans = c.scans; live = c.live; exercised = c.exercised }
as_replayed (Err e) =
    record { number = number_of e.refusal; place = e.place; records = 0; rows = 0; scans = 0; live = 0; exercised = 0 }

-- where its rows stop
abbrev pub as_stop : Result (Unit {0}) Refused → Stop
as_stop (Ok none) = record { number = 0; place = 0 }
as_stop (Err e) = record { number = number_of e.refusal; place = e.place }
