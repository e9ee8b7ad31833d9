-- How the reasons of a recording are put, a row after the other. No entry point's contract cites this page.
use Rattle.std.specs.Prelude.{ℕ, ◌+◌, ◌*◌, ◌≤◌, ◌≡◌, length}
use mathlib.Core.List.{List, flat_map}
use Rattle.std.proofs.lemmas.List.Edits.{sets}
use Rattle.effects.specs.declared.Event.{Event}
use Rattle.effects.specs.Records.{StandFrom}
use Rattle.rerun.specs.declared.Run.{Run}
use Rattle.rerun.specs.Replay.{replay}
use Rattle.rerun.specs.Turn.{Going}
use Rattle.reasons.specs.declared.Sight.{Sight}
use Rattle.reasons.specs.Reasons.{reason_in}
use Rattle.reasoned.specs.Reasoned.{reasoned_row, reasoned_rows}
use Rattle.reason_bytes.specs.Bytes.{numbers_of}
use Rattle.why_bytes.specs.Bytes.{reason_length, reason_bytes}

-- ## The records of one row

-- the reasons of records, by what is read of their row and the association words of the effects
abbrev pub record_reasons : Sight → (associations : List ℕ) → List Event → List ℕ
record_reasons sight associations es = flat_map (λ (e : Event). numbers_of (reason_in sight associations e)) es

-- for any events whose n records these are: their reasons were put at a place
abbrev pub RowPut : Sight → (associations records : List ℕ) → (n at : ℕ) → (out out' : List ℕ) → Type 0
RowPut sight associations records n at out out' =
    (es : List Event) → length es ≡ n → StandFrom records 0 es → out' ≡ sets out at (record_reasons sight associations es)

-- ## The rows

-- in a recording whose rows all run, as many reasons as the run counts records were those of its rows so far, and those of all events fit
pub record Telling (s : List ℕ) (run : Run) (array : List ℕ) (room : ℕ) : Type 0 where
  pub going : Going s run array
  pub all_run : (replay s).number ≡ 0
  pub fits : reason_length * length (replay s).replay.events ≤ room
  pub told : length (reasoned_rows s run.rows) ≡ run.records

-- a row more
pub record RowTold (s : List ℕ) (run : Run) (out : List ℕ) (r : Run) (array' out' : List ℕ) : Type 0 where
  pub telling : Telling s r array' (length out)
  pub onward : r.rows ≡ run.rows + 1
  pub laid : out' ≡ sets out (reason_length * run.records) (reason_bytes (reasoned_row s run.rows))
