-- What a row and its records tell of reasons, without its scans. No entry point's contract cites this page.
use Rattle.std.specs.Prelude.{ℕ, ◌+◌, ◌-◌, ◌≤◌, ◌≡◌, List, length}
use Rattle.rules.specs.declared.Slot.{Slot}
use Rattle.rules.specs.declared.EffectState.{EffectState}
use Rattle.effects.specs.declared.Event.{Event}
use Rattle.settings.specs.declared.Settings.{Settings}
use Rattle.settings.specs.declared.Words.{Words}
use Rattle.settings.specs.Signals.{signals_of}
use Rattle.layout.specs.declared.Kind.TheVariants.{Rows}
use Rattle.layout.specs.Entries.{row_at}
use Rattle.layout.specs.Sections.{width_of}
use Rattle.recording.specs.Reader.{reading}
use Rattle.rerun.specs.declared.Run.{Run}
use Rattle.rerun.specs.Replay.{row_of}
use Rattle.reasons.specs.declared.Reason.{Reason}
use Rattle.reasons.specs.declared.Sight.{Sight}
use Rattle.reasons.specs.declared.Signs.{Signs}
use Rattle.reasons.specs.Given.{signs_of, sight_of}
use Rattle.reasons.specs.Reasons.{reason_by}
use Rattle.reasoned.specs.Reasoned.{Reasoned}

-- ## The next row of a run

-- the row at a run's place can be read, and the run has the options of the file
pub record NextRow (s : List ℕ) (run : Run) : Type 0 where
  pub wide : width_of Rows ≤ run.width
  pub within : run.place + run.width ≤ length s
  pub is : row_at run.width s run.place ≡ row_of s run.rows
  pub options_are : run.plan.options ≡ (reading s).settings.options

-- what a reason reads of row i of a file, from 0
abbrev pub row_sight : List ℕ → ℕ → Sight
row_sight s i = sight_of (reading s).settings.options (row_of s i).words

-- nothing read
abbrev pub no_sight : Sight
no_sight = record { trip = 0; normal = 0; seen = record { tripped = 0; bad = 0 } }

-- ## What is told

-- what a reason reads of a row for effect number n, from 1
abbrev pub signs_for : Settings → Words → ℕ → Signs
signs_for st w n = signs_of (signals_of st w (n - 1))

-- the reason of a record, where this is read for its effect: the timer is not read
abbrev pub told_by : (ℕ → Signs) → Event → Reason
told_by signs e = reason_by (signs e.effect) e.from e.to 0

-- the record with that reason
abbrev pub with_reason : (ℕ → Signs) → Event → Reasoned
with_reason signs e = record { event = e; reason = told_by signs e }

-- the reason of the effect in slot i, from 0, after a row's last scan, where this was its state before that scan and this its slot after it
abbrev pub reason_last : Settings → Words → ℕ → EffectState → Slot → Reason
reason_last st w i p y = reason_by (signs_of (signals_of st w i)) p y.state y.timer
