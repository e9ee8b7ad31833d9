-- The reasons of a replay: each event with the reason at its own scan, and the reasons of all effects after the last scan. By single scans
-- of rows, as document 01 has them ("Held runs and their two counts"); document 02, L4.
use Rattle.std.specs.Prelude.{ℕ, zero, suc, ◌+◌, ◌-◌, Bool, cond, List, [], ◌∷◌, ◌++◌, get_or}
use Rattle.bits.specs.Lists.{tabulate}
use Rattle.rules.specs.Signals.{Signals}
use Rattle.rules.specs.declared.Slot.{Slot}
use Rattle.rules.specs.Rules.{no_slot, moved}
use Rattle.effects.specs.declared.Event.{Event}
use Rattle.effects.specs.Scan.{event, wrapped}
use Rattle.settings.specs.declared.Settings.{Settings}
use Rattle.settings.specs.declared.Words.{Words}
use Rattle.settings.specs.Signals.{signals, signals_of}
use Rattle.block.specs.declared.State.{State}
use Rattle.block.specs.Held.{later, single}
use Rattle.recording.specs.Answers.{row_count_of}
use Rattle.recording.specs.Reader.{reading}
use Rattle.rerun.specs.Replay.{replay, first_rows, row_of}
use Rattle.reasons.specs.declared.Reason.{Reason}
use Rattle.reasons.specs.Reasons.{reason_of}

-- an event, and the reason of its effect's state after its scan
pub record Reasoned : Type 0 where
  pub event : Event
  pub reason : Reason

-- ## One scan

-- the list of the one alone if the test holds, else none
abbrev pub only_if : Bool → Reasoned → List Reasoned
only_if b t = cond b (t ∷ []) []

-- the events of scan number c with their reasons, from effect number i and sequence number q on
abbrev pub reasoned_from : ℕ → ℕ → ℕ → List Signals → List Slot → List Reasoned
reasoned_from q c i [] xs = []
reasoned_from q c i (s ∷ ss) [] = []
reasoned_from q c i (s ∷ ss) (x ∷ xs) =
    only_if (moved s x) (record { event = event q c i s x; reason = reason_of s x }) ++ reasoned_from (cond (moved s x) (wrapped q) q) c (suc i) ss xs

unfoldable pub reasoned_scan : Settings → Words → State → List Reasoned
reasoned_scan st w x = reasoned_from x.next (x.scans_done + 1) 1 (signals st w) x.slots

-- the reason of the effect in slot i, from 0, in a scan
abbrev pub reason_at : Settings → Words → State → ℕ → Reason
reason_at st w x i = reason_of (signals_of st w i) (get_or x.slots i no_slot)

-- of all effects, in their order
abbrev pub scan_reasons : Settings → Words → State → List Reason
scan_reasons st w x = tabulate (reason_at st w x) st.count

-- ## A hold

-- the events of n single scans of a row
abbrev pub reasoned_hold : Settings → Words → ℕ → State → List Reasoned
reasoned_hold st w zero x = []
reasoned_hold st w (suc n) x = reasoned_scan st w x ++ reasoned_hold st (later w) n (single st w x).state

-- the reasons after the last of n + 1 single scans of a row
abbrev pub hold_reasons : Settings → Words → ℕ → State → List Reason
hold_reasons st w zero x = scan_reasons st w x
hold_reasons st w (suc n) x = hold_reasons st (later w) n (single st w x).state

-- ## A recording

-- the events of row i, from 0, from the state that the rows before it left
unfoldable pub reasoned_row : List ℕ → ℕ → List Reasoned
reasoned_row s i = reasoned_hold (reading s).settings (row_of s i).words (row_of s i).hold (first_rows s i).replay.state

-- of the first i rows, joined
abbrev pub reasoned_rows : List ℕ → ℕ → List Reasoned
reasoned_rows s zero = []
reasoned_rows s (suc i) = reasoned_rows s i ++ reasoned_row s i

-- of a whole recording: the rows that its replay has run
unfoldable pub reasoned : List ℕ → List Reasoned
reasoned s = reasoned_rows s (replay s).replay.rows

-- the reasons after the last scan of row i
unfoldable pub row_reasons : List ℕ → ℕ → List Reason
row_reasons s i = hold_reasons (reading s).settings (row_of s i).words ((row_of s i).hold - 1) (first_rows s i).replay.state

-- the reasons after the last scan of a recording whose rows all run: those of its last row
unfoldable pub reasons_now : List ℕ → List Reason
reasons_now s = row_reasons s (row_count_of (reading s).answer - 1)
