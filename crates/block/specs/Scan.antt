-- One scan of the block, with its refusals. Document 01, "The rules of one scan" and "Refusal numbers".
use Rattle.std.specs.Prelude.{ℕ, ◌+◌, ◌*◌, List, ◌++◌, leb, length, drop}
use Rattle.effects.specs.declared.Event.{Event}
use Rattle.effects.specs.Records.{record_length, bytes}
use Rattle.effects.specs.Scan.{steps, seq_after, events_from, effect_word, latent_word}
use Rattle.settings.specs.declared.Settings.{Settings}
use Rattle.settings.specs.declared.Words.{Words}
use Rattle.settings.specs.declared.Row.{Row}
use Rattle.rules.specs.Limits.{most_scans}
use Rattle.settings.specs.Refusals.{unless, or_else, granted, room_number}
use Rattle.settings.specs.Right.{known_of, settings_number, row_number}
use Rattle.settings.specs.Signals.{signals}
use Rattle.block.specs.declared.State.{State}
use Rattle.block.specs.Answer.{Scanned}
use Rattle.block.specs.State.{state_number}

-- ## What is refused

-- refusal number 9: scans done plus hold above 1,000,000,000
abbrev pub scans_number : (done hold : ℕ) → ℕ
scans_number done hold = unless (leb (done + hold) most_scans) 9

-- the order of refusal numbers in a scan or held run: settings (2, 3), state (8), row (4, 5, 6), 9; then 10
unfoldable pub input_number : Settings → State → Row → ℕ
input_number st x row =
    or_else (settings_number st)
    (or_else (state_number st x) (or_else (row_number (known_of st) row) (scans_number x.scans_done row.hold)))

-- the records at the front of a lent buffer; bytes past the last record stay as they were
abbrev pub at_front : List Event → List ℕ → List ℕ
at_front es out = bytes es ++ drop (record_length * length es) out

-- ## One scan

-- a single scan takes the ten words alone, with a hold of 1
abbrev pub once : Words → Row
once w = record { hold = 1; words = w }

-- the state after the scan
unfoldable pub after : Settings → Words → State → State
after st w x =
    record {
      scans_done = x.scans_done + 1;
      next = seq_after x.next (signals st w) x.slots;
      slots = steps (signals st w) x.slots;
    }

-- the events of the scan: the first scan is number 1, and so is the first effect
unfoldable pub events : Settings → Words → State → List Event
events st w x = events_from x.next (x.scans_done + 1) 1 (signals st w) x.slots

unfoldable pub scan_number : Settings → Words → State → (room : ℕ) → ℕ
scan_number st w x room = or_else (input_number st x (once w)) (room_number (record_length * length (events st w x)) room)

-- a refusal gives its refusal number, place 0, the given state, and zeros
abbrev pub refused_scan : State → ℕ → Scanned
refused_scan x number = record { number = number; place = 0; state = x; effect = 0; latent = 0; records = 0 }

abbrev pub granted_scan : Settings → Words → State → Scanned
granted_scan st w x =
    record {
      number = 0;
      place = 0;
      state = after st w x;
      effect = effect_word st.count (after st w x).slots;
      latent = latent_word (signals st w);
      records = length (events st w x);
    }

-- the answer to a scan, with so much room for its records
unfoldable pub scan_of : Settings → Words → State → (room : ℕ) → Scanned
scan_of st w x room = granted (scan_number st w x room) (granted_scan st w x) (refused_scan x)

-- the lent buffer after a scan; a refusal touches no byte
unfoldable pub scan_into : Settings → Words → State → List ℕ → List ℕ
scan_into st w x out = granted (scan_number st w x (length out)) (at_front (events st w x) out) (λ n. out)
