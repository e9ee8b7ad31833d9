-- The reason of an effect as the code finds it, by the states before and after a scan. No entry point's contract cites this page.
use Rattle.std.specs.Prelude.{ℕ, get_or}
use Rattle.rules.specs.declared.Slot.{Slot}
use Rattle.rules.specs.Rules.{no_slot}
use Rattle.settings.specs.declared.Settings.{Settings}
use Rattle.settings.specs.declared.Words.{Words}
use Rattle.settings.specs.Signals.{signals_of}
use Rattle.block.specs.declared.State.{State}
use Rattle.reasons.specs.declared.Reason.{Reason}
use Rattle.reasons.specs.Given.{signs_of}
use Rattle.reasons.specs.Reasons.{reason_by}

-- the slot of effect i, from 0
abbrev pub slot_at : State → ℕ → Slot
slot_at x i = get_or x.slots i no_slot

-- the reason of effect i, from 0
unfoldable pub reason_across : Settings → Words → (before after : State) → (i : ℕ) → Reason
reason_across st w before after i =
    reason_by (signs_of (signals_of st w i)) (slot_at before i).state (slot_at after i).state (slot_at after i).timer
