-- The state of the block, and when it is valid. Document 01, "Settings, row, state".
use Rattle.std.specs.Prelude.{ℕ, Bool, ◌&&◌, leb, replicate}
use Rattle.bits.specs.Lists.{all_from}
use Rattle.rules.specs.Rules.{no_slot}
use Rattle.settings.specs.declared.Settings.{Settings}
use Rattle.rules.specs.Limits.{most_scans}
use Rattle.settings.specs.Refusals.{unless}
use Rattle.slots.specs.Slots.{slot_ok}
use Rattle.block.specs.declared.State.{State}

-- 0..1,000,000,000 scans done, and all slots are valid; the struct's types say that there are sixteen slots and that the next sequence
-- number has 16 bits
abbrev pub state_ok : Settings → State → Bool
state_ok st x = leb x.scans_done most_scans && all_from (slot_ok st) 0 x.slots

unfoldable pub state_number : Settings → State → ℕ
state_number st x = unless (state_ok st x) 8

-- a fresh state: every effect is Tripped, and all numbers are 0
abbrev pub fresh : State
fresh = record { scans_done = 0; next = 0; slots = replicate 16 no_slot }
