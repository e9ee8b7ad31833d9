-- What a case gives: settings and a state, at their places in its bytes, and the lent buffer; words are as in a recording. Numbers
-- are big-endian; second/README.md lays the streams out.
use Rattle.std.specs.Prelude.{ℕ, ◌+◌, ◌*◌, ◌%◌, ◌<◌, min, ◌≡◌, List, get_or}
use Rattle.bits.specs.Lists.{list_of}
use Rattle.bits.specs.Numbers.{num_at}
use Rattle.rules.specs.declared.Slot.{Slot}
use Rattle.rules.specs.Rules.{code, most_code, no_slot}
use Rattle.settings.specs.declared.Settings.{Settings}
use Rattle.block.specs.declared.State.{State}
use Rattle.layout.specs.Entries.{effect_at}

-- settings: cause count 1, options 1, period 2, effect count 1, and sixteen effects as in a recording
unfoldable pub settings_at : List ℕ → ℕ → Settings
settings_at s at =
    record {
      causes = num_at 1 s at;
      options = num_at 1 s (at + 1);
      period = num_at 2 s (at + 2);
      count = num_at 1 s (at + 4);
      effects = list_of (effect_at s) 6 16 (at + 5);
    }

-- a state code. No stream has one above the highest; such a byte is taken for the highest
abbrev pub code_at : List ℕ → ℕ → ℕ
code_at s at = min (num_at 1 s at) most_code

-- slot i of the slots that stand from `at` on: state code 1, timer 4, first_out 2
pub record SlotAt (s : List ℕ) (at i : ℕ) (x : Slot) : Type 0 where
  pub state : code x.state ≡ code_at s (at + 7 * i)
  pub timer : x.timer ≡ num_at 4 s (at + 7 * i + 1)
  pub first_out : x.first_out ≡ num_at 2 s (at + 7 * i + 5)

-- the first n of the slots that stand from `at` on
abbrev pub SlotsAt : List ℕ → (at n : ℕ) → List Slot → Type 0
SlotsAt s at n xs = (i : ℕ) → i < n → SlotAt s at i (get_or xs i no_slot)

-- a state: scans done 4, next sequence number 2, and sixteen slots
pub record StateAt (s : List ℕ) (at : ℕ) (x : State) : Type 0 where
  pub scans-done : x.scans_done ≡ num_at 4 s at
  pub next : x.next ≡ num_at 2 s (at + 4)
  pub slots : SlotsAt s (at + 6) 16 x.slots

-- byte i of the lent buffer before the call
abbrev pub fill_at : ℕ → ℕ
fill_at i = (7 * i + 3) % 256
