-- The table of how all effects stand after the last scan of a recording. Document 02, L4: the reason of an effect's state after a scan. An
-- effect that stays has no record, so that a table of all effects is shown, and its form, are our decisions.
use Rattle.std.specs.Prelude.{ℕ, zero, suc, ◌+◌, List, [], ◌∷◌, ◌++◌, get_or}
use Rattle.bits.specs.Decimal.{ascii, decimal}
use Rattle.rules.specs.declared.EffectState.{EffectState}
use Rattle.rules.specs.declared.Slot.{Slot}
use Rattle.rules.specs.Rules.{no_slot}
use Rattle.settings.specs.Refusals.{granted}
use Rattle.recording.specs.Reader.{reading}
use Rattle.rerun.specs.Replay.{replay}
use Rattle.reasons.specs.declared.Reason.{Reason}
use Rattle.reasons.specs.declared.Reason.TheVariants.{AtRest}
use Rattle.reasoned.specs.Reasoned.{reasons_now}
use Rattle.wording.specs.Text.{words_of}
use Rattle.text.specs.Text.{line_of, name, refusal_line}

-- the first line
unfoldable pub now_header : List ℕ
now_header = line_of (ascii "effect" ∷ ascii "state" ∷ ascii "first" ∷ ascii "reason" ∷ [])

-- the line of an effect: its number, its state, its first-out and its reason
unfoldable pub now_line : (number : ℕ) → EffectState → (first : ℕ) → Reason → List ℕ
now_line n p f r = line_of (decimal n ∷ name p ∷ decimal f ∷ words_of r ∷ [])

-- the lines of the first n effects, in their order: the first is number 1
abbrev pub now_lines : List Slot → List Reason → (n : ℕ) → List ℕ
now_lines xs rs zero = []
now_lines xs rs (suc i) = now_lines xs rs i ++ now_line (i + 1) (get_or xs i no_slot).state (get_or xs i no_slot).first_out (get_or rs i AtRest)

-- a refused recording, by 9 too, has only the line of its refusal
unfoldable pub now_text : List ℕ → List ℕ
now_text s =
    granted (replay s).number (now_header ++ now_lines (replay s).replay.state.slots (reasons_now s) (reading s).settings.count) (λ n. refusal_line n (replay s).place)
