-- The query for the reason of an effect's state after a scan, and what refuses it. Document 02, L4 ("Refusals: a scan's except 10, then 3
-- for an absent effect"); document 01, "Refusal numbers".
use Rattle.std.specs.Prelude.{ℕ, ◌-◌, get_or}
use Rattle.rules.specs.Limits.{between}
use Rattle.rules.specs.Rules.{no_slot}
use Rattle.settings.specs.declared.Settings.{Settings}
use Rattle.settings.specs.declared.Words.{Words}
use Rattle.settings.specs.Refusals.{unless, or_else, granted}
use Rattle.settings.specs.Signals.{signals_of}
use Rattle.block.specs.declared.State.{State}
use Rattle.block.specs.Scan.{input_number, once}
use Rattle.reasons.specs.Reasons.{reason_of}
use Rattle.queries.specs.Reply.{Reply}
use Rattle.queries.specs.Reply.{Because, Refused}

-- ## What is refused

-- refusal number 3: an absent effect. Effects are numbered 1..count
abbrev pub present_number : (count effect : ℕ) → ℕ
present_number count effect = unless (between 1 count effect) 3

-- the order of refusal numbers in a query: a scan's except 10, then 3 for an absent effect
unfoldable pub query_number : Settings → Words → State → (effect : ℕ) → ℕ
query_number st w x effect = or_else (input_number st x (once w)) (present_number st.count effect)

-- ## What is answered

-- the answer to a query; a refusal has place 0
unfoldable pub reply_of : Settings → Words → State → (effect : ℕ) → Reply
reply_of st w x effect =
    granted (query_number st w x effect)
    (Because (reason_of (signals_of st w (effect - 1)) (get_or x.slots (effect - 1) no_slot)))
    (λ n. Refused n 0)

-- ## The numbers of an answer

-- the refusal number, 0 for none
abbrev pub reply_number : Reply → ℕ
reply_number (Because r) = 0
reply_number (Refused number place) = number

-- the refusal's place
abbrev pub reply_place : Reply → ℕ
reply_place (Because r) = 0
reply_place (Refused number place) = place
