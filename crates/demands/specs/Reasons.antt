-- Reasons, as the page of demands says them. Document 02, L4.
use Rattle.std.specs.Prelude.{ℕ, ◌≡◌, true, not, List, [], ◌∷◌, ◌++◌, get_or}
use Rattle.rules.specs.Limits.{between}
use Rattle.rules.specs.Rules.{no_slot, next}
use Rattle.settings.specs.declared.Settings.{Settings}
use Rattle.settings.specs.declared.Words.{Words}
use Rattle.settings.specs.Right.{known_of}
use Rattle.settings.specs.Signals.{signals_of}
use Rattle.block.specs.declared.State.{State}
use Rattle.block.specs.Scan.{once}
use Rattle.reasons.specs.declared.Reason.{Reason}
use Rattle.reasons.specs.Fits.{fits}
use Rattle.demands.specs.Order.{Case, ◌when◌, settings_cases, state_cases, row_cases, scans_cases}

-- the reason fits effect i, from 0, in a scan of the words w from the state x
abbrev pub FitsAt : Settings → Words → State → ℕ → Reason → Type 0
FitsAt st w x i r = fits (signals_of st w i) (get_or x.slots i no_slot) r ≡ true

-- exactly one reason fits
pub record ExactlyOneFits (st : Settings) (w : Words) (x : State) (i : ℕ) : Type 0 where
  pub reason : Reason
  pub it_fits : FitsAt st w x i reason
  pub no_other : (q : Reason) → FitsAt st w x i q → q ≡ reason

-- under equal settings, rows that give the same reason from the same state lead to the same state and timer
abbrev pub SameReasonLeadsAlike : Settings → (v w : Words) → State → ℕ → Reason → Type 0
SameReasonLeadsAlike st v w x i r = FitsAt st v x i r → FitsAt st w x i r
    → let a = next (signals_of st v i) (get_or x.slots i no_slot) in let b = next (signals_of st w i) (get_or x.slots i no_slot) in
    (a.state ≡ b.state) × (a.timer ≡ b.timer)

-- a query: a scan's refusals except 10, and then 3 for an absent effect
abbrev pub query_cases : Settings → Words → State → (effect : ℕ) → List Case
query_cases st w x e =
    settings_cases st ++ state_cases st x ++ row_cases (known_of st) (once w) ++ scans_cases x (once w) ++ (3 when not (between 1 st.count e) ∷ [])
