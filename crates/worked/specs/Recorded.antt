-- Document 01's session, "One session, whole": its 70 bytes, and the events of its listing.
use Rattle.std.specs.Prelude.{ℕ, List, [], ◌∷◌}
use Rattle.rules.specs.declared.EffectState.{EffectState}
use Rattle.rules.specs.declared.EffectState.TheVariants.{Tripped, Normal, Delayed}
use Rattle.effects.specs.declared.Event.{Event}

unfoldable pub session : List ℕ
session =
    0 ∷ 1 ∷ 2 ∷ 0 ∷ 0 ∷ 100
    ∷ 0 ∷ 2 ∷ 0 ∷ 1 ∷ 0 ∷ 0 ∷ 0 ∷ 0 ∷ 0 ∷ 3 ∷ 0 ∷ 0 ∷ 0 ∷ 250
    ∷ 0 ∷ 2
    ∷ 0 ∷ 0 ∷ 0 ∷ 3 ∷ 0 ∷ 3 ∷ 0 ∷ 0 ∷ 0 ∷ 0 ∷ 0 ∷ 0 ∷ 0 ∷ 3 ∷ 0 ∷ 3 ∷ 0 ∷ 0 ∷ 0 ∷ 0 ∷ 0 ∷ 0 ∷ 0 ∷ 0
    ∷ 0 ∷ 0 ∷ 0 ∷ 5 ∷ 0 ∷ 2 ∷ 0 ∷ 0 ∷ 0 ∷ 0 ∷ 0 ∷ 0 ∷ 0 ∷ 3 ∷ 0 ∷ 3 ∷ 0 ∷ 0 ∷ 0 ∷ 0 ∷ 0 ∷ 0 ∷ 0 ∷ 0
    ∷ []

abbrev event : (seq scan effect : ℕ) → (from to : EffectState) → (first : ℕ) → Event
event q c i a b f = record { seq = q; scan = c; effect = i; from = a; to = b; first_out = f }

abbrev pub session_events : List Event
session_events =
    event 0 1 1 Tripped Normal 0
    ∷ event 1 1 2 Tripped Normal 0
    ∷ event 2 4 1 Normal Tripped 1
    ∷ event 3 4 2 Normal Delayed 1
    ∷ event 4 7 2 Delayed Tripped 1
    ∷ []
