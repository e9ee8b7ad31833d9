-- A loop over events: those that are left from number i on.
use mathlib.Core.Path.{◌≡◌, ap}
use mathlib.Core.List.{List, ◌∷◌}
use Prim.Native.Nat.{ℕ, ◌+◌, ◌≤◌, ◌<◌}
use lib.ListN.{length, drop, get_or, drop_of_length-le}
use Rattle.effects.specs.declared.Event.{Event}
use Rattle.effects.proofs.Records.{no_event, left_first}
use Rattle.tally.specs.Tally.{Count, count_event, counted, Countable, AllCountable}

module _ (es : List Event) (i : ℕ) (more : i < length es) where
  abbrev left : drop i es ≡ get_or es i no_event ∷ drop (i + 1) es
  left = left_first es i more

  module _ (t : Count) where
    pub left_counted : counted (drop i es) t ≡ counted (drop (i + 1) es) (count_event (get_or es i no_event) t)
    left_counted = ap (λ (l : List Event). counted l t) left

    pub left_countable : AllCountable (drop i es) t → Countable (get_or es i no_event) t × AllCountable (drop (i + 1) es) (count_event (get_or es i no_event) t)
    left_countable h = rw left at h

pub none_left : (es : List Event) (i : ℕ) (t : Count) → length es ≤ i → counted (drop i es) t ≡ t
none_left es i t h = ap (λ (l : List Event). counted l t) (drop_of_length-le es {i = i} h)
