-- One scan of all effects. Document 01, "The rules of one scan": effects do not read each other, so a definition recurs on two lists,
-- effect by effect: the signals of the effects that exist, and the slots.
use Rattle.std.specs.Prelude.{ℕ, suc, ◌+◌, ◌%◌, Bool, false, cond, ◌||◌, List, [], ◌∷◌, ◌++◌, length, get_or}
use Rattle.bits.specs.Words.{word_of}
use Rattle.rules.specs.Signals.{Signals}
use Rattle.rules.specs.declared.Slot.{Slot}
use Rattle.rules.specs.Rules.{no_slot, no_signals, after, next, moved, is_on, is_latent, is_exercised}
use Rattle.effects.specs.declared.Event.{Event}

-- the slots after the scan; slots past the effects are kept
abbrev pub steps : List Signals → List Slot → List Slot
steps [] xs = xs
steps (s ∷ ss) [] = []
steps (s ∷ ss) (x ∷ xs) = next s x ∷ steps ss xs

-- the scan is live: some effect's state after it differs from before ("Held runs and their two counts")
abbrev pub any_moved : List Signals → List Slot → Bool
any_moved [] xs = false
any_moved (s ∷ ss) [] = false
any_moved (s ∷ ss) (x ∷ xs) = moved s x || any_moved ss xs

-- ## The events

-- the sequence number after q: after 65,535 comes 0
abbrev pub wrapped : ℕ → ℕ
wrapped q = (q + 1) % 65536

-- the sequence number after a scan: one higher for each effect whose state changed
abbrev pub seq_after : ℕ → List Signals → List Slot → ℕ
seq_after q [] xs = q
seq_after q (s ∷ ss) [] = q
seq_after q (s ∷ ss) (x ∷ xs) = seq_after (cond (moved s x) (wrapped q) q) ss xs

-- the event of effect number i in scan number c, with sequence number q
abbrev pub event : ℕ → ℕ → ℕ → Signals → Slot → Event
event q c i s x = record { seq = q; scan = c; effect = i; from = x.state; to = after s x; first_out = (next s x).first_out }

-- the list of the event alone if the test holds, else no event
abbrev pub only : Bool → Event → List Event
only b e = cond b (e ∷ []) []

-- the events of scan number c, from effect number i and sequence number q on: one for each effect whose state changed
abbrev pub events_from : ℕ → ℕ → ℕ → List Signals → List Slot → List Event
events_from q c i [] xs = []
events_from q c i (s ∷ ss) [] = []
events_from q c i (s ∷ ss) (x ∷ xs) = only (moved s x) (event q c i s x) ++ events_from (cond (moved s x) (wrapped q) q) c (suc i) ss xs

-- ## The words

-- the effect word, of the first n slots after the scan
abbrev pub effect_word : ℕ → List Slot → ℕ
effect_word n xs = word_of (λ i. is_on (get_or xs i no_slot).state) n

-- the latent word, of the effects' signals
abbrev pub latent_word : List Signals → ℕ
latent_word ss = word_of (λ i. is_latent (get_or ss i no_signals)) (length ss)

-- the scan counts as exercised: some effect does
abbrev pub any_exercised : List Signals → Bool
any_exercised [] = false
any_exercised (s ∷ ss) = is_exercised s || any_exercised ss
