-- What is answered, and what the lent bytes then hold: the first refusal, 10 where what is due does not fit, or the bytes.
use mathlib.Core.Path.{◌≡◌, sym, ◌∙◌}
use mathlib.Core.List.{List}
use Prim.Native.Nat.{ℕ, ◌≤◌}
use lib.ListN.{length}
use lib.Seq.{sets}
use Rattle.settings.specs.Refusals.{or_else, granted, room_number}
use Rattle.settings.proofs.Refusals.{granted_none, granted_refused, room_enough, or_else_first, or_else_next}

module _ (first due : ℕ) (out bytes : List ℕ) where
  abbrev n : ℕ
  n = or_else first (room_number due (length out))

  abbrev pub Answered : ℕ → List ℕ → Type 0
  Answered r out' = (r ≡ n) × (out' ≡ granted n (sets out 0 bytes) (λ k. out))

  refused : (r : ℕ) → r ≡ n → (r ≡ 0 → ⊥) → Answered r out
  refused r e h = (e, sym (granted_refused (sets out 0 bytes) (λ k. out) n (λ z. h (e ∙ z))))

  -- the recording itself is refused
  pub refused-first : (r : ℕ) → r ≡ first → (r ≡ 0 → ⊥) → Answered r out
  refused-first r e h = refused r (or_else_first first (room_number due (length out)) r e h) h

  module _ (z : first ≡ 0) where
    -- there is too little room
    pub refused_room : (r : ℕ) → r ≡ room_number due (length out) → (r ≡ 0 → ⊥) → Answered r out
    refused_room r e h = refused r (or_else_next first (room_number due (length out)) first r (λ j. first) z e) h

    pub crosses : due ≤ length out → (out' : List ℕ) → out' ≡ sets out 0 bytes → Answered 0 out'
    crosses h out' e =
        let none : 0 ≡ n = or_else_next first (room_number due (length out)) first 0 (λ j. first) z (sym (room_enough due (length out) h)) in
        (none, e ∙ sym (granted_none (sets out 0 bytes) (λ k. out) n (sym none)))
