-- What a call that writes into lent bytes answers in each of its cases: refused at once, refused for want of room, and granted.
use mathlib.Core.Path.{◌≡◌, ap, sym, ◌∙◌}
use mathlib.Core.List.{List}
use Prim.Native.Nat.{ℕ, ◌≤◌, ◌<◌}
use lib.ListN.{length}
use Rattle.settings.specs.Refusals.{or_else, granted, room_number}
use Rattle.settings.proofs.Refusals.{granted_refused, room_enough, room_short, or_else_first, or_else_next}

-- n is the refusal number of the input, `due` the bytes due, and `room` the bytes there are
module _ {A : Type 0} (input due room n : ℕ) (is : n ≡ input) (a : A) (f : ℕ → A) where
  refused_at_once : (n ≡ 0 → ⊥) → f n ≡ granted (or_else input (room_number due room)) a f
  refused_at_once h = sym (ap (λ (k : ℕ). granted k a f) (sym (or_else_first input (room_number due room) n is h)) ∙ granted_refused a f n h)

  module _ (z : n ≡ 0) where
    then_room : (k : ℕ) → k ≡ room_number due room → k ≡ or_else input (room_number due room)
    then_room k e = or_else_next input (room_number due room) n k is z e

    refused_for_room : room < due → f 10 ≡ granted (or_else input (room_number due room)) a f
    refused_for_room h = ap (λ (k : ℕ). granted k a f) (then_room 10 (sym (room_short due room h)))

    pub granted_in_room : due ≤ room → a ≡ granted (or_else input (room_number due room)) a f
    granted_in_room h = ap (λ (k : ℕ). granted k a f) (then_room 0 (sym (room_enough due room h)))

-- the answer r, and the lent bytes `buf` after it. `piece`: what a call that is granted leaves of the bytes `out`
module _ {A : Type 0} (input due : ℕ) (out piece : List ℕ) (yes : A) (no : ℕ → A) (n : ℕ) (is : n ≡ input) where
  abbrev Answers : A → List ℕ → Type 0
  Answers r buf =
      (r ≡ granted (or_else input (room_number due (length out))) yes no)
      × (buf ≡ granted (or_else input (room_number due (length out))) piece (λ k. out))

  pub answers_refused : (r : A) → r ≡ no n → (n ≡ 0 → ⊥) → Answers r out
  answers_refused r e h =
      (e ∙ refused_at_once input due (length out) n is yes no h, refused_at_once input due (length out) n is piece (λ k. out) h)

  pub answers_no_room : (r : A) → r ≡ no 10 → n ≡ 0 → length out < due → Answers r out
  answers_no_room r e z h =
      (e ∙ refused_for_room input due (length out) n is yes no z h, refused_for_room input due (length out) n is piece (λ k. out) z h)

  pub answers_granted : (r : A) (buf : List ℕ) → r ≡ yes → buf ≡ piece → n ≡ 0 → due ≤ length out → Answers r buf
  answers_granted r buf e f z h =
      (e ∙ granted_in_room input due (length out) n is yes no z h, f ∙ granted_in_room input due (length out) n is piece (λ k. out) z h)
