-- Writing a piece: refused for want of room, or written. Each is a case of the definition.
use mathlib.Core.Path.{◌≡◌, refl, ap, sym, ◌∙◌}
use mathlib.Core.List.{List, ◌++◌}
use Prim.Native.Nat.{ℕ, ◌≤◌, ◌<◌}
use native.Mathlib.Nat.{zero-add}
use native.Mathlib.Omega.{arith}
use lib.ListN.{length, drop}
use lib.Seq.{sets, sets-eq}
use Rattle.settings.specs.Refusals.{or_else, room_number}
use Rattle.settings.proofs.Refusals.{granted_none, granted_refused, granted_number}
use Rattle.settings.proofs.Answers.{answers_no_room, answers_granted}
use Rattle.writing.specs.Written.{Written}
use Rattle.writing.specs.Written as W
use Rattle.writing.specs.Answers.{written_number, written_place, written_length}
use Rattle.writing.specs.Writer.{written, after}

module _ (num res : ℕ) (piece out : List ℕ) (is : res ≡ num) where
  abbrev Is : Written → List ℕ → Type 0
  Is r l = (r ≡ written num piece (length out)) × (l ≡ after num piece out)

  module _ (right : res ≡ 0) where
    pub piece_short : length out < length piece → Is (W.Refused 10) out
    piece_short =
        answers_no_room num (length piece) out (piece ++ drop (length piece) out) (W.Bytes (length piece)) (λ n. W.Refused n) res is _ refl right

    pub piece_fits : (n : ℕ) → length piece ≡ n → (l : List ℕ) → n ≤ length out → l ≡ sets out 0 piece → Is (W.Bytes n) l
    piece_fits n len l h e =
        let whole : sets out 0 piece ≡ piece ++ drop (length piece) out = sets-eq piece out 0 (omega (arith, len)) ∙ rw zero-add in
        answers_granted num (length piece) out (piece ++ drop (length piece) out) (W.Bytes (length piece)) (λ k. W.Refused k) res is _ l
        (rw len) (e ∙ whole) right (omega (arith, len))

-- ## What each case results in

pub number_of : (n : ℕ) (piece : List ℕ) (room : ℕ) → written_number (written n piece room) ≡ or_else n (room_number (length piece) room)
number_of n piece room = granted_number (W.Bytes (length piece)) (λ k. W.Refused k) written_number (or_else n (room_number (length piece) room)) (λ z. refl) (λ k. refl)

module _ (n : ℕ) (piece out : List ℕ) where
  abbrev number : ℕ
  number = or_else n (room_number (length piece) (length out))

  pub stands : written_number (written n piece (length out)) ≡ 0
      → (written_length (written n piece (length out)) ≡ length piece) × (after n piece out ≡ piece ++ drop (length piece) out)
  stands h =
      let none : number ≡ 0 = sym (number_of n piece (length out)) ∙ h in (
        ap written_length (granted_none (W.Bytes (length piece)) (λ k. W.Refused k) number none),
        granted_none (piece ++ drop (length piece) out) (λ k. out) number none,
      )

  pub untouched : let a = written n piece (length out) in (written_number a ≡ 0 → ⊥)
      → (written_place a ≡ 0) × (written_length a ≡ 0) × (after n piece out ≡ out)
  untouched h =
      let some : number ≡ 0 → ⊥ = λ z. h (number_of n piece (length out) ∙ z) in
      let is = granted_refused (W.Bytes (length piece)) (λ k. W.Refused k) number some in (
        ap written_place is,
        ap written_length is,
        granted_refused (piece ++ drop (length piece) out) (λ k. out) number some,
      )
