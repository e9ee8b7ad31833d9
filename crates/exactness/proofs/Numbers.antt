-- Which refusal numbers a file is given, and what each tells, by the five ways in which a reading can go.
use mathlib.Core.Path.{◌≡◌, refl, sym, ap, ◌∙◌}
use mathlib.Core.List.{List}
use mathlib.Core.Logic.{◌⊎◌, inl, inr}
use Prim.Native.Nat.{ℕ, ◌≤◌, ◌<◌}
use native.Mathlib.Omega.{arith}
use lib.ListN.{length, take}
use Rattle.bits.specs.Numbers.{Bytes}
use Rattle.settings.specs.Right.{known_of}
use Rattle.recording.specs.Answer.{Reading}
use Rattle.layout.specs.declared.Kind.TheVariants.{Block, Effects, Rows}
use Rattle.recording.specs.Reader.{nothing_known, known_of_block, settings_at, refusal, reading}
use Rattle.recording.specs.Answers.{number, place}
use Rattle.recording.specs.Encode.{encode}
use Rattle.recording.specs.Refused.{Refused}
use Rattle.exactness.proofs.Refusals.{Given, section_gives, file_gives, said_or_accepted}
use Rattle.exactness.proofs.Exact.{right_at, encoded_at, complete, rows_at}

module _ (s : List ℕ) where
  -- a file that is not accepted gives zeros beside its refusal number and place
  pub not_accepted_refused : (number (reading s).answer ≡ 0 → ⊥) → reading s ≡ refusal (number (reading s).answer) (place (reading s).answer)
  not_accepted_refused =
      said_or_accepted s (λ x. (number x.answer ≡ 0 → ⊥) → x ≡ refusal (number x.answer) (place x.answer)) (λ n p c h. refl) (λ e r t h. absurd (h refl))

  abbrev Numbered : (n p : ℕ) → Type 0
  Numbered n p = (n ≡ 0) ⊎ (((n ≡ 1) × (p ≡ length s)) ⊎ (((2 ≤ n) × (n ≤ 6)) ⊎ (n ≡ 7)))

  given : (n p : ℕ) → Given s n p ⊎ (n ≡ 7) → Numbered n p
  given n p (inl (inl h)) = inr (inl h)
  given n p (inl (inr h)) = inr (inr (inl h))
  given n p (inr h) = inr (inr (inr h))

  pub reading_numbers : Numbered (number (reading s).answer) (place (reading s).answer)
  reading_numbers = said_or_accepted s (λ x. Numbered (number x.answer) (place x.answer)) (λ n p c. given n p (file_gives s n p c)) (λ e r t. inl refl)

  not_seven : {X : Type 0} (n p : ℕ) → Given s n p → n ≡ 7 → X
  not_seven n p (inl h) e = absurd (omega (arith, h.0, e))
  not_seven n p (inr h) e = absurd (omega (arith, h.1, e))

  -- the bytes before spare bytes are accepted
  abbrev Spare : Reading → Type 0
  Spare x = number x.answer ≡ 7 → (place x.answer < length s) × (number (reading (take (place x.answer) s)).answer ≡ 0)

  spare_said : Bytes s → (n p : ℕ) → Refused s n p → Spare (refusal n p)
  spare_said bytes n p (Refused.in_block n' p' c) h = not_seven n' p' (section_gives Block nothing_known s 0 n' p' c) h
  spare_said bytes n p (Refused.in_effects n' p' e b c) h = not_seven n' p' (section_gives Effects (known_of_block s) s e n' p' c) h
  spare_said bytes n p (Refused.in_rows n' p' e r t c) h = not_seven n' p' (section_gives Rows (known_of (settings_at s e)) s r n' p' c) h
  spare_said bytes n p (Refused.spare e r end t l) h =
      let bs : encode (settings_at s e) (rows_at s r) ≡ take end s = encoded_at s e r end t bytes in
      let c = complete (settings_at s e) (rows_at s r) (right_at s e r end t) in
      (l, ap (λ (l : List ℕ). number (reading l).answer) (sym bs) ∙ ap (λ (x : Reading). number x.answer) c)

  pub before_spare : Bytes s → Spare (reading s)
  before_spare bytes = said_or_accepted s Spare (spare_said bytes) (λ e r t h. absurd (omega (arith, h)))
