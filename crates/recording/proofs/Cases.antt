-- The five ways in which a reading can go: refused in the block, the effects or the rows, bytes left over, or accepted.
-- Each section results in one of two cases, and so does the last test.
use mathlib.Core.Path.{◌≡◌, refl, subst}
use mathlib.Core.Bool.{Bool, true, false}
use mathlib.Core.List.{List}
use Prim.Native.Nat.{ℕ, ◌+◌, ◌*◌}
use native.Mathlib.Omega.{arith}
use borrow.Author.Tests.{eqb-true, eqb-false}
use lib.Dec.{eqb}
use lib.ListN.{length}
use Rattle.bits.specs.Numbers.{num_at}
use Rattle.settings.specs.Right.{known_of}
use Rattle.layout.specs.Section.{Section}
use Rattle.layout.specs.Section as S
use Rattle.recording.specs.Answer as A
use Rattle.recording.specs.Answer.{Reading}
use Rattle.layout.specs.declared.Kind.TheVariants.{Block, Effects, Rows}
use Rattle.layout.specs.Sections.{width_of, section_of}
use Rattle.recording.specs.Refused.{Passes, ToRows, ToEnd}
use Rattle.recording.specs.Reader.{from_section, nothing_known, known_of_block, settings_at, refusal, reading, after_block, after_effects, after_rows}
use Rattle.recording.proofs.Sections.{section_next}

abbrev pub acceptance : List ℕ → (e r : ℕ) → Reading
acceptance s e r = record { answer = A.Accepted (num_at 2 s r) (r + 2) (width_of Rows); settings = settings_at s e }

-- what holds in each of the five ways holds of the reading
module _ (s : List ℕ) (P : Reading → Type 0)
    (block_stops : (k p : ℕ) → section_of Block nothing_known s 0 ≡ S.Refused k p → P (refusal k p))
    (effects_stop : (e k p : ℕ) → Passes Block nothing_known s 0 e → section_of Effects (known_of_block s) s e ≡ S.Refused k p → P (refusal k p))
    (rows-stop : (e r k p : ℕ) → ToRows s e r → section_of Rows (known_of (settings_at s e)) s r ≡ S.Refused k p → P (refusal k p))
    (spare : (e r end : ℕ) → ToEnd s e r end → (end ≡ length s → ⊥) → P (refusal 7 end))
    (accepts : (e r : ℕ) → ToEnd s e r (length s) → P (acceptance s e r)) where
  at-end : (e r end : ℕ) (d : Bool) → eqb end (length s) ≡ d → ToEnd s e r end → P (after_rows s e r end)
  at-end e r end false q t = rw q (spare e r end t (eqb-false end (length s) q))
  at-end e r end true q t =
      let same = eqb-true end (length s) q in
      rw q (accepts e r (record { before = t.before; rows = subst (Passes Rows (known_of (settings_at s e)) s r) same t.rows }))

  at_rows : (e r : ℕ) (x : Section) → section_of Rows (known_of (settings_at s e)) s r ≡ x → ToRows s e r → P (from_section x (after_rows s e r))
  at_rows e r (S.Refused k p) g t = rows-stop e r k p t g
  at_rows e r (S.Next end) g t = at-end e r end (eqb end (length s)) refl (record { before = t; rows = section_next Rows (known_of (settings_at s e)) s r end g })

  at_effects : (e : ℕ) (x : Section) → section_of Effects (known_of_block s) s e ≡ x → Passes Block nothing_known s 0 e → P (from_section x (after_effects s e))
  at_effects e (S.Refused k p) f b = effects_stop e k p b f
  at_effects e (S.Next r) f b = at_rows e r (section_of Rows (known_of (settings_at s e)) s r) refl (record { block = b; effects = section_next Effects (known_of_block s) s e r f })

  at_block : (x : Section) → section_of Block nothing_known s 0 ≡ x → P (from_section x (after_block s))
  at_block (S.Refused k p) b = block_stops k p b
  at_block (S.Next e) b = at_effects e (section_of Effects (known_of_block s) s e) refl (section_next Block nothing_known s 0 e b)

  pub reading_cases : P (reading s)
  unfolding reading
  reading_cases = at_block (section_of Block nothing_known s 0) refl

-- a refusal is not an acceptance
pub not_accepted : {X : Type 0} (k p n f w : ℕ) → A.Refused k p ≡ A.Accepted n f w → X
not_accepted k p n f w h = let y : ◌≡◌ {A = ℕ} 0 1 = cc in absurd (omega arith)

pub accepted_width : (s : List ℕ) (n f w : ℕ) → (reading s).answer ≡ A.Accepted n f w → w ≡ width_of Rows
accepted_width s n f w =
    reading_cases s (λ x. x.answer ≡ A.Accepted n f w → w ≡ width_of Rows)
    (λ k p b h. not_accepted k p n f w h)
    (λ e k p b g h. not_accepted k p n f w h)
    (λ e r k p t g h. not_accepted k p n f w h)
    (λ e r end t d h. not_accepted 7 end n f w h)
    (λ e r t h. cc)

-- an accepted file ends with its last row
pub accepted_end : (s : List ℕ) (n f w : ℕ) → (reading s).answer ≡ A.Accepted n f w → length s ≡ f + width_of Rows * n
accepted_end s n f w =
    reading_cases s (λ x. x.answer ≡ A.Accepted n f w → length s ≡ f + width_of Rows * n)
    (λ k p b h. not_accepted k p n f w h)
    (λ e k p b g h. not_accepted k p n f w h)
    (λ e r k p t g h. not_accepted k p n f w h)
    (λ e r end t d h. not_accepted 7 end n f w h)
    (λ e r t h.
    let first : r + 2 ≡ f = cc in
    let many : num_at 2 s r ≡ n = cc in
    rw (← first, ← many) t.rows.next)
