-- What is known as the reader goes from section to section: a section that passes has shown that its count and its entries are valid.
use mathlib.Core.Path.{◌≡◌, ◌∙◌}
use mathlib.Core.List.{List}
use Prim.Native.Nat.{ℕ, ◌+◌, ◌≤◌}
use native.Mathlib.Omega.{arith}
use borrow.Author.Tests.{eq-eqb, ne_eqb}
use lib.ListN.{length}
use Rattle.bits.specs.Numbers.{num_at}
use Rattle.settings.specs.declared.Settings.{Settings}
use Rattle.settings.specs.Right.{known_of}
use Rattle.layout.specs.Section.{Section}
use Rattle.layout.specs.Section as S
use Rattle.recording.specs.Answer as A
use Rattle.recording.specs.Answer.{Reading}
use Rattle.layout.specs.declared.Kind.TheVariants.{Block, Effects, Rows}
use Rattle.layout.specs.Sections.{width_of, section_of}
use Rattle.recording.specs.Refused.{Passes}
use Rattle.recording.specs.Reader.{from_section, nothing_known, known_of_block, settings_at, refusal, reading, after_block, after_effects, after_rows}
use Rattle.recording.proofs.Sections.{passes_inside, count-within}

-- a section that refuses ends the reading
pub from_refused : (x y : Section) (f g : ℕ → Reading) (n p : ℕ) → x ≡ y → x ≡ S.Refused n p → from_section x f ≡ from_section y g
from_refused x y f g n p e r = rw (← e, r)

-- ## What each section has shown

pub block_room : (s : List ℕ) (e : ℕ) → Passes Block nothing_known s 0 e → (e ≡ 6) × (6 ≤ length s)
block_room s e w =
    let c = count-within Block (num_at 2 s 0) w.count in
    let one : num_at 2 s 0 ≡ 1 = omega (arith, c.0, c.1) in
    let next : e ≡ 6 = rw one at w.next in
    (next, omega (arith, passes_inside Block nothing_known s 0 e w, next))

-- ## The reading, up to each section that passed

module _ (s : List ℕ) (e : ℕ) (b : section_of Block nothing_known s 0 ≡ S.Next e) where
  pub read-block : reading s ≡ after_block s e
  unfolding reading
  read-block = rw b

  module _ (r : ℕ) (f : section_of Effects (known_of_block s) s e ≡ S.Next r) where
    pub read_effects : reading s ≡ after_effects s e r
    read_effects = read-block ∙ rw f

    pub read-rows : (end : ℕ) → section_of Rows (known_of (settings_at s e)) s r ≡ S.Next end → reading s ≡ after_rows s e r end
    read-rows end g = read_effects ∙ rw g

-- ## The answer after the rows

pub accepted : (s : List ℕ) (e r end rows first width : ℕ) (st : Settings)
    → end ≡ length s → rows ≡ num_at 2 s r → first ≡ r + 2 → width ≡ width_of Rows → st ≡ settings_at s e
    → ◌≡◌ {A = Reading} (record { answer = A.Accepted rows first width; settings = st }) (after_rows s e r end)
accepted s e r end rows first width st h pr pf pw ps = rw (eq-eqb end (length s) h, pr, pf, pw, ps)

pub left_over : (s : List ℕ) (e r end : ℕ) → (end ≡ length s → ⊥) → refusal 7 end ≡ after_rows s e r end
left_over s e r end h = rw (ne_eqb end (length s) h)
