-- Bytes longer than a recording can be are answered by their first 49,259: the bytes of every section are among those, so none
-- is short, and at least one byte is left over.
use mathlib.Core.Path.{◌≡◌, refl, sym, ap, ◌∙◌}
use mathlib.Core.Bool.{Bool, true, false}
use mathlib.Core.List.{List}
use Prim.Native.Nat.{ℕ, zero, suc, ◌+◌, ◌*◌, ◌≤◌, ◌<◌}
use native.Mathlib.Nat.{mul-suc, mul-le-mul_left}
use native.Mathlib.Omega.{arith}
use borrow.Author.Tests.{le-leb}
use lib.ListN.{length, take}
use lib.Seq.{length-take-le}
use Rattle.bits.specs.Numbers.{num_at}
use Rattle.settings.specs.declared.Known.{Known}
use Rattle.settings.specs.Right.{known_of, effect_number, row_number}
use Rattle.layout.specs.Section as S
use Rattle.layout.specs.declared.Kind.{Kind}
use Rattle.layout.specs.declared.Kind.TheVariants.{Block, Effects, Rows}
use Rattle.layout.specs.Entries.{block_check}
use Rattle.layout.specs.Sections.{entries, width_of, most_of, count_ok, test_of, section_of}
use Rattle.recording.specs.Encode.{most_length}
use Rattle.recording.specs.Refused.{Passes}
use Rattle.recording.specs.Reader.{nothing_known, known_of_block, settings_at, reading}
use Rattle.recording.proofs.Sections.{section_count, section_entries, count-within}
use Rattle.exactness.proofs.Sections.{block_pass, effects_pass, rows_pass}
use Rattle.layout.proofs.Within.{num_front}
use Rattle.exactness.proofs.Entries.{block_front, effect_front, row_front}
use Rattle.recording.proofs.Between.{block_room, read-block, read_effects, read-rows, left_over}
use Rattle.recording.proofs.Cases.{reading_cases}

-- ## One section

entries_front : (test test' : ℕ → ℕ) (w len len' m n at : ℕ) → ((p : ℕ) → p + w ≤ m → test p ≡ test' p) → m ≤ len → m ≤ len' → at + w * n ≤ m
    → entries test w len n at ≡ entries test' w len' n at
entries_front test test' w len len' m zero at f h h' l = refl
entries_front test test' w len len' m (suc n) at f h h' l =
    let e : at + w * suc n ≡ at + w + w * n = omega (arith, mul-suc w n) in
    let here : at + w ≤ m = omega (arith, e) in
    rw (le-leb (at + w) len (omega (arith, here)), le-leb (at + w) len' (omega (arith, here)), f at here, entries_front test test' w len len' m n (at + w) f h h' (omega (arith, e)))

test_front : (kind : Kind) (k : Known) (m : ℕ) (s : List ℕ) (at : ℕ) → at + width_of kind ≤ m → test_of kind k s at ≡ test_of kind k (take m s) at
test_front Block k m s at h = ap block_check (sym (block_front m s at h))
test_front Effects k m s at h = ap (effect_number k.causes) (sym (effect_front m s at h))
test_front Rows k m s at h = ap (row_number k) (sym (row_front m s at h))

-- a section whose longest form ends by m
module _ (kind : Kind) (k : Known) (m : ℕ) (s : List ℕ) (at : ℕ) (long : m ≤ length s) (ends : at + 2 + width_of kind * most_of kind ≤ m) where
  count_front : num_at 2 s at ≡ num_at 2 (take m s) at
  count_front = sym (num_front m 2 s at (omega (arith, ends)))

  long-front : m ≤ length (take m s)
  long-front = omega (arith, length-take-le m s long)

  by_count : (b : Bool) → count_ok kind (num_at 2 s at) ≡ b → section_of kind k s at ≡ section_of kind k (take m s) at
  by_count false e =
      section_count _ _ _ _ _ s at (num_at 2 s at) (omega (arith, ends, long)) refl e
      ∙ sym (section_count _ _ _ _ _ (take m s) at (num_at 2 s at) (omega (arith, ends, long-front)) count_front e)
  by_count true e =
      let n = num_at 2 s at in
      let w = width_of kind in
      let most : w * n ≤ w * most_of kind = mul-le-mul_left w (count-within kind n e).1 in
      section_entries _ _ _ _ _ s at n (omega (arith, ends, long)) refl e
      ∙ entries_front (test_of kind k s) (test_of kind k (take m s)) w (length s) (length (take m s)) m n (at + 2) (test_front kind k m s) long long-front (omega (arith, most, ends))
      ∙ sym (section_entries _ _ _ _ _ (take m s) at n (omega (arith, ends, long-front)) count_front e)

  section_front : section_of kind k s at ≡ section_of kind k (take m s) at
  section_front = by_count (count_ok kind (num_at 2 s at)) refl

-- ## The file

module _ (s : List ℕ) (long : most_length < length s) where
  abbrev front : List ℕ
  front = take (most_length + 1) s

  block_same : section_of Block nothing_known s 0 ≡ section_of Block nothing_known front 0
  block_same = section_front Block nothing_known (most_length + 1) s 0 long (omega arith)

  known_of_block_same : known_of_block s ≡ known_of_block front
  known_of_block_same =
      let c = num_front (most_length + 1) 1 s 2 (omega arith) in
      let o = num_front (most_length + 1) 1 s 3 (omega arith) in
      λ i. record { causes = sym c i; count = 0; options = sym o i }

  module _ (e : ℕ) (b : Passes Block nothing_known s 0 e) where
    six : e ≡ 6
    six = (block_room s e b).0

    block_there : section_of Block nothing_known front 0 ≡ S.Next e
    block_there = sym block_same ∙ block_pass s e b

    effects_same : section_of Effects (known_of_block s) s e ≡ section_of Effects (known_of_block front) front e
    effects_same =
        section_front Effects (known_of_block s) (most_length + 1) s e long (omega (arith, six)) ∙ ap (λ (k : Known). section_of Effects k front e) known_of_block_same

    known_same : known_of (settings_at s e) ≡ known_of (settings_at front e)
    known_same =
        let n = num_front (most_length + 1) 2 s e (omega (arith, six)) in
        λ i. record { causes = (known_of_block_same i).causes; count = sym n i; options = (known_of_block_same i).options }

    module _ (r : ℕ) (f : Passes Effects (known_of_block s) s e r) where
      effects_there : section_of Effects (known_of_block front) front e ≡ S.Next r
      effects_there = sym effects_same ∙ effects_pass s e r f

      rows-by : r ≤ 104
      rows-by = omega (arith, six, (count-within Effects (num_at 2 s e) f.count).1, f.next)

      rows_same : section_of Rows (known_of (settings_at s e)) s r ≡ section_of Rows (known_of (settings_at front e)) front r
      rows_same =
          section_front Rows (known_of (settings_at s e)) (most_length + 1) s r long (omega (arith, rows-by)) ∙ ap (λ (k : Known). section_of Rows k front r) known_same

      end_by : (end : ℕ) → Passes Rows (known_of (settings_at s e)) s r end → end ≤ most_length
      end_by end g = omega (arith, rows-by, (count-within Rows (num_at 2 s r) g.count).1, g.next)

  pub reading_of_front : reading s ≡ reading front
  unfolding reading
  reading_of_front =
      reading_cases s (λ x. x ≡ reading front)
      (λ k p b. rw (← block_same, b))
      (λ e k p b f. sym (read-block front e (block_there e b) ∙ rw (← effects_same e b, f)))
      (λ e r k p t g. sym (read_effects front e (block_there e t.block) r (effects_there e t.block r t.effects) ∙ rw (← rows_same e t.block r t.effects, g)))
      (λ e r end t d.
      let b = t.before.block in
      let f = t.before.effects in
      left_over front e r end (λ q. omega (arith, q, end_by e b r f end t.rows, length-take-le (most_length + 1) s long))
      ∙ sym (read-rows front e (block_there e b) r (effects_there e b r f) end (sym (rows_same e b r f) ∙ rows_pass s e r end t.rows)))
      (λ e r t. let h = end_by e t.before.block r t.before.effects (length s) t.rows in absurd (omega (arith, h)))
