-- The opening piece: its bytes, its length, and the stores that write it, one run of stores after another.
use mathlib.Core.Path.{◌≡◌, refl, sym, ap, ◌∙◌}
use mathlib.Core.List.{List, [], ◌∷◌, ◌++◌, flat_map}
use Prim.Native.Nat.{ℕ, ◌+◌, ◌*◌}
use native.Mathlib.Nat.{zero-add}
use native.Mathlib.Omega.{arith}
use lib.ListN.{length, length-append}
use lib.Seq.{sets}
use Rattle.bits.specs.Numbers.{digits}
use Rattle.bits.specs.Layout.{pack}
use Rattle.bits.proofs.Lists.{length-flat_map}
use Rattle.bits.proofs.Numbers.{sets_then}
use Rattle.settings.specs.declared.Effect.{Effect}
use Rattle.settings.specs.declared.Row.{Row}
use Rattle.settings.specs.declared.Settings.{Settings}
use Rattle.layout.specs.Entries.{put_block, put_effect, put_row}
use Rattle.layout.specs.declared.Kind.TheVariants.{Rows}
use Rattle.layout.specs.Sections.{width_of}
use Rattle.recording.specs.Encode.{effects_of, opening, opening_length}

pub effect_length : (e : Effect) → length (put_effect e) ≡ 6
unfolding put_effect
effect_length e = refl

pub row_length : (r : Row) → length (put_row r) ≡ width_of Rows
unfolding put_row
row_length r = refl

module _ (st : Settings) (rows : ℕ) (count-is : length (effects_of st) ≡ st.count) where
  effects_length : length (flat_map put_effect (effects_of st)) ≡ 6 * st.count
  effects_length = length-flat_map put_effect 6 effect_length (effects_of st) ∙ ap (λ (n : ℕ). 6 * n) count-is

  abbrev front : List ℕ
  front = pack (2 ∷ 1 ∷ 1 ∷ 2 ∷ 2 ∷ []) (1 ∷ st.causes ∷ st.options ∷ st.period ∷ st.count ∷ [])

  in_parts : opening st rows ≡ front ++ flat_map put_effect (effects_of st) ++ digits 2 rows
  unfolding flat_map opening put_block
  in_parts = rw count-is

  pub opening-length : length (opening st rows) ≡ opening_length st
  opening-length =
      ap length in_parts
      ∙ omega (arith, length-append (front ++ flat_map put_effect (effects_of st)) (digits 2 rows), length-append front (flat_map put_effect (effects_of st)), effects_length)

  pub opening_stored : (l l₁ l₂ l₃ : List ℕ) → l₁ ≡ sets l 0 front → l₂ ≡ sets l₁ 8 (flat_map put_effect (effects_of st)) → l₃ ≡ sets l₂ (8 + 6 * st.count) (digits 2 rows)
      → l₃ ≡ sets l 0 (opening st rows)
  opening_stored l l₁ l₂ l₃ p₁ p₂ p₃ =
      let t = sets_then l l₁ l₂ 0 8 front (flat_map put_effect (effects_of st)) p₁ p₂ refl in
      let len : length (front ++ flat_map put_effect (effects_of st)) ≡ 8 + 6 * st.count =
      length-append front (flat_map put_effect (effects_of st)) ∙ omega (arith, effects_length)
      in
      let p : l₃ ≡ sets l₂ (0 + (8 + 6 * st.count)) (digits 2 rows) = rw zero-add p₃ in
      sets_then l l₂ l₃ 0 (8 + 6 * st.count) (front ++ flat_map put_effect (effects_of st)) (digits 2 rows) t p len ∙ ap (sets l 0) (sym in_parts)
