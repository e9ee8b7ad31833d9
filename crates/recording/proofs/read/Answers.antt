-- `recording::read` meets its contract, from what its callees ensure and the tests on the way.
use Rattle.recording.proofs.Between.{from_refused, left_over, accepted, block_room, read-block, read_effects, read-rows}
use Rattle.recording.specs.Reader.{nothing_known, known_of_block, settings_at, reading, refusal}
use Rattle.recording.proofs.Sections.{section_next, passes_inside, count-within}
use Rattle.layout.specs.Sections.{section_of}
use Rattle.layout.specs.declared.Kind.TheVariants.{Block, Effects, Rows}
use Rattle.layout.specs.Section.{Section}
use Rattle.layout.specs.Section as S
use Rattle.settings.specs.Refusals.{number_of}
use Rattle.settings.specs.Right.{known_of}
use Rattle.settings.specs.declared.Settings.{Settings}
use Rattle.settings.specs.declared.Known.{Known}
use mathlib.Core.List.{List}
use mathlib.Core.Path.{◌≡◌, refl, sym, ap, ◌∙◌}
use Prim.Native.Nat.{ℕ}
use native.Mathlib.Omega.{arith}
use Rattle.recording.proofs.read.Goals as goal

-- ## What the calls gave, in terms of the bytes

module _ (s : List ℕ) (k : Known) (x : Section) where
  block_is : k ≡ nothing_known → x ≡ section_of Block k s 0 → x ≡ section_of Block nothing_known s 0
  block_is p q = q ∙ ap (λ (j : Known). section_of Block j s 0) p

  effects_are : (e : ℕ) → k ≡ known_of_block s → x ≡ section_of Effects k s e → x ≡ section_of Effects (known_of_block s) s e
  effects_are e p q = q ∙ ap (λ (j : Known). section_of Effects j s e) p

  rows_are : (e r : ℕ) (st : Settings) → st ≡ settings_at s e → k ≡ known_of st → x ≡ section_of Rows k s r → x ≡ section_of Rows (known_of (settings_at s e)) s r
  rows_are e r st h p q = q ∙ ap (λ (j : Known). section_of Rows j s r) (p ∙ ap known_of h)

-- ## The goals

pub returns-in_default : goal.returns-in_default
unfolding reading
returns-in_default c =
    let u = c.unwrap_err.result in
    let q = block_is c.args.s.now _ _ c.nothing_known.ensures (rw c.unwrap_err.ensures at c.read_section-block.ensures) in
    from_refused (S.Refused (number_of u.refusal) u.place) _ (λ at. refusal 0 at) _ _ _ q refl

pub known_of_block-requires : goal.known_of_block-requires
known_of_block-requires c =
    let s = c.args.s.now in
    let b = sym (block_is s _ (S.Next c.in-Ok.e) c.nothing_known.ensures c.in-Ok.ensures) in
    let k = block_room s c.in-Ok.e (section_next Block nothing_known s 0 _ b) in
    omega (arith, k.1)

pub read_section-effects-requires : goal.read_section-effects-requires
read_section-effects-requires c =
    let s = c.args.s.now in
    let b = sym (block_is s _ (S.Next c.in-Ok.e) c.nothing_known.ensures c.in-Ok.ensures) in
    let k = block_room s c.in-Ok.e (section_next Block nothing_known s 0 _ b) in
    omega (arith, k.0, k.1)

pub returns-in_default-effects : goal.returns-in_default-effects
returns-in_default-effects c =
    let s = c.args.s.now in
    let u = c.unwrap_err-in_default-effects.result in
    let b = sym (block_is s _ (S.Next c.in-Ok.e) c.nothing_known.ensures c.in-Ok.ensures) in
    let q = effects_are s _ _ c.in-Ok.e c.known_of_block.ensures (rw c.unwrap_err-in_default-effects.ensures at c.read_section-effects.ensures) in
    from_refused (S.Refused (number_of u.refusal) u.place) _ (λ at. refusal 0 at) _ _ _ q refl ∙ sym (read-block _ _ b)

pub settings_at-settings-requires : goal.settings_at-settings-requires
settings_at-settings-requires c =
    let s = c.args.s.now in
    let b = sym (block_is s _ (S.Next c.in-Ok.e) c.nothing_known.ensures c.in-Ok.ensures) in
    let k = block_room s c.in-Ok.e (section_next Block nothing_known s 0 _ b) in
    let f = sym (effects_are s _ (S.Next c.in-Ok-effects.r) c.in-Ok.e c.known_of_block.ensures c.in-Ok-effects.ensures) in
    let p = section_next Effects (known_of_block s) s _ _ f in
    (omega (arith, k.0), (count-within Effects _ p.count).1, omega (arith, p.entries.there))

pub read_section-rows-requires : goal.read_section-rows-requires
read_section-rows-requires c =
    let s = c.args.s.now in
    let f = sym (effects_are s _ (S.Next c.in-Ok-effects.r) c.in-Ok.e c.known_of_block.ensures c.in-Ok-effects.ensures) in
    passes_inside Effects (known_of_block s) s _ _ (section_next Effects (known_of_block s) s _ _ f)

pub returns-in_default-rows : goal.returns-in_default-rows
returns-in_default-rows c =
    let s = c.args.s.now in
    let u = c.unwrap_err-in_default-rows.result in
    let b = sym (block_is s _ (S.Next c.in-Ok.e) c.nothing_known.ensures c.in-Ok.ensures) in
    let f = sym (effects_are s _ (S.Next c.in-Ok-effects.r) c.in-Ok.e c.known_of_block.ensures c.in-Ok-effects.ensures) in
    let q = rows_are s _ _ c.in-Ok.e c.in-Ok-effects.r _ c.settings_at-settings.ensures c.known_of.ensures (rw c.unwrap_err-in_default-rows.ensures at c.read_section-rows.ensures) in
    from_refused (S.Refused (number_of u.refusal) u.place) _ (λ at. refusal 0 at) _ _ _ q refl ∙ sym (read_effects _ _ b _ f)

pub returns-then-end-s : goal.returns-then-end-s
returns-then-end-s c =
    let s = c.args.s.now in
    let b = sym (block_is s _ (S.Next c.in-Ok.e) c.nothing_known.ensures c.in-Ok.ensures) in
    let f = sym (effects_are s _ (S.Next c.in-Ok-effects.r) c.in-Ok.e c.known_of_block.ensures c.in-Ok-effects.ensures) in
    let g = sym (rows_are s _ (S.Next c.in-Ok-rows.end) c.in-Ok.e c.in-Ok-effects.r _ c.settings_at-settings.ensures c.known_of.ensures c.in-Ok-rows.ensures) in
    left_over s c.in-Ok.e c.in-Ok-effects.r c.in-Ok-rows.end (λ q. omega (arith, q, c.if-end-s.true)) ∙ sym (read-rows _ _ b _ f _ g)

pub get-requires : goal.get-requires
get-requires c =
    let s = c.args.s.now in
    let g = sym (rows_are s _ (S.Next c.in-Ok-rows.end) c.in-Ok.e c.in-Ok-effects.r _ c.settings_at-settings.ensures c.known_of.ensures c.in-Ok-rows.ensures) in
    (section_next Rows _ s _ _ g).room

pub overflow_add-result : goal.overflow_add-result
overflow_add-result c =
    let s = c.args.s.now in
    let g = sym (rows_are s _ (S.Next c.in-Ok-rows.end) c.in-Ok.e c.in-Ok-effects.r _ c.settings_at-settings.ensures c.known_of.ensures c.in-Ok-rows.ensures) in
    let k = (section_next Rows _ s _ _ g).room in
    omega (arith, k)

pub returns : goal.returns
returns c =
    let s = c.args.s.now in
    let b = sym (block_is s _ (S.Next c.in-Ok.e) c.nothing_known.ensures c.in-Ok.ensures) in
    let f = sym (effects_are s _ (S.Next c.in-Ok-effects.r) c.in-Ok.e c.known_of_block.ensures c.in-Ok-effects.ensures) in
    let g = sym (rows_are s _ (S.Next c.in-Ok-rows.end) c.in-Ok.e c.in-Ok-effects.r _ c.settings_at-settings.ensures c.known_of.ensures c.in-Ok-rows.ensures) in
    accepted s c.in-Ok.e c.in-Ok-effects.r c.in-Ok-rows.end _ _ _ _ (omega (arith, c.if-end-s.false)) c.get.ensures refl c.width_of.ensures c.settings_at-settings.ensures
    ∙ sym (read-rows _ _ b _ f _ g)
