-- What follows from valid settings and from a valid row.
use mathlib.Core.Path.{◌≡◌, refl}
use mathlib.Core.Bool.{Bool, true, false, ◌&&◌}
use Prim.Native.Nat.{ℕ, ◌^◌, ◌≤◌, ◌<◌}
use native.Mathlib.Nat.{zero-add}
use native.Mathlib.Omega.{arith}
use borrow.Author.Tests.{leb-true, ltb-true, ltb-false, lt-ltb}
use lib.Dec.{leb, ltb}
use lib.ListN.{length, get_or, get_or-eq_default}
use lib.Pow.{pow_mono}
use Rattle.bits.specs.Lists.{all_from}
use Rattle.bits.proofs.Lists.{and_left, and_right, all-at}
use Rattle.settings.specs.declared.Effect.{Effect}
use Rattle.settings.specs.declared.Settings.{Settings}
use Rattle.settings.specs.declared.Known.{Known}
use Rattle.settings.specs.declared.Row.{Row}
use Rattle.settings.specs.declared.Words.{Words}
use Rattle.rules.specs.Limits.{most_hold}
use Rattle.settings.specs.Right.{block_ok, words_ok, fields_number, words_number, hold_number, row_number, block_number, count_ok, effect_ok, effects_number, known_of, settings_number, slot_ok}
use Rattle.settings.specs.Signals.{no_effect}
use Rattle.settings.proofs.Refusals.{or_else_none, unless_none}

module _ (st : Settings) (right : settings_number st ≡ 0) where
  parts : (block_number st.causes st.options st.period ≡ 0) × (effects_number st ≡ 0)
  unfolding settings_number
  parts = or_else_none _ _ right

  block_right : block_ok st.causes st.options st.period ≡ true
  block_right = unless_none _ 1 parts.0

  effects_right : (count_ok st.count && all_from (slot_ok (known_of st)) 0 st.effects) ≡ true
  effects_right = unless_none _ 2 parts.1

  pub count_few : st.count ≤ 16
  count_few = leb-true _ _ (and_right (leb 1 st.count) _ (and_left (count_ok st.count) _ effects_right))

  pub causes_few : st.causes ≤ 16
  causes_few =
      leb-true _ _ (and_right (leb 1 st.causes) _ (and_left (leb 1 st.causes && leb st.causes 16) _ (and_left (leb 1 st.causes && leb st.causes 16 && ltb st.options 8) _ (and_left (leb 1 st.causes && leb st.causes 16 && ltb st.options 8 && leb 1 st.period) _ block_right))))

  pub period_some : 1 ≤ st.period
  period_some =
      leb-true _ _ (and_right (leb 1 st.causes && leb st.causes 16 && ltb st.options 8) _ (and_left (leb 1 st.causes && leb st.causes 16 && ltb st.options 8 && leb 1 st.period) _ block_right))

  pub period_most : st.period ≤ 1000
  period_most = leb-true _ _ (and_right (leb 1 st.causes && leb st.causes 16 && ltb st.options 8 && leb 1 st.period) _ block_right)

  module _ (i : ℕ) (h : i < st.count) where
    abbrev e : Effect
    e = get_or st.effects i no_effect

    effect_right : i < length st.effects → effect_ok st.causes e ≡ true
    effect_right k =
        rw (zero-add, lt-ltb i st.count h) at (all-at (slot_ok (known_of st)) 0 st.effects no_effect (and_right (count_ok st.count) _ effects_right) i k)

    -- the association word of an effect has 16 bits
    pub association_lt : e.association < 65536
    association_lt = go (ltb i (length st.effects)) refl
      where
        go : (b : Bool) → ltb i (length st.effects) ≡ b → e.association < 65536
        go true k =
            let lt : e.association < 2 ^ st.causes =
            ltb-true _ _ (and_right (leb 1 e.association) _ (and_left (leb 1 e.association && ltb e.association (2 ^ st.causes)) _ (effect_right (ltb-true i (length st.effects) k))))
            in
            omega (arith, lt, pow_mono causes_few)
        go false k = rw (get_or-eq_default st.effects no_effect {n = i} (ltb-false i (length st.effects) k)) (omega arith)

-- the words of a valid row have only bits of existing effects
pub record Inside (n : ℕ) (w : Words) : Type 0 where
  pub require : w.require_reset < 2 ^ n
  pub permit : w.reset_permit < 2 ^ n
  pub start : w.start_permit < 2 ^ n
  pub reset : w.reset < 2 ^ n
  pub trip : w.force_trip < 2 ^ n
  pub normal : w.force_normal < 2 ^ n

-- of ten tests that all hold, those of the effects' words hold
of_ten : (a b c d e f g h i j : Bool) → (a && b && c && d && e && f && g && h && i && j) ≡ true
    → (d ≡ true) × (e ≡ true) × (f ≡ true) × (g ≡ true) × (i ≡ true) × (j ≡ true)
of_ten a b c d e f g h i j p =
    let p₉ = and_left (a && b && c && d && e && f && g && h && i) j p in
    let p₇ = and_left (a && b && c && d && e && f && g) h (and_left (a && b && c && d && e && f && g && h) i p₉) in
    let p₆ = and_left (a && b && c && d && e && f) g p₇ in
    let p₅ = and_left (a && b && c && d && e) f p₆ in
    let p₄ = and_left (a && b && c && d) e p₅ in (
      and_right (a && b && c) d p₄,
      and_right (a && b && c && d) e p₅,
      and_right (a && b && c && d && e) f p₆,
      and_right (a && b && c && d && e && f) g p₇,
      and_right (a && b && c && d && e && f && g && h) i p₉,
      and_right (a && b && c && d && e && f && g && h && i) j p,
    )

pub inside : (k : Known) (w : Words) → words_number k w ≡ 0 → Inside k.count w
unfolding words_number
inside k w e =
    let h =
    of_ten
    (ltb w.values (2 ^ k.causes))
    (ltb w.bad (2 ^ k.causes))
    (ltb w.mask (2 ^ k.causes))
    (ltb w.require_reset (2 ^ k.count))
    (ltb w.reset_permit (2 ^ k.count))
    (ltb w.start_permit (2 ^ k.count))
    (ltb w.reset (2 ^ k.count))
    (leb w.force_permit 1)
    (ltb w.force_trip (2 ^ k.count))
    (ltb w.force_normal (2 ^ k.count))
    (unless_none (words_ok k w) 3 (or_else_none (fields_number k w) _ e).0)
    in
    record {
      require = ltb-true _ _ h.0;
      permit = ltb-true _ _ h.1;
      start = ltb-true _ _ h.2;
      reset = ltb-true _ _ h.3;
      trip = ltb-true _ _ h.4;
      normal = ltb-true _ _ h.5;
    }

-- what follows from a valid row
module _ (k : Known) (row : Row) (right : row_number k row ≡ 0) where
  pub row_words : words_number k row.words ≡ 0
  unfolding row_number
  row_words = (or_else_none (hold_number row.hold) _ right).1

  hold_right : (leb 1 row.hold && leb row.hold most_hold) ≡ true
  unfolding row_number
  hold_right = unless_none _ 3 (or_else_none (hold_number row.hold) _ right).0

  pub hold_some : 1 ≤ row.hold
  hold_some = leb-true 1 row.hold (and_left _ _ hold_right)

  pub hold_most : row.hold ≤ most_hold
  hold_most = leb-true row.hold most_hold (and_right (leb 1 row.hold) _ hold_right)
