-- The scans of a hold after the first: with the reset word zero, the words are still valid, and the effects see the same except
-- for the reset.
use mathlib.Core.Path.{◌≡◌, refl, ap, sym, ◌∙◌}
use mathlib.Core.Bool.{Bool, true, ◌&&◌, ◌||◌}
use mathlib.Core.List.{List, [], ◌∷◌, map}
use Prim.Native.Nat.{ℕ, ◌^◌}
use borrow.Author.Tests.{lt-ltb}
use lib.Dec.{ltb}
use lib.ListN.{length, length-map, get_or-map}
use lib.Pow.{pow_pos}
use Rattle.bits.proofs.Lists.{and_left, and_right, map-tabulate, tabulate_ext}
use Rattle.bits.proofs.Words.{bit_none, word_of_ext}
use Rattle.rules.specs.Signals.{Signals}
use Rattle.rules.specs.Rules.{is_latent, is_exercised, no_signals}
use Rattle.effects.specs.Scan.{latent_word, any_exercised}
use Rattle.rounds.specs.Steps.{clear}
use Rattle.rounds.proofs.Effects.{Timed, timed_tabulate}
use Rattle.settings.specs.declared.Known.{Known}
use Rattle.settings.specs.declared.Settings.{Settings}
use Rattle.settings.specs.declared.Words.{Words}
use Rattle.settings.specs.Right.{settings_number, words_ok, fields_number, words_number, row_number}
use Rattle.settings.specs.Signals.{signals, signals_of}
use Rattle.settings.proofs.Refusals.{or_else_none, unless_none}
use Rattle.settings.proofs.Right.{period_some, period_most}
use Rattle.block.specs.Scan.{once}
use Rattle.block.specs.Held.{later}

-- ## Valid words

-- in a conjunction, one test is exchanged for another that holds, too
exchanged : (p r f t n r' : Bool) → (p && r && f && t && n) ≡ true → r' ≡ true → (p && r' && f && t && n) ≡ true
exchanged p r f t n r' e g =
    let e₁ = and_left (p && r && f && t) n e in
    let e₂ = and_left (p && r && f) t e₁ in
    let e₃ = and_left (p && r) f e₂ in
    rw (and_left p r e₃, g, and_right (p && r) f e₂, and_right (p && r && f) t e₁, and_right (p && r && f && t) n e)

pub later-right : (k : Known) (w : Words) → words_number k w ≡ 0 → words_number k (later w) ≡ 0
unfolding words_number
later-right k w e =
    let parts = or_else_none (fields_number k w) _ e in
    let ok = unless_none (words_ok k w) 3 parts.0 in
    rw (exchanged _ _ _ _ _ (ltb 0 (2 ^ k.count)) ok (lt-ltb 0 (2 ^ k.count) (pow_pos k.count))) parts.1

-- the words of a valid row are valid for a single scan
pub once_right : (k : Known) (w : Words) → words_number k w ≡ 0 → row_number k (once w) ≡ 0
unfolding row_number
once_right k w e = e

-- ## What the effects see

signals_at : (st : Settings) (w : Words) (i : ℕ) → signals_of st (later w) i ≡ clear (signals_of st w i)
unfolding signals_of
signals_at st w i = rw (bit_none i)

pub signals_later : (st : Settings) (w : Words) → signals st (later w) ≡ map clear (signals st w)
signals_later st w = tabulate_ext _ _ st.count (λ i h. signals_at st w i) ∙ sym (map-tabulate clear (signals_of st w) st.count)

-- the latent word and the exercised scans do not read the reset
pub latent_clear : (ss : List Signals) → latent_word (map clear ss) ≡ latent_word ss
latent_clear ss = rw (length-map ss clear) (word_of_ext _ _ (length ss) (λ i h. ap is_latent (get_or-map clear ss i no_signals)))

pub exercised_clear : (ss : List Signals) → any_exercised (map clear ss) ≡ any_exercised ss
exercised_clear [] = refl
exercised_clear (s ∷ ss) = ap (λ (b : Bool). is_exercised s || b) (exercised_clear ss)

-- every effect sees the period of the settings
pub signals_timed : (st : Settings) (w : Words) → settings_number st ≡ 0 → Timed (signals st w)
unfolding signals_of
signals_timed st w right = timed_tabulate (signals_of st w) st.count (λ i. (period_some st right, period_most st right))
