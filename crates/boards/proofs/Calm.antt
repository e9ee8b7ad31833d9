-- After a scan that has changed no state, the next one changes none either, unless a delay runs out: the same is asked of it but for the
-- reset, and an effect that stays where it is with the reset stays there without it. This is computed at every answer to what the rules ask.
use mathlib.Core.Path.{◌≡◌, refl, ap, sym, ◌∙◌}
use mathlib.Core.Bool.{Bool, true, false, not, ◌||◌}
use Prim.Native.Nat.{ℕ, zero, suc, ◌+◌, ◌<◌, ◌≤◌}
use native.Mathlib.Nat.{lt_irrefl}
use native.Mathlib.Omega.{arith}
use borrow.Author.Tests.{eqb-true}
use lib.Dec.{eqb}
use Rattle.bits.specs.Words.{bit_of, one, word_of}
use Rattle.bits.proofs.Words.{bit_word_of, bit_none, word_of_ext}
use Rattle.rules.specs.declared.EffectState.{EffectState}
use Rattle.rules.specs.Signals.{Signals, Asks}
use Rattle.rules.specs.Rules.{same, rule, asks}
use Rattle.rules.proofs.Answers.{both, all_states, every, every-at}
use Rattle.rounds.specs.Steps.{clear}
use Rattle.planes.specs.declared.Asked.{Asked}
use Rattle.planes.specs.Planes.{asked_of, planes_of, planes_after, changed_of}
use Rattle.planes.proofs.ByWord.{by_word, changed_word}
use Rattle.boards.specs.Board.{unset}

-- ## One effect

-- what is asked, without the reset
abbrev cleared : Asks → Asks
cleared a =
    record {
      trip = a.trip;
      normal = a.normal;
      bad = a.bad;
      active = a.active;
      require = a.require;
      permit = a.permit;
      start = a.start;
      reset = false;
      delayed = a.delayed;
    }

-- the scan has changed the state, or the next one, in which nothing is due, leaves it
calm_test : Asks → Bool → EffectState → Bool
calm_test a due p = not (same (rule a due p) p) || same (rule (cleared a) false (rule a due p)) (rule a due p)

calm_all : every calm_test ≡ true
unfolding both all_states every calm_test
calm_all = refl

left_out : (a b : Bool) → (a || b) ≡ true → a ≡ false → not b ≡ false
left_out true true e f = refl
left_out true false e f = f
left_out false true e f = refl
left_out false false e f = sym e

calm_one : (a : Asks) (due : Bool) (p : EffectState) → not (same (rule a due p) p) ≡ false → not (same (rule (cleared a) false (rule a due p)) (rule a due p)) ≡ false
unfolding calm_test
calm_one a due p e = left_out (not (same (rule a due p) p)) _ (every-at calm_test calm_all a due p) e

-- ## All effects

no_more : (live : ℕ) (b : Bool) → live + one (not b) ≡ live → b ≡ true
no_more live true e = refl
no_more live false e = absurd (lt_irrefl live (omega (arith, e)))

-- a scan that is not live changes no state
pub not_live : (live changed : ℕ) → live + one (not (eqb changed 0)) ≡ live → changed ≡ 0
not_live live changed e = eqb-true changed 0 (no_more live (eqb changed 0) e)

pub none_word : (n : ℕ) → word_of (λ i. false) n ≡ 0
unfolding word_of
none_word zero = refl
none_word (suc n) = ap (λ (w : ℕ). w + 0) (none_word n)

pub unset_word : (n : ℕ) (s : ℕ → Signals) → unset (asked_of n (λ i. asks (s i))) ≡ asked_of n (λ i. asks (clear (s i)))
unfolding asked_of
unset_word n s = rw (none_word n)

-- of a word that is 0, no bit is set
none_in : (f : ℕ → Bool) (n : ℕ) → word_of f n ≡ 0 → (i : ℕ) → i < n → f i ≡ false
none_in f n e i k = sym (bit_word_of f n i k) ∙ ap (λ (w : ℕ). bit_of w i) e ∙ bit_none i

module _ (n : ℕ) (few : n ≤ 16) (s : ℕ → Signals) (due : ℕ → Bool) (p : ℕ → EffectState) where
  -- the states after the scan
  abbrev q : ℕ → EffectState
  q i = rule (asks (s i)) (due i) (p i)

  pub calm : changed_of (planes_of n p) (planes_of n q) ≡ 0
      → changed_of (planes_of n q) (planes_after (unset (asked_of n (λ i. asks (s i)))) 0 (planes_of n q)) ≡ 0
  calm e =
      let still : (i : ℕ) → i < n → not (same (q i) (p i)) ≡ false = none_in _ n (sym (changed_word n few p q) ∙ e) in
      let then : ℕ → EffectState = λ i. rule (cleared (asks (s i))) false (q i) in
      ap (changed_of (planes_of n q))
      (ap (λ (d : ℕ). planes_after (unset (asked_of n (λ i. asks (s i)))) d (planes_of n q)) (sym (none_word n))
      ∙ ap (λ (w : Asked). planes_after w (word_of (λ i. false) n) (planes_of n q)) (unset_word n s)
      ∙ by_word n few (λ i. asks (clear (s i))) (λ i. false) q)
      ∙ changed_word n few q then
      ∙ word_of_ext _ _ n (λ i k. calm_one (asks (s i)) (due i) (p i) (still i k))
      ∙ none_word n
