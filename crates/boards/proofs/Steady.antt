-- Between words that are those of states, an effect whose state is the same keeps its bit in every word.
use mathlib.Core.Path.{◌≡◌, refl, ap, sym, ◌∙◌}
use mathlib.Core.Bool.{Bool, true, false, not, false≢true}
use Prim.Native.Nat.{ℕ, ◌<◌, ◌≤◌}
use borrow.Author.Tests.{not-true, not-false}
use Rattle.rules.specs.declared.EffectState.{EffectState}
use Rattle.rules.specs.declared.EffectState.TheVariants.{Normal, Delayed}
use Rattle.rules.specs.Rules.{same}
use Rattle.rules.proofs.States.{same_eq}
use Rattle.bits.specs.Words.{bit_of, word_of}
use Rattle.bits.proofs.Words.{word_of_lt, bit_word_of}
use Rattle.planes.specs.Planes.{planes_of, changed_of}
use Rattle.planes.proofs.ByWord.{changed_word}
use Rattle.boards.specs.Table.{Steady}

module _ (n : ℕ) (few : n ≤ 16) (f g : ℕ → EffectState) where
  bit_changed : (i : ℕ) → i < n → bit_of (changed_of (planes_of n f) (planes_of n g)) i ≡ not (same (g i) (f i))
  bit_changed i h = ap (λ (w : ℕ). bit_of w i) (changed_word n few f g) ∙ bit_word_of (λ j. not (same (g j) (f j))) n i h

  -- an effect that is not among the changed ones has its state
  kept : (i : ℕ) → i < n → bit_of (changed_of (planes_of n f) (planes_of n g)) i ≡ false → f i ≡ g i
  kept i h e = sym (same_eq (g i) (f i) (not-false _ (sym (bit_changed i h) ∙ e)))

  -- and so its bit in the word of each state
  bit_kept : (s : EffectState) (i : ℕ) → i < n → bit_of (changed_of (planes_of n f) (planes_of n g)) i ≡ false
      → bit_of (word_of (λ j. same (f j) s) n) i ≡ bit_of (word_of (λ j. same (g j) s) n) i
  bit_kept s i h e =
      bit_word_of (λ j. same (f j) s) n i h ∙ ap (λ (p : EffectState). same p s) (kept i h e) ∙ sym (bit_word_of (λ j. same (g j) s) n i h)

  -- an effect that has changed to a state was not in it
  bit_entered : (s : EffectState) (i : ℕ) → i < n → bit_of (changed_of (planes_of n f) (planes_of n g)) i ≡ true
      → bit_of (word_of (λ j. same (g j) s) n) i ≡ true → bit_of (word_of (λ j. same (f j) s) n) i ≡ false
  bit_entered s i h c e = bit_word_of (λ j. same (f j) s) n i h ∙ go (same (f i) s) refl
    where
      there : same (g i) s ≡ true
      there = sym (bit_word_of (λ j. same (g j) s) n i h) ∙ e

      go : (b : Bool) → same (f i) s ≡ b → b ≡ false
      go false k = refl
      go true k =
          absurd
          (false≢true
          (sym (not-true (same (g i) (f i)) (sym (bit_changed i h) ∙ c)) ∙ ap (same (g i)) (same_eq (f i) s k) ∙ there))

  pub steady_states : Steady n (planes_of n f) (planes_of n g)
  unfolding planes_of
  steady_states = record {
    inside = rw (changed_word n few f g) (word_of_lt _ n);
    delayed = bit_kept Delayed;
    normal = bit_kept Normal;
    entered = bit_entered Delayed;
  }
