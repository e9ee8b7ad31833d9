-- A scan asks only of the effects in Delayed whether they are due.
use mathlib.Core.Path.{◌≡◌, refl, ap, sym, ◌∙◌, subst}
use mathlib.Core.Bool.{Bool, true, false, cond, not, ◌&&◌, and_self_left}
use mathlib.Core.List.{List}
use Prim.Native.Nat.{ℕ, ◌+◌, ◌-◌, ◌^◌, ◌<◌, ◌≤◌}
use native.Mathlib.Nat.{add-zero}
use lib.Bits.{bit_and}
use lib.Count.{count_trailing_zeros}
use Rattle.bits.specs.Words.{bit_of, word_of}
use Rattle.bits.proofs.Words.{word_of_lt, word_of_more, word_of_ext, word_bits, and_word, less_word}
use Rattle.planes.specs.declared.Asked.{Asked}
use Rattle.planes.specs.declared.Planes.{Planes}
use Rattle.planes.specs.Planes.{less16, planes_after, changed_of}
use Rattle.boards.specs.Table.{due_at, due_in}
use Rattle.boards.proofs.Bits.{Rests, Done, again, before-it, is_set}

-- ## The word of some effects in a word

module _ (n delayed : ℕ) (t : ℕ → Bool) where
  abbrev up_to : ℕ → ℕ
  up_to = word_of (λ i. bit_of delayed i && t i)

  pub word_rest : n ≤ 16 → delayed < 2 ^ n → Rests n delayed up_to
  word_rest few inside =
      record {
        few = few;
        inside = inside;
        same = λ j h e. word_of_more _ j ∙ ap (λ (b : Bool). up_to j + cond (b && t j) (2 ^ j) 0) e ∙ add-zero (up_to j);
      }

  module _ {word rest : ℕ} (d : Done n delayed up_to word rest) (more : 0 < rest) where
    abbrev k : ℕ
    k = count_trailing_zeros 16 rest

    pub no_higher : word < 2 ^ k
    no_higher = rw (before-it d more) (word_of_lt _ k)

    pub put : Done n delayed up_to (word + cond (t k) (2 ^ k) 0) (bit_and rest (rest - 1))
    put =
        again d more
        (ap (λ (w : ℕ). w + cond (t k) (2 ^ k) 0) (before-it d more)
        ∙ sym (word_of_more _ k ∙ ap (λ (b : Bool). up_to k + cond (b && t k) (2 ^ k) 0) (is_set d more)))

-- ## A scan asks this of no other effect

less_twice : (a b : Bool) → (a && not (a && b)) ≡ (a && not b)
less_twice true b = refl
less_twice false b = refl

module _ (n delayed : ℕ) (t : ℕ → Bool) (few : n ≤ 16) (inside : delayed < 2 ^ n) where
  abbrev f : ℕ → Bool
  f = bit_of delayed

  and_due : bit_and delayed (word_of (λ i. f i && t i) n) ≡ bit_and delayed (word_of t n)
  and_due =
      subst (λ (w : ℕ). bit_and w (word_of (λ i. f i && t i) n) ≡ bit_and w (word_of t n)) (word_bits delayed n inside)
      (and_word f (λ i. f i && t i) n ∙ word_of_ext _ _ n (λ i h. and_self_left (f i) (t i)) ∙ sym (and_word f t n))

  less_due : less16 delayed (word_of (λ i. f i && t i) n) ≡ less16 delayed (word_of t n)
  less_due =
      subst (λ (w : ℕ). less16 w (word_of (λ i. f i && t i) n) ≡ less16 w (word_of t n)) (word_bits delayed n inside)
      (less_word f (λ i. f i && t i) n few ∙ word_of_ext _ _ n (λ i h. less_twice (f i) (t i)) ∙ sym (less_word f t n few))

module _ (n period : ℕ) (timers : List ℕ) (w : Asked) (p : Planes) (few : n ≤ 16) (inside : p.delayed < 2 ^ n) where
  enough_due : planes_after w (word_of (due_in timers period p.delayed) n) p ≡ planes_after w (word_of (due_at timers period) n) p
  unfolding planes_after
  enough_due = rw (and_due n p.delayed (due_at timers period) few inside, less_due n p.delayed (due_at timers period) few inside)

  pub after_due : (due : ℕ) (q : Planes) → due ≡ word_of (due_in timers period p.delayed) n → q ≡ planes_after w due p
      → q ≡ planes_after w (word_of (due_at timers period) n) p
  after_due due q e f = f ∙ ap (λ (d : ℕ). planes_after w d p) e ∙ enough_due

  -- the effects that change are the same, whether the due word has all effects or those in Delayed alone
  pub changed_due : (due ch : ℕ) (q : Planes) → due ≡ word_of (due_in timers period p.delayed) n → q ≡ planes_after w due p → ch ≡ changed_of p q
      → changed_of p (planes_after w (word_of (due_at timers period) n) p) ≡ ch
  changed_due due ch q e f g = sym (g ∙ ap (changed_of p) (after_due due q e f))
