-- The rules by words are the rules, effect by effect: this is proved once, over the bit's number.
use mathlib.Core.Path.{◌≡◌, refl, ap, sym}
use mathlib.Core.Bool.{Bool, true, false, not, ◌&&◌, ◌||◌}
use Prim.Native.Nat.{ℕ, ◌<◌, ◌≤◌}
use Rattle.bits.specs.Words.{word_of}
use Rattle.bits.proofs.Words.{and_word, or_word, less_word, word_of_ext}
use Rattle.rules.specs.declared.EffectState.{EffectState}
use Rattle.rules.specs.declared.EffectState.TheVariants.{Tripped, WaitReset, Ready, WaitStart, Normal, Delayed}
use Rattle.rules.specs.Signals.{Asks}
use Rattle.rules.specs.Rules.{same, rule}
use Rattle.rules.proofs.Answers.{both, all_states, every, every-at, states-at}
use Rattle.planes.specs.declared.Planes.{Planes}
use Rattle.planes.specs.Planes.{asked_of, planes_of, planes_after, changed_of, less16, to_tripped, to_wait, to_ready, to_start, to_normal, to_delayed, differ}

-- ## The formulas on one bit, computed for every case

-- the first without the second
without : Bool → Bool → Bool
without a b = a && not b

is : Bool → Bool → Bool
is true b = b
is false b = not b

is_eq : (a b : Bool) → is a b ≡ true → a ≡ b
unfolding is
is_eq true true t = refl
is_eq true false t = sym t
is_eq false true t = t
is_eq false false t = refl

abbrev goes_tripped : Asks → Bool → EffectState → Bool
goes_tripped a due p = to_tripped ◌&&◌ ◌||◌ without a.trip a.normal a.bad a.active a.delayed due (same p Tripped) (same p WaitReset) (same p Ready) (same p WaitStart) (same p Normal) (same p Delayed)

abbrev goes_wait : Asks → Bool → EffectState → Bool
goes_wait a due p = to_wait ◌&&◌ ◌||◌ without a.trip a.normal a.bad a.active a.require a.permit (same p Tripped) (same p WaitReset) (same p Ready)

abbrev goes_ready : Asks → Bool → EffectState → Bool
goes_ready a due p = to_ready ◌&&◌ ◌||◌ without a.trip a.normal a.bad a.active a.require a.permit a.reset (same p Tripped) (same p WaitReset) (same p Ready)

abbrev goes_start : Asks → Bool → EffectState → Bool
goes_start a due p = to_start ◌&&◌ ◌||◌ without a.trip a.normal a.bad a.active a.require a.permit a.start a.reset (same p Tripped) (same p Ready) (same p WaitStart)

abbrev goes_normal : Asks → Bool → EffectState → Bool
goes_normal a due p = to_normal ◌&&◌ ◌||◌ without a.trip a.normal a.bad a.active a.require a.permit a.start a.reset (same p Tripped) (same p Ready) (same p WaitStart) (same p Normal)

abbrev goes_delayed : Asks → Bool → EffectState → Bool
goes_delayed a due p = to_delayed ◌&&◌ ◌||◌ without a.trip a.normal a.bad a.active a.delayed due (same p Normal) (same p Delayed)

right : (Asks → Bool → EffectState → Bool) → EffectState → Asks → Bool → EffectState → Bool
right f q a due p = is (f a due p) (same (rule a due p) q)

tripped_all : every (right goes_tripped Tripped) ≡ true
unfolding both all_states every right is without
tripped_all = refl

wait_all : every (right goes_wait WaitReset) ≡ true
unfolding both all_states every right is without
wait_all = refl

ready_all : every (right goes_ready Ready) ≡ true
unfolding both all_states every right is without
ready_all = refl

start_all : every (right goes_start WaitStart) ≡ true
unfolding both all_states every right is without
start_all = refl

normal_all : every (right goes_normal Normal) ≡ true
unfolding both all_states every right is without
normal_all = refl

delayed_all : every (right goes_delayed Delayed) ≡ true
unfolding both all_states every right is without
delayed_all = refl

-- ## The formulas on words of n effects

abbrev planes : (T W R S N D : ℕ) → Planes
planes T W R S N D = record { tripped = T; wait_reset = W; ready = R; wait_start = S; normal = N; delayed = D }

planes_path : {T T' W W' R R' S S' N N' D D' : ℕ} → T ≡ T' → W ≡ W' → R ≡ R' → S ≡ S' → N ≡ N' → D ≡ D' → planes T W R S N D ≡ planes T' W' R' S' N' D'
planes_path a b c d e f = λ i. planes (a i) (b i) (c i) (d i) (e i) (f i)

-- states that agree below n give the same words
pub planes_of_ext : (n : ℕ) (f g : ℕ → EffectState) → ((i : ℕ) → i < n → f i ≡ g i) → planes_of n f ≡ planes_of n g
unfolding planes_of
planes_of_ext n f g h = planes_path (at Tripped) (at WaitReset) (at Ready) (at WaitStart) (at Normal) (at Delayed)
  where
    at : (q : EffectState) → word_of (λ i. same (f i) q) n ≡ word_of (λ i. same (g i) q) n
    at q = word_of_ext _ _ n (λ i k. ap (λ (p : EffectState). same p q) (h i k))

module _ (n : ℕ) (few : n ≤ 16) where
  without_word : (f g : ℕ → Bool) → less16 (word_of f n) (word_of g n) ≡ word_of (λ i. without (f i) (g i)) n
  unfolding without
  without_word f g = less_word f g n few

  abbrev word : (Asks → Bool → EffectState → Bool) → (ℕ → Asks) → (ℕ → Bool) → (ℕ → EffectState) → ℕ
  word f a due p = word_of (λ i. f (a i) (due i) (p i)) n

  -- a formula that is valid for every bit gives the word of the states that the rules give
  turn : (f : Asks → Bool → EffectState → Bool) (q : EffectState) → every (right f q) ≡ true → (a : ℕ → Asks) (due : ℕ → Bool) (p : ℕ → EffectState)
      → word f a due p ≡ word_of (λ i. same (rule (a i) (due i) (p i)) q) n
  unfolding right
  turn f q t a due p = word_of_ext _ _ n (λ i k. is_eq _ _ (every-at (right f q) t (a i) (due i) (p i)))

  -- the law: the rules by words give what the rules give effect by effect
  pub by_word : (a : ℕ → Asks) (due : ℕ → Bool) (p : ℕ → EffectState)
      → planes_after (asked_of n a) (word_of due n) (planes_of n p) ≡ planes_of n (λ i. rule (a i) (due i) (p i))
  unfolding planes_after planes_of asked_of
  by_word a due p =
      planes_path
      (simp (and_word, or_word, without_word) (turn goes_tripped Tripped tripped_all a due p))
      (simp (and_word, or_word, without_word) (turn goes_wait WaitReset wait_all a due p))
      (simp (and_word, or_word, without_word) (turn goes_ready Ready ready_all a due p))
      (simp (and_word, or_word, without_word) (turn goes_start WaitStart start_all a due p))
      (simp (and_word, or_word, without_word) (turn goes_normal Normal normal_all a due p))
      (simp (and_word, or_word, without_word) (turn goes_delayed Delayed delayed_all a due p))

  -- ## The effects that changed

  -- the formula on one bit, for two states
  abbrev differs : EffectState → EffectState → Bool
  differs p q =
      differ ◌&&◌ ◌||◌ without (same p Tripped) (same p WaitReset) (same p Ready) (same p WaitStart) (same p Normal) (same p Delayed)
      (same q Tripped) (same q WaitReset) (same q Ready) (same q WaitStart) (same q Normal) (same q Delayed)

  differs_all : all_states (λ p. all_states λ q. is (differs p q) (not (same q p))) ≡ true
  unfolding all_states is without
  differs_all = refl

  differs_eq : (p q : EffectState) → differs p q ≡ not (same q p)
  differs_eq p q = is_eq _ _ (states-at (λ q. is (differs p q) (not (same q p))) (states-at (λ p. all_states λ q. is (differs p q) (not (same q p))) differs_all p) q)

  pub changed_word : (f g : ℕ → EffectState) → changed_of (planes_of n f) (planes_of n g) ≡ word_of (λ i. not (same (g i) (f i))) n
  unfolding changed_of planes_of
  changed_word f g = simp (or_word, without_word) (word_of_ext _ _ n (λ i k. differs_eq (f i) (g i)))
