-- The words that a row gives are those of what the effects see.
use mathlib.Core.Path.{◌≡◌, refl, ap, ap₂, sym, ◌∙◌}
use mathlib.Core.Bool.{Bool, true, false, cond, not, ◌||◌, or_assoc, or-false}
use mathlib.Core.List.{List, [], ◌∷◌, ◌++◌}
use Prim.Native.Nat.{ℕ, zero, suc, ◌^◌, ◌<◌, ◌≤◌}
use native.Mathlib.Nat.{lt_of_lt_of_le}
use native.Mathlib.Omega.{arith}
use borrow.Author.Tests.{lt-ltb, ne_eqb}
use lib.Bits.{bit_and, bit_or, and_comm}
use lib.Dec.{eqb, ltb}
use lib.ListN.{get_or}
use lib.Pow.{pow_pos}
use Rattle.bits.specs.Lists.{tabulate}
use Rattle.bits.specs.Words.{word_of}
use Rattle.bits.proofs.Lists.{length-tabulate, tabulate_ext, get_or-tabulate}
use Rattle.bits.proofs.Words.{bit_if, word_of_ext, word_bits, and_word, or_word, and-or, some_or}
use Rattle.rules.specs.declared.EffectState.{EffectState}
use Rattle.rules.specs.declared.EffectState.TheVariants.{Tripped, WaitReset, Ready, WaitStart, Normal, Delayed}
use Rattle.rules.specs.declared.Seen.{Seen}
use Rattle.rules.specs.Signals.{Signals}
use Rattle.rules.specs.declared.Slot.{Slot}
use Rattle.rules.specs.Rules.{no_slot, no_signals, asks, same, is_on, is_latent, is_exercised}
use Rattle.effects.specs.Scan.{effect_word, latent_word, any_exercised}
use Rattle.planes.specs.declared.Asked.{Asked}
use Rattle.planes.specs.Planes.{planes_of, asked_of}
use Rattle.boards.specs.Table.{watched_by, blamed, table_of}
use Rattle.boards.specs.Board.{signals_by, signals_in}
use Rattle.boards.proofs.Quiet.{any_to}
use Rattle.settings.specs.declared.Settings.{Settings}
use Rattle.settings.specs.declared.Words.{Words}
use Rattle.settings.specs.Right.{known_of, settings_number, words_number}
use Rattle.settings.specs.Causes.{seen_of}
use Rattle.settings.specs.Signals.{forces_count, signals, signals_of}
use Rattle.settings.proofs.Right.{count_few, association_lt, inside}
use Rattle.plans.specs.Plans.{association_at, delay_at, associations_of, delays_of, union_to, plan_of}
use Rattle.wiring.specs.Wiring.{watched_of, asked_by}
use Rattle.wiring.proofs.Watched.{in-union, and_watched, some_watched}

signals_path : {a a' b b' : ℕ} {t t' m m' q p s r : Bool} {d d' e : ℕ} → a ≡ a' → b ≡ b' → t ≡ t' → m ≡ m' → d ≡ d'
    → ◌≡◌ {A = Signals} (record { active = a; bad = b; trip = t; normal = m; require = q; permit = p; start = s; reset = r; delay = d; period = e })
    (record { active = a'; bad = b'; trip = t'; normal = m'; require = q; permit = p; start = s; reset = r; delay = d'; period = e })
signals_path {q = q} {p = p} {s = s} {r = r} {e = e} ea eb et em ed =
    λ i. record { active = ea i; bad = eb i; trip = et i; normal = em i; require = q; permit = p; start = s; reset = r; delay = ed i; period = e }

asked_path : {t t' m m' b b' a a' q q' p p' s s' r r' d d' : ℕ} → t ≡ t' → m ≡ m' → b ≡ b' → a ≡ a' → q ≡ q' → p ≡ p' → s ≡ s' → r ≡ r' → d ≡ d'
    → ◌≡◌ {A = Asked} (record { force_trip = t; force_normal = m; bad_trip = b; active = a; require_reset = q; reset_permit = p; start_permit = s; reset = r; with_delay = d })
    (record { force_trip = t'; force_normal = m'; bad_trip = b'; active = a'; require_reset = q'; reset_permit = p'; start_permit = s'; reset = r'; with_delay = d' })
asked_path et em eb ea eq ep es er ed =
    λ i. record { force_trip = et i; force_normal = em i; bad_trip = eb i; active = ea i; require_reset = eq i; reset_permit = ep i; start_permit = es i; reset = er i; with_delay = ed i }

lt_if : (b : Bool) (w n : ℕ) → w < 2 ^ n → cond b w 0 < 2 ^ n
lt_if true w n h = h
lt_if false w n h = pow_pos n

module _ (st : Settings) (right : settings_number st ≡ 0) (w : Words) (words : words_number (known_of st) w ≡ 0) where
  abbrev n : ℕ
  n = st.count

  -- what is seen of all causes, and of those that any effect watches
  abbrev all : Seen
  all = seen_of st.options w

  abbrev seen : Seen
  seen = watched_of (plan_of st) w

  abbrev asked : Asked
  asked = asked_by (plan_of st) (associations_of st) seen w

  abbrev shown : ℕ → Signals
  shown = signals_by (associations_of st) (delays_of st) st.period seen asked

  few : n ≤ 16
  few = count_few st right

  -- effect i sees of the causes those in its association word, although those that no effect watches are left out
  watched_is : (causes i : ℕ) → i < n → watched_by (associations_of st) (bit_and causes (plan_of st).watched) i ≡ bit_and (association_at st i) causes
  unfolding plan_of
  watched_is causes i k =
      ap (λ (a : ℕ). bit_and a (bit_and causes (union_to (association_at st) n))) (get_or-tabulate (association_at st) 16 i 0 (lt_of_lt_of_le k few))
      ∙ and_watched (association_at st i) causes (union_to (association_at st) n) (association_lt st right i k) (λ j e. in-union (association_at st) n i j k e)

  -- effect i sees what the words show
  sees : (i : ℕ) → i < n → shown i ≡ signals_of st w i
  unfolding signals_by signals_of asked_by plan_of
  sees i k =
      signals_path
      (watched_is all.tripped i k)
      (watched_is all.bad i k)
      (bit_if (forces_count st.options w) w.force_trip i)
      (bit_if (forces_count st.options w) w.force_normal i)
      (get_or-tabulate (delay_at st) 16 i 0 (lt_of_lt_of_le k few))

  pub signals_are : signals_in n (associations_of st) (delays_of st) st.period seen asked ≡ signals st w
  signals_are = tabulate_ext shown (signals_of st w) n sees

  -- the words that are asked are those of what they show
  pub asked_right : asked ≡ asked_of n (λ i. asks (shown i))
  unfolding asked_of signals_by asked_by plan_of
  asked_right =
      let h = inside (known_of st) w words in
      let c = forces_count st.options w in
      asked_path
      (sym (word_bits _ n (lt_if c w.force_trip n h.trip)))
      (sym (word_bits _ n (lt_if c w.force_normal n h.normal)))
      refl
      refl
      (sym (word_bits _ n h.require))
      (sym (word_bits _ n h.permit))
      (sym (word_bits _ n h.start))
      (sym (word_bits _ n h.reset))
      (word_of_ext _ _ n (λ i k. ap (ltb 0) (sym (get_or-tabulate (delay_at st) 16 i 0 (lt_of_lt_of_le k few)))))

-- ## The words that are reported

on-all : (p : EffectState) → (same p Normal || same p Delayed) ≡ is_on p
on-all Tripped = refl
on-all WaitReset = refl
on-all Ready = refl
on-all WaitStart = refl
on-all Normal = refl
on-all Delayed = refl

-- the effect word, from the words of the states
pub effect_is : (m : ℕ) (xs : List Slot) → bit_or (table_of m xs).planes.normal (table_of m xs).planes.delayed ≡ effect_word m xs
unfolding table_of planes_of
effect_is m xs = or_word _ _ m ∙ word_of_ext _ _ m (λ i k. on-all (get_or xs i no_slot).state)

-- the latent word, from what is asked
pub latent_is : (m : ℕ) (s : ℕ → Signals)
    → bit_and (asked_of m (λ i. asks (s i))).force_normal (bit_or (asked_of m (λ i. asks (s i))).active (asked_of m (λ i. asks (s i))).bad_trip) ≡ latent_word (tabulate s m)
unfolding asked_of
latent_is m s =
    simp (or_word, and_word)
    (word_of_ext _ _ m (λ i k. ap is_latent (sym (get_or-tabulate s m i no_signals k))) ∙ ap (word_of (λ i. is_latent (get_or (tabulate s m) i no_signals))) (sym (length-tabulate s m)))

-- ## Whether an effect is exercised

exercised_snoc : (ss : List Signals) (s : Signals) → any_exercised (ss ++ (s ∷ [])) ≡ (any_exercised ss || is_exercised s)
exercised_snoc [] s = or-false (is_exercised s)
exercised_snoc (r ∷ ss) s = ap (λ (b : Bool). is_exercised r || b) (exercised_snoc ss s) ∙ sym (or_assoc (is_exercised r) (any_exercised ss) (is_exercised s))

exercised_upto : (s : ℕ → Signals) (m : ℕ) → any_to (λ i. is_exercised (s i)) m ≡ any_exercised (tabulate s m)
unfolding any_to tabulate
exercised_upto s zero = refl
exercised_upto s (suc m) = ap (λ (b : Bool). b || is_exercised (s m)) (exercised_upto s m) ∙ sym (exercised_snoc (tabulate s m) (s m))

any_ext : (f g : ℕ → Bool) (m : ℕ) → ((i : ℕ) → f i ≡ g i) → any_to f m ≡ any_to g m
unfolding any_to
any_ext f g zero e = refl
any_ext f g (suc m) e = ap₂ ◌||◌ (any_ext f g m e) (e m)

not_none : (w : ℕ) → not (eqb w 0) ≡ ltb 0 w
not_none zero = refl
not_none (suc w) = ap not (ne_eqb (suc w) 0 (λ e. absurd (omega (arith, e)))) ∙ sym (lt-ltb 0 (suc w) (omega arith))

-- some effect is exercised if and only if a cause is seen that one of them watches
module _ (st : Settings) (w : Words) where
  abbrev causes : ℕ
  causes = blamed (seen_of st.options w)

  sees_one : (i : ℕ) → ltb 0 (bit_and (association_at st i) causes) ≡ is_exercised (signals_of st w i)
  unfolding signals_of
  sees_one i =
      let a = association_at st i in
      let v = seen_of st.options w in
      ap (ltb 0) (and-or a v.tripped v.bad) ∙ some_or (bit_and a v.tripped) (bit_and a v.bad)

  abbrev watched : ℕ
  watched = blamed (watched_of (plan_of st) w)

  watched_of_all : watched ≡ bit_and causes (plan_of st).watched
  unfolding plan_of
  watched_of_all =
      let u = union_to (association_at st) st.count in
      let v = seen_of st.options w in
      ap₂ bit_or (and_comm v.tripped u) (and_comm v.bad u) ∙ sym (and-or u v.tripped v.bad) ∙ and_comm u causes

  pub exercised_is : not (eqb watched 0) ≡ any_exercised (signals st w)
  unfolding plan_of
  exercised_is =
      not_none watched ∙ ap (ltb 0) watched_of_all ∙ some_watched (association_at st) causes st.count
      ∙ any_ext _ _ st.count sees_one ∙ exercised_upto (signals_of st w) st.count
