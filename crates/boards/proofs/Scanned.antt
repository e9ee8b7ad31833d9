-- The records of a scan by words are those of the slots.
use mathlib.Core.Path.{◌≡◌, refl, ap, ap₂, sym, ◌∙◌}
use mathlib.Core.Bool.{Bool, true, false, cond, ◌||◌}
use mathlib.Core.List.{List, [], ◌∷◌, ◌++◌, flat_map, append-nil, append_assoc}
use Prim.Native.Nat.{ℕ, zero, suc, ◌+◌, ◌*◌, ◌%◌, ◌^◌, ◌<◌, ◌≤◌}
use native.Mathlib.Nat.{le_of_suc-le-suc, not-suc-le-zero, lt_of_lt_of_le, add-zero, add-suc, suc-add, mod-eq_of_lt}
use native.Mathlib.Numerals.{add-one}
use native.Mathlib.Omega.{arith}
use lib.ListN.{get_or, length, length-append}
use lib.Pow.{pow_mono}
use Rattle.bits.specs.Lists.{tabulate}
use Rattle.bits.specs.Words.{bit_of, word_of, one}
use Rattle.bits.proofs.Lists.{length-tabulate, flat_map_snoc}
use Rattle.bits.proofs.Words.{word_of_lt, one_word_of, bit_word_of, bit_past, or_word}
use Rattle.rules.specs.declared.EffectState.{EffectState}
use Rattle.rules.specs.declared.EffectState.TheVariants.{Tripped, WaitReset, Ready, WaitStart, Normal, Delayed}
use Rattle.rules.specs.declared.Slot.{Slot}
use Rattle.rules.specs.Signals.{Signals}
use Rattle.rules.specs.Rules.{no_slot, code, same, next, moved}
use Rattle.effects.specs.declared.Event.{Event}
use Rattle.effects.specs.Records.{record_of, encode, bytes}
use Rattle.effects.specs.Scan.{events_from, seq_after, only, event, wrapped}
use Rattle.planes.specs.declared.Planes.{Planes}
use Rattle.planes.specs.Planes.{planes_of, code_at}
use Rattle.boards.specs.Table.{padded, entry_at, entries_to, joined}
use Rattle.boards.proofs.Bits.{passed}
use Rattle.boards.proofs.Picked.{picked_none, picked_yes, picked_no}
use Rattle.boards.proofs.Records.{joined_snoc, entries_rest}
use Rattle.boards.proofs.Step.{padded_at}

-- ## The code of a state

code_bits : (p : EffectState)
    → one ((same p WaitReset || same p WaitStart) || same p Delayed) + 2 * one (same p Ready || same p WaitStart) + 4 * one (same p Normal || same p Delayed) ≡ code p
code_bits Tripped = refl
code_bits WaitReset = refl
code_bits Ready = refl
code_bits WaitStart = refl
code_bits Normal = refl
code_bits Delayed = refl

code_word : (n : ℕ) (f : ℕ → EffectState) (i : ℕ) → i < n → code_at (planes_of n f) i ≡ code (f i)
unfolding code_at planes_of
code_word n f i k =
    rw (
      or_word (λ j. same (f j) WaitReset) (λ j. same (f j) WaitStart) n,
      or_word (λ j. same (f j) WaitReset || same (f j) WaitStart) (λ j. same (f j) Delayed) n,
      or_word (λ j. same (f j) Ready) (λ j. same (f j) WaitStart) n,
      or_word (λ j. same (f j) Normal) (λ j. same (f j) Delayed) n,
      one_word_of (λ j. (same (f j) WaitReset || same (f j) WaitStart) || same (f j) Delayed) n i k,
      one_word_of (λ j. same (f j) Ready || same (f j) WaitStart) n i k,
      one_word_of (λ j. same (f j) Normal || same (f j) Delayed) n i k,
    ) (code_bits (f i))

-- ## The recursions on lists, with one element more at the end

events_snoc : (q c i : ℕ) (ss : List Signals) (s : Signals) (xs : List Slot) → length ss < length xs
    → events_from q c i (ss ++ (s ∷ [])) xs
    ≡ events_from q c i ss xs ++ only (moved s (get_or xs (length ss) no_slot)) (event (seq_after q ss xs) c (i + length ss) s (get_or xs (length ss) no_slot))
events_snoc q c i [] s [] h = absurd (not-suc-le-zero h)
events_snoc q c i [] s (x ∷ xs) h = rw add-zero (append-nil (only (moved s x) (event q c i s x)))
events_snoc q c i (r ∷ ss) s [] h = absurd (not-suc-le-zero h)
events_snoc q c i (r ∷ ss) s (x ∷ xs) h =
    ap (λ (l : List Event). only (moved r x) (event q c i r x) ++ l) (events_snoc (cond (moved r x) (wrapped q) q) c (suc i) ss s xs (le_of_suc-le-suc h))
    ∙ sym (append_assoc (only (moved r x) (event q c i r x)) (events_from (cond (moved r x) (wrapped q) q) c (suc i) ss xs) _)
    ∙ ap (λ (k : ℕ). only (moved r x) (event q c i r x) ++ events_from (cond (moved r x) (wrapped q) q) c (suc i) ss xs
    ++ only (moved s (get_or xs (length ss) no_slot)) (event (seq_after (cond (moved r x) (wrapped q) q) ss xs) c k s (get_or xs (length ss) no_slot))) (suc-add i (length ss) ∙ sym (add-suc i (length ss)))

seq_snoc : (q : ℕ) (ss : List Signals) (s : Signals) (xs : List Slot) → length ss < length xs
    → seq_after q (ss ++ (s ∷ [])) xs ≡ cond (moved s (get_or xs (length ss) no_slot)) (wrapped (seq_after q ss xs)) (seq_after q ss xs)
seq_snoc q [] s [] h = absurd (not-suc-le-zero h)
seq_snoc q [] s (x ∷ xs) h = refl
seq_snoc q (r ∷ ss) s [] h = absurd (not-suc-le-zero h)
seq_snoc q (r ∷ ss) s (x ∷ xs) h = seq_snoc (cond (moved r x) (wrapped q) q) ss s xs (le_of_suc-le-suc h)

-- ## The records

module _ (size : ℕ) (few : size ≤ 16) (s : ℕ → Signals) (xs : List Slot) (long : length xs ≡ 16) (q c : ℕ) (small : q < 65536) where
  abbrev x : ℕ → Slot
  x i = get_or xs i no_slot

  abbrev y : ℕ → Slot
  y i = next (s i) (x i)

  abbrev ch : ℕ
  ch = word_of (λ i. moved (s i) (x i)) size

  abbrev was : Planes
  was = planes_of size (λ i. (x i).state)

  abbrev is : Planes
  is = planes_of size (λ i. (y i).state)

  abbrev firsts : List ℕ
  firsts = padded size (λ i. (y i).first_out)

  abbrev entries : ℕ → List (List ℕ)
  entries n = entries_to q c ch was is firsts n

  abbrev events : ℕ → List Event
  events n = events_from q c 1 (tabulate s n) xs

  record Same (n : ℕ) : Type 0 where
    count : length (entries n) ≡ length (events n)
    number : seq_after q (tabulate s n) xs ≡ (q + length (entries n)) % 2 ^ 16
    laid : joined (entries n) ≡ bytes (events n)

  more : (n : ℕ) → n < size → Same n → Same (suc n)
  unfolding tabulate entry_at encode
  more n h r = go (moved (s n) (x n)) refl
    where
      room : length (tabulate s n) < length xs
      room = rw (length-tabulate, long) (lt_of_lt_of_le h few)

      set_here : bit_of ch n ≡ moved (s n) (x n)
      set_here = bit_word_of (λ i. moved (s i) (x i)) size n h

      next_events : events (suc n) ≡ events n ++ only (moved (s n) (x n)) (event (seq_after q (tabulate s n) xs) c (1 + n) (s n) (x n))
      next_events =
          events_snoc q c 1 (tabulate s n) (s n) xs room
          ∙ ap (λ (k : ℕ). events n ++ only (moved (s n) (get_or xs k no_slot)) (event (seq_after q (tabulate s n) xs) c (1 + k) (s n) (get_or xs k no_slot))) (length-tabulate s n)

      next-number : seq_after q (tabulate s (suc n)) xs ≡ cond (moved (s n) (x n)) (wrapped (seq_after q (tabulate s n) xs)) (seq_after q (tabulate s n) xs)
      next-number =
          seq_snoc q (tabulate s n) (s n) xs room
          ∙ ap (λ (k : ℕ). cond (moved (s n) (get_or xs k no_slot)) (wrapped (seq_after q (tabulate s n) xs)) (seq_after q (tabulate s n) xs)) (length-tabulate s n)

      go : (b : Bool) → moved (s n) (x n) ≡ b → Same (suc n)
      go true e = record {
        count = ap length yes ∙ length-append (entries n) _ ∙ ap (λ (k : ℕ). k + 1) r.count ∙ sym (ap length ev ∙ length-append (events n) _);
        number =
            next-number ∙ ap (λ (b : Bool). cond b (wrapped (seq_after q (tabulate s n) xs)) (seq_after q (tabulate s n) xs)) e
            ∙ turn (length (entries n)) (length (entries (suc n))) (ap length yes ∙ length-append (entries n) _) r.number;
        laid =
            ap joined yes ∙ joined_snoc (entries n) _ ∙ ap₂ (λ (a b : List ℕ). a ++ b) r.laid entry_here
            ∙ sym (ap bytes ev ∙ flat_map_snoc encode (events n) _);
      }
        where
          yes : entries (suc n) ≡ entries n ++ (entry_at q c was is firsts (length (entries n)) n ∷ [])
          yes = ap entries (sym (add-one n)) ∙ picked_yes (entry_at q c was is firsts) (bit_of ch) n (set_here ∙ e)

          ev : events (suc n) ≡ events n ++ (event (seq_after q (tabulate s n) xs) c (1 + n) (s n) (x n) ∷ [])
          ev = next_events ∙ ap (λ (b : Bool). events n ++ only b (event (seq_after q (tabulate s n) xs) c (1 + n) (s n) (x n))) e

          turn : (a b : ℕ) → b ≡ a + 1 → seq_after q (tabulate s n) xs ≡ (q + a) % 2 ^ 16 → wrapped (seq_after q (tabulate s n) xs) ≡ (q + b) % 2 ^ 16
          turn a b u v = rw (u, v) (omega arith)

          entry_here : record_of ((q + length (entries n)) % 2 ^ 16) c (n + 1) (code_at was n) (code_at is n) (get_or firsts n 0)
              ≡ encode (event (seq_after q (tabulate s n) xs) c (1 + n) (s n) (x n))
          entry_here =
              let k : n + 1 ≡ 1 + n = omega arith in
              rw (code_word size (λ i. (x i).state) n h, code_word size (λ i. (y i).state) n h, padded_at size (λ i. (y i).first_out) n h, k, ← r.number)
      go false e = record {
        count = ap length no ∙ r.count ∙ sym (ap length ev);
        number =
            next-number ∙ ap (λ (b : Bool). cond b (wrapped (seq_after q (tabulate s n) xs)) (seq_after q (tabulate s n) xs)) e
            ∙ r.number ∙ ap (λ (l : List (List ℕ)). (q + length l) % 2 ^ 16) (sym no);
        laid = ap joined no ∙ r.laid ∙ sym (ap bytes ev);
      }
        where
          no : entries (suc n) ≡ entries n
          no = ap entries (sym (add-one n)) ∙ picked_no (entry_at q c was is firsts) (bit_of ch) n (set_here ∙ e)

          ev : events (suc n) ≡ events n
          ev = next_events ∙ ap (λ (b : Bool). events n ++ only b (event (seq_after q (tabulate s n) xs) c (1 + n) (s n) (x n))) e ∙ append-nil (events n)

  upto : (n : ℕ) → n ≤ size → Same n
  unfolding tabulate flat_map
  upto zero h =
      let e = picked_none (entry_at q c was is firsts) (bit_of ch) in
      record { count = rw e; number = rw e (sym (ap (λ (k : ℕ). k % 2 ^ 16) (add-zero q) ∙ mod-eq_of_lt small)); laid = rw e }
  upto (suc n) h = more n h (upto n (omega arith))

  -- the word has no bit past the effects
  all : entries 16 ≡ entries size
  all =
      let inside = word_of_lt (λ i. moved (s i) (x i)) size in
      passed (entries_rest q c ch was is firsts (lt_of_lt_of_le inside (pow_mono few))) size 16 few (omega arith)
      (λ j u v. bit_past ch size j inside u)

  pub records_word : (length (entries 16) ≡ length (events size)) × (joined (entries 16) ≡ bytes (events size)) × (seq_after q (tabulate s size) xs ≡ (q + length (entries 16)) % 2 ^ 16)
  records_word = let r = upto size (omega arith) in rw all (r.count, r.laid, r.number)
