-- A part of the array, filled from its start on by index, at the set bits of a word: all else stays. One law serves every part.
use mathlib.Core.Path.{◌≡◌, refl, ap, sym, ◌∙◌}
use mathlib.Core.Bool.{false}
use mathlib.Core.List.{List, [], ◌∷◌}
use Prim.Native.Nat.{ℕ, zero, suc, ◌+◌, ◌-◌, ◌^◌, ◌<◌, ◌≤◌}
use native.Mathlib.Nat.{zero-add}
use native.Mathlib.Numerals.{add-one}
use native.Mathlib.Omega.{arith}
use lib.Bits.{bit_and}
use lib.Count.{count_trailing_zeros}
use lib.ListN.{set, get_or, length}
use lib.Seq.{sets, set-get_or, get_or-set_other, get_or-take, get_or-drop}
use Rattle.bits.specs.Lists.{tabulate}
use Rattle.bits.specs.Words.{bit_of}
use Rattle.bits.proofs.Lists.{length-tabulate, tabulate_more}
use Rattle.bits.proofs.Numbers.{put_last}
use Rattle.cells.specs.Array.{part_length, part, associations_at, timers_at, associations_in, timers_in}
use Rattle.cells.specs.Changed.{fallen}
use Rattle.boards.specs.Table.{Still}
use Rattle.boards.proofs.Bits.{Rests, Done, again, below, before-it}

-- ## Parts by index

pub get_d_part : (o : ℕ) (xs : List ℕ) (i : ℕ) → i < part_length → get_or (part o xs) i 0 ≡ get_or xs (o + i) 0
unfolding part
get_d_part o xs i h = rw (get_or-take, get_or-drop)

-- an entry of the part that stands first
pub get_or_association : (xs : List ℕ) (i : ℕ) → i < part_length → get_or (associations_in xs) i 0 ≡ get_or xs i 0
get_or_association xs i h = get_d_part associations_at xs i h ∙ ap (λ (j : ℕ). get_or xs j 0) (zero-add i)

pub before_sets : (xs : List ℕ) (o : ℕ) (vs : List ℕ) (j : ℕ) → j < o → get_or (sets xs o vs) j 0 ≡ get_or xs j 0
before_sets xs o [] j h = refl
before_sets xs o (v ∷ vs) j h = before_sets (set xs o v) (suc o) vs j (omega arith) ∙ get_or-set_other xs o j v 0 (λ e. omega (arith, e))

after_sets : (xs : List ℕ) (o : ℕ) (vs : List ℕ) (j : ℕ) → o + length vs ≤ j → get_or (sets xs o vs) j 0 ≡ get_or xs j 0
after_sets xs o [] j h = refl
after_sets xs o (v ∷ vs) j h = after_sets (set xs o v) (suc o) vs j (omega arith) ∙ get_or-set_other xs o j v 0 (λ e. omega (arith, e))

-- ## Filled at the set bits of a word

module _ (o : ℕ) (f : ℕ → ℕ) (xs : List ℕ) where
  -- the first m of the part are filled
  abbrev pub up_to : ℕ → List ℕ
  up_to m = sets xs o (tabulate f m)

  pub more : (i : ℕ) → up_to (i + 1) ≡ set (up_to i) (o + i) (f i)
  more i = ap (sets xs o) (tabulate_more f i) ∙ sym (put_last xs (up_to i) o (o + i) (tabulate f i) (f i) refl (omega (arith, length-tabulate f i)))

  -- an entry of the part that is not filled yet stays
  pub rest_at : (i : ℕ) → i < part_length → get_or (up_to i) (o + i) 0 ≡ get_or (part o xs) i 0
  rest_at i h = after_sets xs o (tabulate f i) (o + i) (omega (arith, length-tabulate f i)) ∙ sym (get_d_part o xs i h)

  -- an entry that gets the value it had: nothing changes
  kept_at : (i : ℕ) → i < part_length → f i ≡ get_or (part o xs) i 0 → up_to (i + 1) ≡ up_to i
  kept_at i h e = more i ∙ ap (set (up_to i) (o + i)) (e ∙ sym (rest_at i h)) ∙ set-get_or (up_to i) (o + i) 0

  -- where every entry gets the value it had, the array stays
  pub kept : (n : ℕ) → n ≤ part_length → ((i : ℕ) → i < n → f i ≡ get_or (part o xs) i 0) → up_to n ≡ xs
  unfolding tabulate
  kept zero h e = refl
  kept (suc n) h e = ap up_to (sym (add-one n)) ∙ kept_at n (omega arith) (e n (omega arith)) ∙ kept n (omega arith) (λ i k. e i (omega arith))

  module _ (n word : ℕ) where
    fills : n ≤ part_length → word < 2 ^ n → ((i : ℕ) → i < n → bit_of word i ≡ false → f i ≡ get_or (part o xs) i 0) → Rests n word up_to
    fills few inside keeps = record { few = few; inside = inside; same = λ i h e. kept_at i (omega arith) (keeps i h e) }

    -- the entry at the next set bit is not filled yet
    pub there : {now : List ℕ} {rest : ℕ} → Done n word up_to now rest → 0 < rest
        → get_or now (o + count_trailing_zeros 16 rest) 0 ≡ get_or (part o xs) (count_trailing_zeros 16 rest) 0
    there {now} {rest} d left =
        let i = count_trailing_zeros 16 rest in
        ap (λ (l : List ℕ). get_or l (o + i) 0) (before-it d left) ∙ rest_at i (omega (arith, below d left, d.rests.few))

    -- a store at the next set bit, of a value made from the entry there
    pub stored : {now : List ℕ} {rest : ℕ} → Done n word up_to now rest → 0 < rest → (v : ℕ)
        → (get_or now (o + count_trailing_zeros 16 rest) 0 ≡ get_or (part o xs) (count_trailing_zeros 16 rest) 0 → v ≡ f (count_trailing_zeros 16 rest))
        → Done n word up_to (set now (o + count_trailing_zeros 16 rest) v) (bit_and rest (rest - 1))
    stored {now} {rest} d left v e =
        let i = count_trailing_zeros 16 rest in
        let new = e (there d left) in
        again d left ((λ j. set (before-it d left j) (o + i) (new j)) ∙ sym (more i))

-- ## Timers: they fall only where an effect is in Delayed

module _ (xs : List ℕ) (n by : ℕ) (few : n ≤ part_length) where
  abbrev less : ℕ → ℕ
  less i = get_or (timers_in xs) i 0 - by

  pub fallen_rest : (delayed : ℕ) → delayed < 2 ^ n → Still n delayed (timers_in xs) → Rests n delayed (up_to timers_at less xs)
  fallen_rest delayed inside still = fills timers_at less xs n delayed few inside (λ i l e. let z = still.none i l e in omega (arith, z))

  pub fallen_none : by ≡ 0 → xs ≡ fallen n by xs
  fallen_none e = sym (kept timers_at less xs n few (λ i h. omega (arith, e)))
