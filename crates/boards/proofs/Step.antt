-- A scan by words is the scan of the slots.
use mathlib.Core.Path.{◌≡◌, refl, ap, ap₂, sym, ◌∙◌}
use mathlib.Core.List.{List, ◌++◌}
use Prim.Native.Nat.{ℕ, ◌<◌, ◌≤◌}
use native.Mathlib.Nat.{lt_of_lt_of_le}
use lib.Dec.{leb}
use lib.ListN.{drop, get_or, length, replicate}
use lib.Seq.{drop_at}
use Rattle.bits.specs.Lists.{tabulate}
use Rattle.bits.specs.Words.{word_of}
use Rattle.bits.proofs.Lists.{length-tabulate, tabulate_ext, get_or-tabulate, get_or_filled}
use Rattle.bits.proofs.Words.{bit_word_of, word_of_ext, and-or}
use Rattle.rules.specs.declared.EffectState.TheVariants.{Normal, Delayed}
use Rattle.rules.specs.declared.Slot.{Slot}
use Rattle.rules.specs.declared.Seen.{Seen}
use Rattle.rules.specs.Signals.{Signals}
use Rattle.rules.specs.Rules.{no_slot, same, asks, next}
use Rattle.effects.specs.Scan.{steps}
use Rattle.effects.proofs.Laws.{step-at}
use Rattle.planes.specs.declared.Planes.{Planes}
use Rattle.boards.specs.Table.{Table, watched_by, blamed, due_at, timer_by, first_by, table_after, padded, table_of}
use Rattle.planes.specs.Planes.{planes_of, planes_after, asked_of}
use Rattle.planes.proofs.ByWord.{by_word, planes_of_ext}

-- ## Arrays of which the first n matter

-- an entry among the first n is the one that was put there
pub padded_at : (n : ℕ) (f : ℕ → ℕ) (i : ℕ) → i < n → get_or (padded n f) i 0 ≡ f i
padded_at n f i k = get_or_filled f n _ i 0 k

-- the entries past the first n are 0
padded_rest : (n : ℕ) (f : ℕ → ℕ) → drop n (padded n f) ≡ drop n (replicate 16 0)
padded_rest n f = drop_at (tabulate f n) (drop n (replicate 16 0)) n (length-tabulate f n)

-- an array that is filled anew in its first n entries
pub refilled : (n : ℕ) (f g h : ℕ → ℕ) → ((i : ℕ) → i < n → g i ≡ h i) → tabulate g n ++ drop n (padded n f) ≡ padded n h
refilled n f g h e = ap₂ (λ (a b : List ℕ). a ++ b) (tabulate_ext g h n e) (padded_rest n f)

pub padded_ext : (n : ℕ) (f g : ℕ → ℕ) → ((i : ℕ) → i < n → f i ≡ g i) → padded n f ≡ padded n g
padded_ext n f g e = ap (λ (a : List ℕ). a ++ drop n (replicate 16 0)) (tabulate_ext f g n e)

-- ## A table by its parts

abbrev pub table : Planes → List ℕ → List ℕ → Table
table p t f = record { planes = p; timers = t; firsts = f }

pub table_path : {p p' : Planes} {t t' f f' : List ℕ} → p ≡ p' → t ≡ t' → f ≡ f' → table p t f ≡ table p' t' f'
table_path a b c = λ i. table (a i) (b i) (c i)

-- ## What the signals of the effects have to be

-- the signals s i see this of the causes, these delays and this period
pub record Sees (associations delays : List ℕ) (period : ℕ) (seen : Seen) (s : ℕ → Signals) : Type 0 where
  pub active : (i : ℕ) → (s i).active ≡ watched_by associations seen.tripped i
  pub bad : (i : ℕ) → (s i).bad ≡ watched_by associations seen.bad i
  pub delay : (i : ℕ) → (s i).delay ≡ get_or delays i 0
  pub time : (i : ℕ) → (s i).period ≡ period

-- ## The scan

module _ (n : ℕ) (few : n ≤ 16) (associations delays : List ℕ) (period : ℕ) (seen : Seen) (s : ℕ → Signals) (sees : Sees associations delays period seen s)
    (xs : List Slot) (long : length xs ≡ 16) where
  abbrev x : ℕ → Slot
  x i = get_or xs i no_slot

  abbrev y : ℕ → Slot
  y i = next (s i) (x i)

  pub stepped : (i : ℕ) → i < n → get_or (steps (tabulate s n) xs) i no_slot ≡ y i
  stepped i k =
      step-at (tabulate s n) xs i (s 0) no_slot (rw length-tabulate k) (rw long (lt_of_lt_of_le k few))
      ∙ ap (λ (t : Signals). next t (x i)) (get_or-tabulate s n i (s 0) k)

  due : word_of (due_at (padded n (λ i. (x i).timer)) period) n ≡ word_of (λ i. leb (x i).timer (s i).period) n
  due = word_of_ext _ _ n (λ i k. ap₂ leb (padded_at n (λ j. (x j).timer) i k) (sym (sees.time i)))

  pub planes_step : planes_after (asked_of n (λ i. asks (s i))) (word_of (due_at (padded n (λ i. (x i).timer)) period) n) (planes_of n (λ i. (x i).state))
      ≡ planes_of n (λ i. (y i).state)
  planes_step = rw due (by_word n few (λ i. asks (s i)) (λ i. leb (x i).timer (s i).period) (λ i. (x i).state))

  timer_step : (i : ℕ) → i < n
      → timer_by (padded n (λ j. (x j).timer)) delays period (word_of (λ j. same (x j).state Delayed) n) (word_of (λ j. same (y j).state Delayed) n) i ≡ (y i).timer
  timer_step i k =
      rw (
        bit_word_of (λ j. same (y j).state Delayed) n i k,
        bit_word_of (λ j. same (x j).state Delayed) n i k,
        padded_at n (λ j. (x j).timer) i k,
        ← sees.delay i,
        ← sees.time i,
      )

  first_step : (i : ℕ) → i < n
      → first_by (padded n (λ j. (x j).first_out)) associations (blamed seen) (word_of (λ j. same (x j).state Normal) n) (word_of (λ j. same (y j).state Normal) n) i ≡ (y i).first_out
  first_step i k =
      rw (
        bit_word_of (λ j. same (y j).state Normal) n i k,
        bit_word_of (λ j. same (x j).state Normal) n i k,
        padded_at n (λ j. (x j).first_out) i k,
        sees.active i,
        sees.bad i,
        ← and-or (get_or associations i 0) seen.tripped seen.bad,
      )

  -- the table after the scan, effect by effect
  abbrev middle : Table
  middle = table (planes_of n (λ i. (y i).state)) (padded n (λ i. (y i).timer)) (padded n (λ i. (y i).first_out))

  pub table_middle : table_after n associations delays period seen (asked_of n (λ i. asks (s i))) (table_of n xs) ≡ middle
  unfolding table_after table_of planes_of
  table_middle =
      rw planes_step
      (table_path refl
      (refilled n (λ i. (x i).timer) _ (λ i. (y i).timer) timer_step)
      (refilled n (λ i. (x i).first_out) _ (λ i. (y i).first_out) first_step))

  middle_table : middle ≡ table_of n (steps (tabulate s n) xs)
  unfolding table_of
  middle_table =
      table_path
      (planes_of_ext n _ _ (λ i k. sym (ap (λ (z : Slot). z.state) (stepped i k))))
      (padded_ext n _ _ (λ i k. sym (ap (λ (z : Slot). z.timer) (stepped i k))))
      (padded_ext n _ _ (λ i k. sym (ap (λ (z : Slot). z.first_out) (stepped i k))))

  pub table_step : table_after n associations delays period seen (asked_of n (λ i. asks (s i))) (table_of n xs) ≡ table_of n (steps (tabulate s n) xs)
  table_step = table_middle ∙ middle_table
