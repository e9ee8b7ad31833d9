-- What rests: the timer of an effect that is not in Delayed and the first-out of one in Normal are 0, and a first-out has 16 bits.
-- This still holds after a scan, and after scans that are not live.
use mathlib.Core.Path.{ap, ◌∙◌}
use mathlib.Core.Bool.{Bool, true, false, cond}
use mathlib.Core.List.{List, [], ◌∷◌, ◌++◌}
use Prim.Native.Nat.{ℕ, zero, suc, ◌+◌, ◌-◌, ◌^◌, ◌<◌, ◌≤◌}
use native.Mathlib.Omega.{arith}
use lib.Bits.{and_le_r}
use lib.ListN.{drop, get_or, length, length-append}
use lib.Seq.{get_or-drop}
use Rattle.bits.specs.Lists.{tabulate}
use Rattle.bits.specs.Words.{bit_of, word_of}
use Rattle.bits.proofs.Lists.{length-tabulate, get_or_filled}
use Rattle.rules.specs.declared.Seen.{Seen}
use Rattle.planes.specs.declared.Asked.{Asked}
use Rattle.planes.specs.Planes.{planes_after}
use Rattle.boards.specs.Table.{Table, watched_by, blamed, due_at, timer_by, first_by, Still, Blank, Narrow, Settled, table_after, table_later}

-- ## Filled anew

pub filled-long : (f : ℕ → ℕ) (n : ℕ) (xs : List ℕ) → n ≤ length (tabulate f n ++ drop n xs)
filled-long f n xs = omega (arith, length-append (tabulate f n) (drop n xs), length-tabulate f n)

-- ## What a scan and a skip leave rests

still_after : (n : ℕ) (timers delays : List ℕ) (period was is : ℕ) → Still n is (tabulate (timer_by timers delays period was is) n ++ drop n timers)
still_after n timers delays period was is =
    record {
      long = filled-long _ n timers;
      none = λ i k e. get_or_filled _ n _ i 0 k ∙ ap (λ (t : Bool). cond t (cond (bit_of was i) (get_or timers i 0 - period) (get_or delays i 0)) 0) e;
    }

blank_after : (n : ℕ) (firsts associations : List ℕ) (causes was is : ℕ) → Blank n is (tabulate (first_by firsts associations causes was is) n ++ drop n firsts)
blank_after n firsts associations causes was is =
    record {
      long = filled-long _ n firsts;
      none = λ i k e. get_or_filled _ n _ i 0 k ∙ ap (λ (t : Bool). cond t 0 (cond (bit_of was i) (watched_by associations causes i) (get_or firsts i 0))) e;
    }

-- first-outs have 16 bits in two lists joined, and in a list made by index, if they do in each part
narrow_append : (a b : List ℕ) → Narrow a → Narrow b → Narrow (a ++ b)
narrow_append [] b h g i = g i
narrow_append (x ∷ a) b h g zero = h zero
narrow_append (x ∷ a) b h g (suc i) = narrow_append a b (λ j. h (suc j)) g i

narrow_one : (x : ℕ) → x < 2 ^ 16 → Narrow (x ∷ [])
narrow_one x h zero = h
narrow_one x h (suc i) = omega arith

narrow_tabulate : (f : ℕ → ℕ) (n : ℕ) → ((i : ℕ) → f i < 2 ^ 16) → Narrow (tabulate f n)
unfolding tabulate
narrow_tabulate f zero h i = omega arith
narrow_tabulate f (suc n) h i = narrow_append (tabulate f n) (f n ∷ []) (narrow_tabulate f n h) (narrow_one (f n) (h n)) i

-- a first-out is 0, or some of the causes that it may take, or as it was
narrow_first : (firsts associations : List ℕ) (causes was is : ℕ) → causes < 2 ^ 16 → Narrow firsts → (i : ℕ) → first_by firsts associations causes was is i < 2 ^ 16
narrow_first firsts associations causes was is small h i = go (bit_of was i) (bit_of is i)
  where
    go : (was is : Bool) → cond is 0 (cond was (watched_by associations causes i) (get_or firsts i 0)) < 2 ^ 16
    go was true = omega arith
    go true false = omega (arith, and_le_r (get_or associations i 0) causes)
    go false false = h i

pub narrow_after : (n : ℕ) (firsts associations : List ℕ) (causes was is : ℕ) → causes < 2 ^ 16 → Narrow firsts
    → Narrow (tabulate (first_by firsts associations causes was is) n ++ drop n firsts)
narrow_after n firsts associations causes was is small h =
    narrow_append (tabulate (first_by firsts associations causes was is) n) (drop n firsts) (narrow_tabulate _ n (narrow_first firsts associations causes was is small h))
    (λ i. rw get_or-drop (h (n + i)))

pub settled_after : (n : ℕ) (associations delays : List ℕ) (period : ℕ) (seen : Seen) (w : Asked) (b : Table) → blamed seen < 2 ^ 16 → Narrow b.firsts
    → Settled n (table_after n associations delays period seen w b)
unfolding table_after
settled_after n associations delays period seen w b small h =
    let q = planes_after w (word_of (due_at b.timers period) n) b.planes in
    record {
      still = still_after n b.timers delays period b.planes.delayed q.delayed;
      blank = blank_after n b.firsts associations (blamed seen) b.planes.normal q.normal;
      narrow = narrow_after n b.firsts associations (blamed seen) b.planes.normal q.normal small h;
    }

pub settled_later : (k n period : ℕ) (b : Table) → Settled n b → Settled n (table_later k n period b)
unfolding table_later
settled_later k n period b h =
    record {
      still = record {
        long = filled-long _ n b.timers;
        none = λ i l e. get_or_filled _ n _ i 0 l ∙ omega (arith, h.still.none i l e);
      };
      blank = h.blank;
      narrow = h.narrow;
    }
