-- What is kept of all effects by words, and a scan of it. No entry point's contract cites this page.
use Rattle.std.specs.Prelude.{◌≡◌, ℕ, zero, suc, ◌+◌, ◌-◌, ◌*◌, ◌/◌, ◌%◌, ◌^◌, ◌<◌, ◌≤◌, min, Bool, true, false, cond, ◌&&◌, leb, ltb, eqb, drop, get_or, length, replicate}
use mathlib.Core.List.{List, ◌++◌, flat_map}
use Rattle.std.specs.Int.Bits.{bit_and, bit_or}
use Rattle.bits.specs.Lists.{tabulate}
use Rattle.bits.specs.Words.{bit_of, word_of}
use Rattle.rules.specs.declared.Seen.{Seen}
use Rattle.rules.specs.declared.Slot.{Slot}
use Rattle.rules.specs.Rules.{no_slot}
use Rattle.effects.specs.Records.{record_of}
use Rattle.planes.specs.declared.Asked.{Asked}
use Rattle.planes.specs.declared.Planes.{Planes}
use Rattle.planes.specs.Planes.{planes_of, planes_after, changed_of, code_at, state_at}
use Rattle.boards.specs.Picked.{picked}

-- what is kept of all effects: their states by words, their timers and their first-outs
pub record Table : Type 0 where
  pub planes : Planes
  pub timers : List ℕ
  pub firsts : List ℕ

-- ## A scan

-- of a word of causes, those that effect i watches
abbrev pub watched_by : (associations : List ℕ) (causes : ℕ) → ℕ → ℕ
watched_by associations causes i = bit_and (get_or associations i 0) causes

-- effect i watches one of the causes
abbrev pub watches : (associations : List ℕ) (causes : ℕ) → ℕ → Bool
watches associations causes i = ltb 0 (watched_by associations causes i)

-- the causes that are tripped or Bad: those that a first-out takes, if its effect watches them
abbrev pub blamed : Seen → ℕ
blamed seen = bit_or seen.tripped seen.bad

abbrev pub due_at : (timers : List ℕ) (period : ℕ) → ℕ → Bool
due_at timers period i = leb (get_or timers i 0) period

-- effect i is in Delayed, and its timer is at most the period
abbrev pub due_in : (timers : List ℕ) (period delayed : ℕ) → ℕ → Bool
due_in timers period delayed i = bit_of delayed i && due_at timers period i

-- the timer of effect i after a scan. was, is: the effects in Delayed before it and after it
abbrev pub timer_by : (timers delays : List ℕ) (period was is : ℕ) → ℕ → ℕ
timer_by timers delays period was is i = cond (bit_of is i) (cond (bit_of was i) (get_or timers i 0 - period) (get_or delays i 0)) 0

-- the first-out of effect i after a scan. causes: those that it may take. was, is: the effects in Normal before the scan and after it
abbrev pub first_by : (firsts associations : List ℕ) (causes was is : ℕ) → ℕ → ℕ
first_by firsts associations causes was is i = cond (bit_of is i) 0 (cond (bit_of was i) (watched_by associations causes i) (get_or firsts i 0))

unfoldable pub table_after : (n : ℕ) (associations delays : List ℕ) (period : ℕ) → Seen → Asked → Table → Table
table_after n associations delays period seen w b =
    let after = planes_after w (word_of (due_at b.timers period) n) b.planes in
    record {
      planes = after;
      timers = tabulate (timer_by b.timers delays period b.planes.delayed after.delayed) n ++ drop n b.timers;
      firsts = tabulate (first_by b.firsts associations (blamed seen) b.planes.normal after.normal) n ++ drop n b.firsts;
    }

-- ## What rests

-- there is a timer for each of n effects, and the timer of an effect that is not in Delayed is 0
pub record Still (n delayed : ℕ) (timers : List ℕ) : Type 0 where
  pub long : n ≤ length timers
  pub none : (i : ℕ) → i < n → bit_of delayed i ≡ false → get_or timers i 0 ≡ 0

-- there is a first-out for each of n effects, and the first-out of an effect in Normal is 0
pub record Blank (n normal : ℕ) (firsts : List ℕ) : Type 0 where
  pub long : n ≤ length firsts
  pub none : (i : ℕ) → i < n → bit_of normal i ≡ true → get_or firsts i 0 ≡ 0

-- first-outs have 16 bits
abbrev pub Narrow : List ℕ → Type 0
Narrow firsts = (i : ℕ) → get_or firsts i 0 < 2 ^ 16

pub record Settled (n : ℕ) (b : Table) : Type 0 where
  pub still : Still n b.planes.delayed b.timers
  pub blank : Blank n b.planes.normal b.firsts
  pub narrow : Narrow b.firsts

-- only the first n effects are in Delayed or in Normal
abbrev pub Within : ℕ → Planes → Type 0
Within n p = (p.delayed < 2 ^ n) × (p.normal < 2 ^ n)

-- from p to q, an effect that is not among the changed ones stays in Delayed and in Normal, or out of them, and one that has changed to
-- Delayed was not there before
pub record Steady (n : ℕ) (p q : Planes) : Type 0 where
  pub inside : changed_of p q < 2 ^ n
  pub delayed : (i : ℕ) → i < n → bit_of (changed_of p q) i ≡ false → bit_of p.delayed i ≡ bit_of q.delayed i
  pub normal : (i : ℕ) → i < n → bit_of (changed_of p q) i ≡ false → bit_of p.normal i ≡ bit_of q.normal i
  pub entered : (i : ℕ) → i < n → bit_of (changed_of p q) i ≡ true → bit_of q.delayed i ≡ true → bit_of p.delayed i ≡ false

-- ## The slots, as words

-- f 0, f 1, .. of n effects, and 0 for the rest of the sixteen
abbrev pub padded : ℕ → (ℕ → ℕ) → List ℕ
padded n f = tabulate f n ++ drop n (replicate 16 0)

unfoldable pub table_of : ℕ → List Slot → Table
table_of n xs =
    record {
      planes = planes_of n (λ i. (get_or xs i no_slot).state);
      timers = padded n (λ i. (get_or xs i no_slot).timer);
      firsts = padded n (λ i. (get_or xs i no_slot).first_out);
    }

-- the slot of effect i that a table shows
abbrev pub slot_at : Table → ℕ → Slot
slot_at b i = record { state = state_at b.planes i; timer = get_or b.timers i 0; first_out = get_or b.firsts i 0 }

unfoldable pub slots_of : ℕ → Table → List Slot
slots_of n b = tabulate (slot_at b) n ++ drop n (replicate 16 no_slot)

-- ## Scans that are not live

-- the least timer of the effects below n that pass the test, at most the largest u32
unfoldable pub low_to : (ℕ → Bool) → (ℕ → ℕ) → ℕ → ℕ
low_to f t zero = 4294967295
low_to f t (suc n) = cond (f n) (min (low_to f t n) (t n)) (low_to f t n)

-- how many of the next m scans leave every state as it is
unfoldable pub quiets_by : (m n period : ℕ) → Asked → Planes → (timers : List ℕ) → ℕ
quiets_by m n period w p timers =
    cond (eqb (changed_of p (planes_after w (word_of (due_at timers period) n) p)) 0)
    (min m ((low_to (bit_of p.delayed) (λ i. get_or timers i 0) n - 1) / period)) 0

-- what is kept after k scans that leave every state as it is
unfoldable pub table_later : (k n period : ℕ) → Table → Table
table_later k n period b =
    record {
      planes = b.planes;
      timers = tabulate (λ i. get_or b.timers i 0 - k * period) n ++ drop n b.timers;
      firsts = b.firsts;
    }

-- ## Records

-- the record of effect i, which is record k of a scan
unfoldable pub entry_at : (q c : ℕ) (was is : Planes) (firsts : List ℕ) → ℕ → ℕ → List ℕ
entry_at q c was is firsts k i = record_of ((q + k) % 2 ^ 16) c (i + 1) (code_at was i) (code_at is i) (get_or firsts i 0)

-- the records of the effects in a word
abbrev pub entries_to : (q c ch : ℕ) (was is : Planes) (firsts : List ℕ) → ℕ → List (List ℕ)
entries_to q c ch was is firsts n = picked (entry_at q c was is firsts) (bit_of ch) n

-- lists of bytes, one after the other
abbrev pub joined : List (List ℕ) → List ℕ
joined ls = flat_map (λ l. l) ls
