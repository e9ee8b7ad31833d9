-- A scan of a mark, with the array that is lent beside it, is the scan of the board that they make; and so are scans that are not live.
use Rattle.std.proofs.Common.{◌≡◌, ℕ, ◌+◌, ◌-◌, ◌*◌, ◌/◌, ◌%◌, ◌^◌, ◌<◌, ◌≤◌, Bool, true, false, cond, not, eqb, List, ◌++◌, length, get_or, drop, sym, refl, ap, ◌∙◌, subst, lt_of_lt_of_le, zero-lt-suc, mul-div_cancel, arith, pow_mono}
use mathlib.Core.Bool.{false≢true}
use lib.Seq.{sets}
use Rattle.bits.specs.Lists.{tabulate}
use Rattle.bits.specs.Words.{bit_of, word_of, one}
use Rattle.bits.proofs.Lists.{length-tabulate, tabulate_ext, get_or_filled}
use Rattle.bits.proofs.Words.{bit_past}
use Rattle.effects.specs.Records.{record_length}
use Rattle.rules.specs.declared.Seen.{Seen}
use Rattle.planes.specs.declared.Asked.{Asked}
use Rattle.engine.specs.declared.Mark.{Mark}
use Rattle.cells.specs.declared.Plan.{Plan}
use Rattle.planes.specs.declared.Planes.{Planes}
use Rattle.cells.specs.Array.{part_length, array_length, timers_at, firsts_at, associations_in, delays_in, timers_in, firsts_in, Same}
use Rattle.planes.specs.Planes.{planes_after, changed_of}
use Rattle.cells.specs.Changed.{fallen, new_timer, new_first, settled_in}
use Rattle.boards.specs.Table.{Table, watched_by, blamed, due_in, timer_by, first_by, Narrow, Settled, Steady, Within, table_after, table_later, entries_to, joined}
use Rattle.boards.specs.Board.{Board, scanned, later}
use Rattle.engine.specs.Marks.{board_at, scan_entries}
use Rattle.cells.specs.Loaded.{table_in}
use Rattle.engine.specs.Stroke.{scanned_by, entries_by, ScanReady, ScanDone}
use Rattle.boards.proofs.Due.{after_due}
use Rattle.cells.proofs.Settled.{settled_rests, put_again}
use Rattle.boards.proofs.Bits.{passed}
use Rattle.cells.proofs.Parts.{part_filled, part_before, same_put, same_then, timers_filled, firsts_kept, timers_same}
use Rattle.boards.proofs.Rest.{settled_after}
use Rattle.boards.proofs.Step.{table_path}

-- the bytes between two places, divided by the length of a record, are the number of records
twelfth : (a l : ℕ) → (a + record_length * l - a) / record_length ≡ l
twelfth a l =
    let e : a + record_length * l - a ≡ l * record_length = omega arith in
    ap (λ (n : ℕ). n / record_length) e ∙ mul-div_cancel l (zero-lt-suc 11)

pub between : (p a l : ℕ) → p ≡ a + record_length * l → l ≤ 16 → (a ≤ p) × (p ≤ a + 192)
between p a l e h = (omega arith, omega arith)

-- ## One effect

-- an effect that has changed gets its timer anew, and that of any other runs
timer_same : (changed was is : Bool) (t p d : ℕ) → (changed ≡ false → was ≡ is) → (changed ≡ true → is ≡ true → was ≡ false) → (was ≡ false → t ≡ 0)
    → cond changed (cond is d 0) (t - p) ≡ cond is (cond was (t - p) d) 0
timer_same true true true t p d k e z = absurd (false≢true (sym (e refl refl)))
timer_same true false true t p d k e z = refl
timer_same true true false t p d k e z = refl
timer_same true false false t p d k e z = refl
timer_same false true true t p d k e z = refl
timer_same false true false t p d k e z = absurd (false≢true (sym (k refl)))
timer_same false false true t p d k e z = absurd (false≢true (k refl))
timer_same false false false t p d k e z = let n = z refl in omega (arith, n)

-- an effect that has changed gets its first-out anew, and any other keeps it
first-same : (changed was is : Bool) (a f : ℕ) → (changed ≡ false → was ≡ is) → (was ≡ true → f ≡ 0) → cond changed (cond is 0 (cond was a f)) f ≡ cond is 0 (cond was a f)
first-same true was is a f k b = refl
first-same false true true a f k b = b refl
first-same false true false a f k b = absurd (false≢true (sym (k refl)))
first-same false false true a f k b = absurd (false≢true (k refl))
first-same false false false a f k b = refl

-- ## A scan

-- what a scan stores: the states, and the array with the timers and the first-outs
pub record Stored (plan : Plan) (seen : Seen) (w : Asked) (x : Mark) (array : List ℕ) (is : Planes) (array' : List ℕ) : Type 0 where
  pub table : table_in is array' ≡ (scanned_by plan seen w x array).table
  pub same : Same array array'

module _ {plan : Plan} {seen : Seen} {w : Asked} {x : Mark} {array : List ℕ} {room : ℕ} (h : ScanReady plan seen w x array room) where
  abbrev n : ℕ
  n = plan.count

  module _ {due : ℕ} {is : Planes} (d : due ≡ word_of (due_in (timers_in array) plan.period x.planes.delayed) n) (p : is ≡ planes_after w due x.planes) where
    states : is ≡ (scanned_by plan seen w x array).table.planes
    unfolding scanned table_after
    states = after_due n plan.period (timers_in array) w x.planes h.few h.within.0 due is d p

    pub within_is : Within n is
    within_is = rw states h.within_then

    -- after the timers are stored
    module _ {mid : List ℕ} (t : mid ≡ sets array timers_at (tabulate (timer_by (timers_in array) (delays_in array) plan.period x.planes.delayed is.delayed) n)) where
      abbrev timer : ℕ → ℕ
      timer = timer_by (timers_in array) (delays_in array) plan.period x.planes.delayed is.delayed

      firsts_mid : firsts_in mid ≡ firsts_in array
      firsts_mid = firsts_kept timer n array t h.few h.long

      same_mid : Same array mid
      same_mid = timers_same timer n array t h.few h.long

      -- after the first-outs are stored, too
      stored : {then : List ℕ} → then ≡ sets mid firsts_at (tabulate (first_by (firsts_in mid) (associations_in mid) (blamed seen) x.planes.normal is.normal) n)
          → Stored plan seen w x array is then
      unfolding scanned table_after
      stored f =
          let first = first_by (firsts_in mid) (associations_in mid) (blamed seen) x.planes.normal is.normal in
          let l : firsts_at + part_length ≤ length mid = omega (arith, same_mid.long) in
          record {
            table =
                table_path states
                (ap timers_in f ∙ part_before timers_at firsts_at mid (tabulate first n) (omega arith) ∙ timers_filled timer n array t h.few h.long
                ∙ (λ j. tabulate (timer_by (timers_in array) (delays_in array) plan.period x.planes.delayed (states j).delayed) n ++ drop n (timers_in array)))
                (ap firsts_in f ∙ part_filled firsts_at first n mid l h.few
                ∙ (λ j. tabulate (first_by (firsts_mid j) (same_mid.associations j) (blamed seen) x.planes.normal (states j).normal) n ++ drop n (firsts_mid j)));
            same = rw f (same_then same_mid (same_put firsts_at mid (tabulate first n) (omega arith) same_mid.long));
          }

    -- where the timers have run, and the changed effects have got their own
    module _ {ch : ℕ} {ticks : List ℕ} (c : ch ≡ changed_of x.planes is) (e : ticks ≡ fallen n plan.period array) where
      unchanged : Steady n x.planes is
      unchanged = rw states h.steady

      abbrev run : ℕ → ℕ
      run i = get_or (timers_in array) i 0 - plan.period

      ran : (i : ℕ) → i < n → get_or (timers_in ticks) i 0 ≡ run i
      ran i k = ap (λ (l : List ℕ). get_or l i 0) (timers_filled run n array e h.few h.long) ∙ get_or_filled run n _ i 0 k

      pub same_ticks : Same array ticks
      same_ticks = timers_same run n array e h.few h.long

      abbrev timer_then : ℕ → ℕ
      timer_then = timer_by (timers_in array) (delays_in array) plan.period x.planes.delayed is.delayed

      abbrev mid_then : List ℕ
      mid_then = sets array timers_at (tabulate timer_then n)

      timer_is : (i : ℕ) → i < n → cond (bit_of ch i) (new_timer is.delayed ticks i) (get_or (timers_in ticks) i 0) ≡ timer_then i
      timer_is i k =
          ap (λ (t : ℕ). cond (bit_of ch i) (new_timer is.delayed ticks i) t) (ran i k)
          ∙ ap (λ (l : List ℕ). cond (bit_of ch i) (cond (bit_of is.delayed i) (get_or l i 0) 0) (run i)) same_ticks.delays
          ∙ timer_same (bit_of ch i) (bit_of x.planes.delayed i) (bit_of is.delayed i) (get_or (timers_in array) i 0) plan.period (get_or (delays_in array) i 0)
          (λ z. unchanged.delayed i k (sym (ap (λ (w : ℕ). bit_of w i) c) ∙ z))
          (λ z. unchanged.entered i k (sym (ap (λ (w : ℕ). bit_of w i) c) ∙ z))
          (h.settled.still.none i k)

      mid-is : sets ticks timers_at (tabulate (λ i. cond (bit_of ch i) (new_timer is.delayed ticks i) (get_or (timers_in ticks) i 0)) n) ≡ mid_then
      mid-is =
          ap (sets ticks timers_at) (tabulate_ext _ timer_then n timer_is)
          ∙ ap (λ (l : List ℕ). sets l timers_at (tabulate timer_then n)) e
          ∙ put_again array timers_at (tabulate run n) (tabulate timer_then n) (length-tabulate run n ∙ sym (length-tabulate timer_then n))

      firsts_ticks : firsts_in ticks ≡ firsts_in array
      firsts_ticks = firsts_kept run n array e h.few h.long

      first-is : (i : ℕ) → i < n → cond (bit_of ch i) (new_first (blamed seen) x.planes.normal is.normal ticks i) (get_or (firsts_in ticks) i 0)
          ≡ first_by (firsts_in mid_then) (associations_in mid_then) (blamed seen) x.planes.normal is.normal i
      first-is i k =
          (λ j. cond (bit_of ch i) (first_by (firsts_ticks j) (same_ticks.associations j) (blamed seen) x.planes.normal is.normal i) (get_or (firsts_ticks j) i 0))
          ∙ first-same (bit_of ch i) (bit_of x.planes.normal i) (bit_of is.normal i) (watched_by (associations_in array) (blamed seen) i) (get_or (firsts_in array) i 0)
          (λ z. unchanged.normal i k (sym (ap (λ (w : ℕ). bit_of w i) c) ∙ z))
          (h.settled.blank.none i k)
          ∙ sym (λ j. first_by (firsts_mid refl j) ((same_mid refl).associations j) (blamed seen) x.planes.normal is.normal i)

      -- the effects past the count are in no word
      all-is : settled_in (blamed seen) x.planes is ch ticks 16 ≡ settled_in (blamed seen) x.planes is ch ticks n
      all-is =
          let inside : ch < 2 ^ n = rw c unchanged.inside in
          passed (settled_rests (blamed seen) x.planes is ch ticks 16 (omega arith) (lt_of_lt_of_le inside (pow_mono h.few))) n 16 h.few (omega arith)
          (λ j u v. bit_past ch n j inside u)

      pub settles : {then : List ℕ} → then ≡ settled_in (blamed seen) x.planes is ch ticks 16 → Stored plan seen w x array is then
      unfolding settled_in
      settles f =
          stored refl
          (f ∙ all-is
          ∙ (λ j. sets (mid-is j) firsts_at (tabulate (λ i. cond (bit_of ch i) (new_first (blamed seen) x.planes.normal is.normal ticks i) (get_or (firsts_in ticks) i 0)) n))
          ∙ ap (sets mid_then firsts_at) (tabulate_ext _ _ n first-is))

-- what holds after both are stored
module _ {plan : Plan} {seen : Seen} {w : Asked} {x : Mark} {array : List ℕ} {room : ℕ} (h : ScanReady plan seen w x array room)
    {is : Planes} {array' : List ℕ} (s : Stored plan seen w x array is array') where
  pub narrow_then : blamed seen < 2 ^ 16 → Narrow (firsts_in array')
  unfolding scanned
  narrow_then small =
      subst (λ (t : Table). Narrow t.firsts) (sym s.table)
      (settled_after plan.count (associations_in array) (delays_in array) plan.period seen w (table_in x.planes array) small h.settled.narrow).narrow

  module _ {ch : ℕ} (c : ch ≡ changed_of x.planes is) where
    entries_are : scan_entries (firsts_in array') x is ch ≡ entries_by plan seen w x array
    unfolding scanned
    entries_are =
        rw c
        (ap (λ (b : Table). entries_to x.next (x.scans_done + 1) (changed_of x.planes b.planes) x.planes b.planes b.firsts 16) s.table)

    pub fits_then : x.at + record_length * length (scan_entries (firsts_in array') x is ch) ≤ room
    fits_then = rw entries_are h.fits

    pub scanned_is : {at q live : ℕ} {buf buf' : List ℕ} → at ≡ x.at + record_length * length (scan_entries (firsts_in array') x is ch)
        → q ≡ (x.next + (at - x.at) / record_length) % 2 ^ 16 → live ≡ x.live + one (not (eqb ch 0))
        → buf' ≡ sets buf x.at (joined (scan_entries (firsts_in array') x is ch))
        → ScanDone plan seen w x array buf (record { scans_done = x.scans_done + 1; next = q; at = at; live = live; planes = is }) array' buf'
    unfolding scanned
    scanned_is {at} {q} {live} {buf} a e l b =
        let es = scan_entries (firsts_in array') x is ch in
        let r : q ≡ (x.next + length es) % 2 ^ 16 =
        e ∙ ap (λ (m : ℕ). (x.next + (m - x.at) / record_length) % 2 ^ 16) a ∙ ap (λ (m : ℕ). (x.next + m) % 2 ^ 16) (twelfth x.at (length es)) in
        let v : live ≡ x.live + one (not (eqb (changed_of x.planes is) 0)) = l ∙ ap (λ (m : ℕ). x.live + one (not (eqb m 0))) c in
        record {
          board = λ j. record {
            scans_done = x.scans_done + 1;
            next = (r ∙ ap (λ (k : List (List ℕ)). (x.next + length k) % 2 ^ 16) entries_are) j;
            at = (a ∙ ap (λ (k : List (List ℕ)). x.at + record_length * length k) entries_are) j;
            live = (v ∙ ap (λ (b : Table). x.live + one (not (eqb (changed_of x.planes b.planes) 0))) s.table) j;
            table = s.table j;
          };
          laid = b ∙ ap (λ (k : List (List ℕ)). sets buf x.at (joined k)) entries_are;
          same = s.same;
        }

-- ## After a scan

-- what is known of the board is known of the mark and its array
pub settled_there : {n : ℕ} {b : Board} (y : Mark) (array : List ℕ) → board_at y array ≡ b → Settled n b.table → Settled n (table_in y.planes array)
settled_there {n} y array e = subst (λ (t : Table). Settled n t) (sym (ap (λ (c : Board). c.table) e))

pub within_there : (n : ℕ) {b : Board} (y : Mark) (array : List ℕ) → board_at y array ≡ b → Within n b.table.planes → Within n y.planes
within_there n y array e = subst (λ (p : Planes). Within n p) (sym (ap (λ (c : Board). c.table.planes) e))

-- ## Scans that are not live

module _ (k n period : ℕ) (array : List ℕ) {array' : List ℕ} (few : n ≤ part_length) (long : length array ≡ array_length)
    (t : array' ≡ fallen n (k * period) array) where
  abbrev rest : ℕ → ℕ
  rest i = get_or (timers_in array) i 0 - k * period

  pub skipped_is : (y : Mark) {z : Mark} → z ≡ (record { scans_done = y.scans_done + k; next = y.next; at = y.at; live = y.live; planes = y.planes })
      → board_at z array' ≡ later k n period (board_at y array)
  unfolding later table_later
  skipped_is y e = rw (e, timers_filled rest n array t few long, firsts_kept rest n array t few long)

  pub skipped_same : Same array array'
  skipped_same = timers_same rest n array t few long
