-- The loop over rounds by words: a scan, a skip and a turn of it are those of the slots.
use mathlib.Core.Path.{◌≡◌, refl, ap, sym, ◌∙◌}
use mathlib.Core.Bool.{Bool, true, false, not, cond}
use mathlib.Core.List.{List, [], ◌∷◌}
use Prim.Native.Nat.{ℕ, suc, ◌+◌, ◌-◌, ◌*◌, ◌%◌, ◌^◌, ◌<◌, ◌≤◌}
use native.Mathlib.Nat.{mod-lt, zero-lt-suc}
use native.Mathlib.Omega.{arith}
use lib.Dec.{eqb, leb}
use lib.ListN.{get_or, length, length-append}
use lib.Seq.{sets, length-sets}
use Rattle.bits.specs.Lists.{tabulate}
use Rattle.bits.specs.Words.{word_of, one}
use Rattle.bits.proofs.Lists.{length-tabulate, map-tabulate}
use Rattle.bits.proofs.Words.{word_of_lt}
use Rattle.rules.specs.Limits.{most_hold, most_period, most_scans}
use Rattle.rules.specs.declared.Slot.{Slot}
use Rattle.rules.specs.declared.Seen.{Seen}
use Rattle.rules.specs.Signals.{Signals}
use Rattle.rules.specs.Rules.{no_slot, asks, moved, next}
use Rattle.effects.specs.Records.{record_length, bytes}
use Rattle.effects.specs.Scan.{wrapped, any_moved, seq_after}
use Rattle.effects.proofs.Laws.{length-steps}
use Rattle.rounds.specs.Steps.{Run, scan, clear, held}
use Rattle.rounds.specs.Stroke.{quiets, advances, skip}
use Rattle.rounds.proofs.Effects.{timed_tabulate}
use Rattle.rounds.proofs.Held.{due}
use Rattle.planes.specs.declared.Asked.{Asked}
use Rattle.boards.specs.Board.{Board, entries_of, scanned, later, unset, signals_by, signals_in, run_of, Right, board_of}
use Rattle.boards.specs.Table.{Table, blamed, Settled, Within, Steady, table_of, table_after, quiets_by, slots_of, padded, joined, entries_to}
use Rattle.planes.specs.Planes.{planes_of, planes_after, changed_of, asked_of}
use Rattle.planes.proofs.ByWord.{changed_word}
use Rattle.boards.proofs.Calm.{unset_word, not_live, calm}
use Rattle.boards.proofs.Steady.{steady_states}
use Rattle.boards.proofs.Step.{Sees, table_step, table_middle}
use Rattle.boards.proofs.Rest.{settled_after, settled_later}
use Rattle.boards.proofs.Quiet.{live_word, quiets_word, later_word}
use Rattle.boards.proofs.Scanned.{records_word}
use Rattle.boards.proofs.Slots.{length-slots}
use Rattle.boards.proofs.Going.{Going, turn, fit, begins, ends}

-- ## The reset cleared

sees_clear : (associations delays : List ℕ) (period : ℕ) (seen : Seen) (s : ℕ → Signals) → Sees associations delays period seen s → Sees associations delays period seen (λ i. clear (s i))
sees_clear associations delays period seen s h = record { active = h.active; bad = h.bad; delay = h.delay; time = h.time }

-- ## What a scan and a skip keep

length-advances : (k : ℕ) (ss : List Signals) (xs : List Slot) → length (advances k ss xs) ≡ length xs
length-advances k [] xs = refl
length-advances k (s ∷ ss) [] = refl
length-advances k (s ∷ ss) (x ∷ xs) = ap suc (length-advances k ss xs)

seq_lt : (q : ℕ) (ss : List Signals) (xs : List Slot) → q < 65536 → seq_after q ss xs < 65536
seq_lt q [] xs h = h
seq_lt q (s ∷ ss) [] h = h
seq_lt q (s ∷ ss) (x ∷ xs) h = seq_lt (cond (moved s x) (wrapped q) q) ss xs (go (moved s x))
  where
    go : (b : Bool) → cond b (wrapped q) q < 65536
    go true = mod-lt (q + 1) (zero-lt-suc 65535)
    go false = h

-- ## One scan and one skip

abbrev board : (done next at live : ℕ) → Table → Board
board d q a l t = record { scans_done = d; next = q; at = a; live = l; table = t }

board_path : {d q q' a a' l l' : ℕ} {t t' : Table} → q ≡ q' → a ≡ a' → l ≡ l' → t ≡ t' → board d q a l t ≡ board d q' a' l' t'
board_path {d} e f g h = λ i. board d (e i) (f i) (g i) (h i)

module _ (n : ℕ) (few : n ≤ 16) (associations delays : List ℕ) (period : ℕ) (seen : Seen) (s : ℕ → Signals) (sees : Sees associations delays period seen s)
    (r : Run) (long : length r.slots ≡ 16) where
  abbrev T : List Signals
  T = tabulate s n

  abbrev xs : List Slot
  xs = r.slots

  abbrev y : ℕ → Slot
  y i = next (s i) (get_or xs i no_slot)

  abbrev w : Asked
  w = asked_of n (λ i. asks (s i))

  middle : table_after n associations delays period seen w (table_of n xs)
      ≡ record { planes = planes_of n (λ i. (y i).state); timers = padded n (λ i. (y i).timer); firsts = padded n (λ i. (y i).first_out) }
  middle = table_middle n few associations delays period seen s sees xs long

  calm_table : changed_of (table_of n xs).planes (table_after n associations delays period seen w (table_of n xs)).planes ≡ 0
      → let p = (table_after n associations delays period seen w (table_of n xs)).planes in changed_of p (planes_after (unset w) 0 p) ≡ 0
  unfolding table_of
  calm_table = rw middle (calm n few s (λ i. leb (get_or xs i no_slot).timer (s i).period) (λ i. (get_or xs i no_slot).state))

  entries_middle : entries_of n associations delays period seen w (board_of n r)
      ≡ entries_to r.next (r.scans_done + 1) (word_of (λ i. moved (s i) (get_or xs i no_slot)) n) (planes_of n (λ i. (get_or xs i no_slot).state)) (planes_of n (λ i. (y i).state)) (padded n (λ i. (y i).first_out)) 16
  unfolding table_of
  entries_middle = rw (middle, changed_word n few)

  module _ (small : r.next < 65536) where
    pub laid_word : joined (entries_of n associations delays period seen w (board_of n r)) ≡ bytes (due T r)
    laid_word = ap joined entries_middle ∙ (records_word n few s xs long r.next (r.scans_done + 1) small).1

    pub count_word : length (entries_of n associations delays period seen w (board_of n r)) ≡ length (due T r)
    count_word = ap length entries_middle ∙ (records_word n few s xs long r.next (r.scans_done + 1) small).0

    seq_word : (r.next + length (entries_of n associations delays period seen w (board_of n r))) % 2 ^ 16 ≡ seq_after r.next T xs
    seq_word = ap (λ (l : List (List ℕ)). (r.next + length l) % 2 ^ 16) entries_middle ∙ sym (records_word n few s xs long r.next (r.scans_done + 1) small).2

    live_here : not (eqb (changed_of (table_of n xs).planes (table_after n associations delays period seen w (table_of n xs)).planes) 0) ≡ any_moved T xs
    unfolding table_of
    live_here = ap (λ (b : Table). not (eqb (changed_of (planes_of n (λ i. (get_or xs i no_slot).state)) b.planes) 0)) middle ∙ live_word n few s xs long

    pub scan_word : scanned n associations delays period seen w (board_of n r) ≡ board_of n (scan T r)
    unfolding scanned
    scan_word =
        board_path seq_word (omega (arith, count_word, length-append r.events (due T r))) (ap (λ (b : Bool). r.live + one b) live_here)
        (table_step n few associations delays period seen s sees xs long)

  pub skip_word : (k : ℕ) → later k n period (board_of n r) ≡ board_of n (skip k T r)
  unfolding later
  skip_word k = board_path refl refl refl (later_word n few s xs long associations delays period seen sees k)

-- the words show no effect past the first n
within_shown : (n : ℕ) (r : Run) → Within n (board_of n r).table.planes
unfolding table_of planes_of
within_shown n r = (word_of_lt _ n, word_of_lt _ n)

-- ## The loop

-- the whole held run
abbrev pub whole : (n : ℕ) (associations delays : List ℕ) (period : ℕ) (seen : Seen) (hold : ℕ) → Asked → Board → Run
whole n associations delays period seen hold w x = held (signals_in n associations delays period seen w) hold (run_of n x)

-- at the loop's head: the words are those of the signals and slots of the loop over lists, and what holds at its head holds
pub record Kept (n : ℕ) (associations delays : List ℕ) (period : ℕ) (seen : Seen) (hold : ℕ) (w₀ : Asked) (x₀ : Board) (buf₀ : List ℕ)
    (w : Asked) (x : Board) (buf : List ℕ) (left fuel : ℕ) : Type 0 where
  pub few : n ≤ 16
  pub pos : 0 < period
  pub short : period ≤ most_period
  pub causes : blamed seen < 2 ^ 16
  pub s : ℕ → Signals
  pub r : Run
  pub sees : Sees associations delays period seen s
  pub long : length r.slots ≡ 16
  pub small : r.next < 65536
  pub asked : w ≡ asked_of n (λ i. asks (s i))
  pub shown : x ≡ board_of n r
  pub settled : Settled n x.table
  pub going : Going (whole n associations delays period seen hold w₀ x₀) buf₀ (tabulate s n) r buf left fuel

module _ {n : ℕ} {associations delays : List ℕ} {period : ℕ} {seen : Seen} {hold : ℕ} {w₀ : Asked} {x₀ : Board} {buf₀ : List ℕ}
    {w : Asked} {x : Board} {buf : List ℕ} {left fuel : ℕ} (h : Kept n associations delays period seen hold w₀ x₀ buf₀ w x buf left fuel) where
  abbrev all : Run
  all = whole n associations delays period seen hold w₀ x₀

  abbrev S : List Signals
  S = tabulate h.s n

  abbrev W : Asked
  W = asked_of n (λ i. asks (h.s i))

  -- the run after the scan
  abbrev q : Run
  q = scan S h.r

  scan_here : scanned n associations delays period seen W (board_of n h.r) ≡ board_of n q
  scan_here = scan_word n h.few associations delays period seen h.s h.sees h.r h.long h.small

  pub as_long : length buf ≡ length buf₀
  as_long = ap length h.going.laid ∙ length-sets buf₀ 0 (bytes h.r.events)

  pub done_fits : x.scans_done + left ≤ most_scans
  done_fits = rw h.shown h.going.room

  pub live_fits : x.live + left ≤ most_hold
  live_fits = rw h.shown h.going.few

  -- only the first n effects are in Delayed or in Normal, before a scan and after it
  pub within : Within n x.table.planes
  within = rw h.shown (within_shown n h.r)

  pub within_then : Within n (scanned n associations delays period seen w x).table.planes
  within_then = rw (h.shown, h.asked, scan_here) (within_shown n q)

  -- what a scan does not change stays
  pub steady : Steady n x.table.planes (scanned n associations delays period seen w x).table.planes
  unfolding table_of
  steady = rw (h.shown, h.asked, scan_here) (steady_states n h.few _ _)

  -- after a scan that is not live the next one changes no state, where nothing is due
  pub calm_scanned : (scanned n associations delays period seen w x).live ≡ x.live
      → let p = (scanned n associations delays period seen w x).table.planes in changed_of p (planes_after (unset w) 0 p) ≡ 0
  unfolding scanned
  calm_scanned = rw (h.shown, h.asked) (λ e. calm_table n h.few associations delays period seen h.s h.sees h.r h.long (not_live _ _ e))

  -- what has to rest after a scan rests
  pub settled_scanned : Settled n (scanned n associations delays period seen w x).table
  unfolding scanned
  settled_scanned = settled_after n associations delays period seen w x.table h.causes h.settled.narrow

  module _ (more : 0 < left) where
    abbrev t : ℕ → Signals
    t i = clear (h.s i)

    abbrev C : List Signals
    C = tabulate t n

    sees_then : Sees associations delays period seen t
    sees_then = sees_clear associations delays period seen h.s h.sees

    long_q : length q.slots ≡ 16
    long_q = length-steps S h.r.slots ∙ h.long

    abbrev j : ℕ
    j = quiets (left - 1) C q.slots

    quiet_here : quiets_by (left - 1) n period (asked_of n (λ i. asks (t i))) (table_of n q.slots).planes (table_of n q.slots).timers ≡ j
    quiet_here = quiets_word n h.few t q.slots long_q associations delays period seen sees_then (left - 1) h.pos h.short (omega (arith, h.going.few))

    -- the board after the scan, and the scans that it skips
    abbrev then : Board
    then = scanned n associations delays period seen W (board_of n h.r)

    abbrev skips : ℕ
    skips = quiets_by (left - 1) n period (unset W) then.table.planes then.table.timers

    settled_then : Settled n (later skips n period then).table
    unfolding later
    settled_then = settled_later skips n period then.table (rw (h.shown, h.asked) at settled_scanned)

    kept_then : Kept n associations delays period seen hold w₀ x₀ buf₀ (unset W) (later skips n period then)
        (sets buf (record_length * length h.r.events) (joined (entries_of n associations delays period seen W (board_of n h.r)))) (left - 1 - skips) (fuel - 1)
    kept_then =
        rw (laid_word n h.few associations delays period seen h.s h.sees h.r h.long h.small, scan_here, unset_word n h.s, quiet_here)
        (record {
          few = h.few;
          pos = h.pos;
          short = h.short;
          causes = h.causes;
          s = t;
          r = skip j C q;
          sees = sees_then;
          long = length-advances j C q.slots ∙ long_q;
          small = seq_lt h.r.next S h.r.slots h.small;
          asked = refl;
          shown = skip_word n h.few associations delays period seen t sees_then q long_q j;
          settled = rw (scan_here, unset_word n h.s, quiet_here) at settled_then;
          going = rw (map-tabulate clear h.s n) at (turn h.going more);
        })

    pub fits : record_length * length all.events ≤ length buf₀ → x.at + record_length * length (entries_of n associations delays period seen w x) ≤ length buf
    fits v =
        rw (h.shown, h.asked, count_word n h.few associations delays period seen h.s h.sees h.r h.long h.small)
        (fit h.going more v)

    -- a turn of the loop, by what the calls in it ensure
    pub turned : {y z : Board} {buf' : List ℕ} {v : Asked} {k : ℕ}
        → y ≡ scanned n associations delays period seen w x → buf' ≡ sets buf x.at (joined (entries_of n associations delays period seen w x)) → v ≡ unset w
        → k ≡ quiets_by (left - 1) n period v y.table.planes y.table.timers → z ≡ later k n period y
        → Kept n associations delays period seen hold w₀ x₀ buf₀ v z buf' (left - 1 - k) (fuel - 1)
    turned ey eb ev ek ez = rw (ez, ek, ev, eb, ey, h.shown, h.asked) kept_then

  pub ended : left ≡ 0 → (x ≡ board_of n all) × (buf ≡ sets buf₀ 0 (bytes all.events))
  ended e =
      let f = ends h.going e in
      (h.shown ∙ ap (board_of n) f, h.going.laid ∙ ap (λ (r : Run). sets buf₀ 0 (bytes r.events)) f)

-- the run that starts at a board
abbrev pub fresh : Board → Board
fresh x = board x.scans_done x.next 0 0 x.table

-- what holds at the head holds at the start
pub starts : (n : ℕ) (associations delays : List ℕ) (period : ℕ) (seen : Seen) (hold : ℕ) (w : Asked) (x : Board) (buf : List ℕ) (fuel : ℕ)
    → n ≤ 16 → 0 < period → period ≤ most_period → blamed seen < 2 ^ 16 → Right n associations delays period seen w x → x.next < 65536 → hold ≤ most_hold → x.scans_done + hold ≤ most_scans → 2 * n < fuel
    → Kept n associations delays period seen hold w (fresh x) buf w (fresh x) buf hold fuel
unfolding signals_by
starts n associations delays period seen hold w x buf fuel few pos short causes right small h room f =
    record {
      few = few;
      pos = pos;
      short = short;
      causes = causes;
      s = signals_by associations delays period seen w;
      r = run_of n x;
      sees = record { active = λ i. refl; bad = λ i. refl; delay = λ i. refl; time = λ i. refl };
      long = length-slots n few x.table;
      small = small;
      asked = right.asked;
      shown = board_path refl refl refl right.table.slots;
      settled = right.table.settled;
      going =
          begins hold (signals_in n associations delays period seen w) x.scans_done x.next (slots_of n x.table) buf fuel
          (timed_tabulate (signals_by associations delays period seen w) n (λ i. (pos, short))) h room (rw length-tabulate f);
    }
