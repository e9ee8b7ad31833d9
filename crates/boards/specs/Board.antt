-- A run by words: one scan more, scans that are not live, and the run of slots that it shows. No entry point's contract cites this page.
use Rattle.std.specs.Prelude.{ℕ, ◌+◌, ◌*◌, ◌%◌, ◌^◌, ◌≡◌, not, List, eqb, length, get_or}
use Rattle.bits.specs.Lists.{tabulate}
use Rattle.bits.specs.Words.{bit_of, one}
use Rattle.rules.specs.declared.Seen.{Seen}
use Rattle.rules.specs.Signals.{Signals}
use Rattle.rules.specs.Rules.{asks}
use Rattle.effects.specs.Records.{record_length}
use Rattle.rounds.specs.Steps.{Run, start}
use Rattle.planes.specs.declared.Asked.{Asked}
use Rattle.planes.specs.Planes.{changed_of, asked_of}
use Rattle.boards.specs.Table.{Table, watched_by, table_after, table_later, Settled, table_of, slots_of, entries_to}

-- how far a run of scans has got: the scans done, the next sequence number, the place after its records, the live scans so far, and
-- what is kept of the effects
pub record Board : Type 0 where
  pub scans_done : ℕ
  pub next : ℕ
  pub at : ℕ
  pub live : ℕ
  pub table : Table

-- the records of a scan
abbrev pub entries_of : (n : ℕ) (associations delays : List ℕ) (period : ℕ) → Seen → Asked → Board → List (List ℕ)
entries_of n associations delays period seen w x =
    let y = table_after n associations delays period seen w x.table in
    entries_to x.next (x.scans_done + 1) (changed_of x.table.planes y.planes) x.table.planes y.planes y.firsts 16

-- the board after one scan more
unfoldable pub scanned : (n : ℕ) (associations delays : List ℕ) (period : ℕ) → Seen → Asked → Board → Board
scanned n associations delays period seen w x =
    let y = table_after n associations delays period seen w x.table in
    let es = entries_of n associations delays period seen w x in
    record {
      scans_done = x.scans_done + 1;
      next = (x.next + length es) % 2 ^ 16;
      at = x.at + record_length * length es;
      live = x.live + one (not (eqb (changed_of x.table.planes y.planes) 0));
      table = y;
    }

-- the board after k scans that are not live
unfoldable pub later : (k n period : ℕ) → Board → Board
later k n period x =
    record { scans_done = x.scans_done + k; next = x.next; at = x.at; live = x.live; table = table_later k n period x.table }

-- what is asked in the scans after the first: the reset counts in the first scan and is zero afterwards
abbrev pub unset : Asked → Asked
unset w =
    record {
      force_trip = w.force_trip;
      force_normal = w.force_normal;
      bad_trip = w.bad_trip;
      active = w.active;
      require_reset = w.require_reset;
      reset_permit = w.reset_permit;
      start_permit = w.start_permit;
      reset = 0;
      with_delay = w.with_delay;
    }

-- ## What the words show

-- the signals of effect i
unfoldable pub signals_by : (associations delays : List ℕ) (period : ℕ) → Seen → Asked → ℕ → Signals
signals_by associations delays period seen w i =
    record {
      active = watched_by associations seen.tripped i;
      bad = watched_by associations seen.bad i;
      trip = bit_of w.force_trip i;
      normal = bit_of w.force_normal i;
      require = bit_of w.require_reset i;
      permit = bit_of w.reset_permit i;
      start = bit_of w.start_permit i;
      reset = bit_of w.reset i;
      delay = get_or delays i 0;
      period = period;
    }

-- the signals of all effects
abbrev pub signals_in : (n : ℕ) (associations delays : List ℕ) (period : ℕ) → Seen → Asked → List Signals
signals_in n associations delays period seen w = tabulate (signals_by associations delays period seen w) n

-- the run that starts at a board
abbrev pub run_of : ℕ → Board → Run
run_of n x = start x.scans_done x.next (slots_of n x.table)

-- the board of a run: its place is after the records of its events
abbrev pub board_of : ℕ → Run → Board
board_of n r =
    record { scans_done = r.scans_done; next = r.next; at = record_length * length r.events; live = r.live; table = table_of n r.slots }

-- the table is that of the slots that it shows, and what has to rest in it rests
pub record Shown (n : ℕ) (b : Table) : Type 0 where
  pub slots : b ≡ table_of n (slots_of n b)
  pub settled : Settled n b

-- the words are those of the signals and slots that they show
pub record Right (n : ℕ) (associations delays : List ℕ) (period : ℕ) (seen : Seen) (w : Asked) (x : Board) : Type 0 where
  pub asked : w ≡ asked_of n (λ i. asks (signals_by associations delays period seen w i))
  pub table : Shown n x.table
