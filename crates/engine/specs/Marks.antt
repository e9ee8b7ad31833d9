-- A mark and the array that is lent beside it, as the board of words that they show. No entry point's contract cites this page.
use Rattle.std.specs.Prelude.{◌≡◌, ℕ, ◌+◌, ◌*◌, ◌%◌, ◌^◌, ◌<◌, ◌≤◌, List, length, slice_index}
use Rattle.rules.specs.Limits.{most_scans}
use Rattle.effects.specs.Records.{record_length}
use Rattle.effects.specs.declared.Record.{Record}
use Rattle.planes.specs.declared.Planes.{Planes}
use Rattle.planes.specs.Planes.{code_at}
use Rattle.boards.specs.Table.{Narrow, entries_to}
use Rattle.boards.specs.Board.{Board}
use Rattle.engine.specs.declared.Mark.{Mark}
use Rattle.cells.specs.Array.{array_length, firsts_in}
use Rattle.cells.specs.Changed.{settled_in}
use Rattle.cells.specs.Loaded.{table_in}

-- the run that starts where another run has ended
abbrev pub begun : Mark → Mark
begun x = record { scans_done = x.scans_done; next = x.next; at = 0; live = 0; planes = x.planes }

-- the board of a mark and its array
abbrev pub board_at : Mark → (array : List ℕ) → Board
board_at x array =
    record {
      scans_done = x.scans_done;
      next = x.next;
      at = x.at;
      live = x.live;
      table = table_in x.planes array;
    }

-- ## The records of a scan

-- the record of effect i of a scan from x to the states `is`. q: its sequence number
abbrev pub record_by : (firsts : List ℕ) → Mark → (is : Planes) → (q i : ℕ) → Record
record_by firsts x is q i =
    record {
      seq = q;
      scan = x.scans_done + 1;
      effect = i + 1;
      from = code_at x.planes i;
      to = code_at is i;
      first_out = slice_index firsts i % 2 ^ 16;
    }

-- the bytes of each record of a scan, of the effects in a word
abbrev pub scan_entries : (firsts : List ℕ) → Mark → (is : Planes) → (ch : ℕ) → List (List ℕ)
scan_entries firsts x is ch = entries_to x.next (x.scans_done + 1) ch x.planes is firsts 16

-- what is asked for where the effects in the word `ch` have changed from x to the states `is`, with the causes that a first-out may take
pub record Changeable (causes : ℕ) (x : Mark) (is : Planes) (ch : ℕ) (array : List ℕ) (room : ℕ) : Type 0 where
  pub long : length array ≡ array_length
  pub countable : x.scans_done < most_scans
  pub narrow : Narrow (firsts_in (settled_in causes x.planes is ch array 16))
  pub fits : x.at + record_length * length (scan_entries (firsts_in (settled_in causes x.planes is ch array 16)) x is ch) ≤ room
