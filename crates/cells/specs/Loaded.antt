-- What the array holds beside the states by words, and how slots are put into it. No entry point's contract cites this page.
use Rattle.std.specs.Prelude.{ℕ, List, get_or}
use Rattle.std.proofs.lemmas.List.Edits.{sets}
use Rattle.bits.specs.Lists.{tabulate}
use Rattle.rules.specs.declared.Slot.{Slot}
use Rattle.rules.specs.Rules.{no_slot}
use Rattle.planes.specs.declared.Planes.{Planes}
use Rattle.boards.specs.Table.{Table}
use Rattle.cells.specs.Array.{timers_at, firsts_at, timers_in, firsts_in}

-- what is kept of all effects: their states, with the array that is lent beside them
abbrev pub table_in : Planes → (array : List ℕ) → Table
table_in p array = record { planes = p; timers = timers_in array; firsts = firsts_in array }

-- the array with the timers and first-outs of n slots put in
unfoldable pub loaded_into : (n : ℕ) → List Slot → (array : List ℕ) → List ℕ
loaded_into n xs array =
    sets (sets array timers_at (tabulate (λ i. (get_or xs i no_slot).timer) n)) firsts_at (tabulate (λ i. (get_or xs i no_slot).first_out) n)
