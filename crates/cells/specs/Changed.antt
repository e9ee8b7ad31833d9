-- What a scan changes in the array: the timers run, and an effect whose state has changed gets its timer and its first-out. No entry
-- point's contract cites this page.
use Rattle.std.specs.Prelude.{cond, List, ℕ, ◌+◌, ◌-◌, set, get_or}
use Rattle.std.proofs.lemmas.List.Edits.{sets}
use Rattle.bits.specs.Lists.{tabulate}
use Rattle.bits.specs.Words.{bit_of}
use Rattle.planes.specs.declared.Planes.{Planes}
use Rattle.boards.specs.Table.{first_by}
use Rattle.cells.specs.Array.{timers_at, firsts_at, associations_in, delays_in, timers_in, firsts_in}

-- the timers of n effects have fallen by so many milliseconds
abbrev pub fallen : (n by : ℕ) → (array : List ℕ) → List ℕ
fallen n by array = sets array timers_at (tabulate (λ i. get_or (timers_in array) i 0 - by) n)

-- the timer of effect i, whose state has changed. delayed: the effects in Delayed now
abbrev pub new_timer : (delayed : ℕ) → (array : List ℕ) → ℕ → ℕ
new_timer delayed array i = cond (bit_of delayed i) (get_or (delays_in array) i 0) 0

-- its first-out. causes: those that it may take. was, is: the effects in Normal before and now
abbrev pub new_first : (causes was is : ℕ) → (array : List ℕ) → ℕ → ℕ
new_first causes was is array = first_by (firsts_in array) (associations_in array) causes was is

-- effect i has its new timer and first-out
abbrev pub settled_at : (causes was is delayed i : ℕ) → (array : List ℕ) → List ℕ
settled_at causes was is delayed i array =
    set (set array (timers_at + i) (new_timer delayed array i)) (firsts_at + i) (new_first causes was is array i)

-- the effects in the word `ch`, of n, have theirs
unfoldable pub settled_in : (causes : ℕ) → (was is : Planes) → (ch : ℕ) → (array : List ℕ) → (n : ℕ) → List ℕ
settled_in causes was is ch array n =
    sets (sets array timers_at (tabulate (λ i. cond (bit_of ch i) (new_timer is.delayed array i) (get_or (timers_in array) i 0)) n))
    firsts_at (tabulate (λ i. cond (bit_of ch i) (new_first causes was.normal is.normal array i) (get_or (firsts_in array) i 0)) n)
