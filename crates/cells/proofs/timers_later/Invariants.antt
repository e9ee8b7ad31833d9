-- `cells::timers_later` meets its contract. The loop's invariant: whatever the count is, the effects in the word below some m have their
-- timers, and the word holds those from m on.
use Prim.Native.Nat.{ℕ, ◌-◌}
use lib.ListN.{get_or}
use Rattle.cells.specs.Array.{timers_at, timers_in}
use Rattle.boards.proofs.Bits.{Rests, Done}
use Rattle.cells.proofs.Filled.{up_to}
use Rattle.cells.proofs.timers_later.Given as goal

abbrev pub invariant-loop-i : goal.invariant-loop-i
invariant-loop-i l =
    let filled = up_to timers_at (λ i. get_or (timers_in l.fn.board) i 0 - l.by) l.fn.board in
    (n : ℕ) → Rests n l.delayed filled → Done n l.delayed filled l.board l.i-iterator.0
