-- `cells::tick` meets its contract. The loop's invariant: the word of what is due below some m, the timers of those effects in the array, and
-- the word holds the effects from m on.
use Prim.Native.Nat.{◌-◌}
use lib.ListN.{get_or}
use Rattle.bits.specs.Words.{word_of}
use Rattle.cells.specs.Array.{timers_at, timers_in}
use Rattle.boards.specs.Table.{due_in}
use Rattle.boards.proofs.Bits.{Done}
use Rattle.cells.proofs.Filled.{up_to}
use Rattle.cells.proofs.tick.Given as goal

abbrev pub invariant-loop-i : goal.invariant-loop-i
invariant-loop-i l =
    Done l.plan.count l.delayed (word_of (due_in (timers_in l.fn.board) l.plan.period l.delayed)) l.word l.i-iterator.0
    × Done l.plan.count l.delayed (up_to timers_at (λ i. get_or (timers_in l.fn.board) i 0 - l.plan.period) l.fn.board) l.board l.i-iterator.0
