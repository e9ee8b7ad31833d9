-- `cells::low_timer` meets its contract. The loop's invariant: the least timer of the effects in the word below some m,
-- and the word holds those from m on.
use lib.ListN.{get_or}
use Rattle.bits.specs.Words.{bit_of}
use Rattle.cells.specs.Array.{timers_in}
use Rattle.boards.specs.Table.{low_to}
use Rattle.boards.proofs.Bits.{Done}
use Rattle.cells.proofs.low_timer.Given as goal

abbrev pub invariant-loop-i : goal.invariant-loop-i
invariant-loop-i l = Done l.count l.delayed (low_to (bit_of l.delayed) (λ k. get_or (timers_in l.board) k 0)) l.low l.i-iterator.0
