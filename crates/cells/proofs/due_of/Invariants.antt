-- `cells::due_of` meets its contract. The loop's invariant: the word of what is due below some m, and the word holds the effects from m on.
use Rattle.bits.specs.Words.{word_of}
use Rattle.cells.specs.Array.{timers_in}
use Rattle.boards.specs.Table.{due_in}
use Rattle.boards.proofs.Bits.{Done}
use Rattle.cells.proofs.due_of.Given as goal

abbrev pub invariant-loop-i : goal.invariant-loop-i
invariant-loop-i l = Done l.plan.count l.delayed (word_of (due_in (timers_in l.board) l.plan.period l.delayed)) l.word l.i-iterator.0
