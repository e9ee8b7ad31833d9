-- `engine::put_changed` meets its contract. The loop's invariant: the records of the effects below some m are written, with the first-outs
-- that they have at the end, the array has their timers and first-outs, and the word holds the effects from m on.
use Rattle.cells.specs.Array.{firsts_in}
use Rattle.cells.specs.Changed.{settled_in}
use Rattle.boards.proofs.Bits.{Done}
use Rattle.engine.proofs.Records.{Put}
use Rattle.engine.proofs.put_changed.Given as goal

abbrev pub invariant-loop-i : goal.invariant-loop-i
invariant-loop-i l =
    Put l.fn.buf (firsts_in (settled_in l.causes l.x.planes l.is l.ch l.fn.board 16)) l.x l.is l.ch l.buf l.at l.q l.i-iterator.0
    × Done 16 l.ch (settled_in l.causes l.x.planes l.is l.ch l.fn.board) l.board l.i-iterator.0
