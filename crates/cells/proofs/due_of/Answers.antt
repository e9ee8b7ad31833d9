-- `cells::due_of` meets its contract. The loop's invariant: the word of what is due below some m, and the word holds the effects from m on.
use mathlib.Core.Path.{refl}
use native.Mathlib.Omega.{arith}
use Rattle.bits.specs.Words.{word_of}
use Rattle.cells.specs.Array.{timers_at, timers_in}
use Rattle.boards.specs.Table.{due_at}
use Rattle.boards.proofs.Bits.{started, ended}
use Rattle.boards.proofs.Due.{word_rest, no_higher, put}
use Rattle.cells.proofs.Filled.{get_d_part}
use Rattle.cells.proofs.due_of.Goals as goal

pub loop-i-init : goal.loop-i-init
unfolding word_of
loop-i-init c =
    rw c.into_iter-i-iterator.ensures.into_iter_gives
    (started (word_rest _ _ (due_at (timers_in c.args.board.now) c.args.plan.period) c.requires.0 c.requires.1) refl)

pub put_bit-word-requires : goal.put_bit-word-requires
put_bit-word-requires c =
    let s = c.in-Some.ensures.steps in
    (s.2, rw s.1 (no_higher _ _ _ c.loop-i.invariant s.0))

pub loop-i-preserved : goal.loop-i-preserved
loop-i-preserved c =
    let a = c.args in
    let s = c.in-Some.ensures.steps in
    rw (c.put_bit-word.ensures, ← get_d_part timers_at a.board.now c.in-Some.i s.2, s.1, s.3)
    (put _ _ (due_at (timers_in a.board.now) a.plan.period) c.loop-i.invariant s.0)

pub returns : goal.returns
returns c = ended c.loop-i.invariant c.in-None.ensures.steps.0
