-- `cells::tick` meets its contract. The loop's invariant: the word of what is due below some m, the timers of those effects in the array, and
-- the word holds the effects from m on.
use mathlib.Core.Path.{refl}
use native.Mathlib.Omega.{arith}
use Rattle.bits.specs.Lists.{tabulate}
use Rattle.bits.specs.Words.{word_of}
use Rattle.cells.specs.Array.{timers_in}
use Rattle.boards.specs.Table.{due_at}
use Rattle.boards.proofs.Bits.{started, ended}
use Rattle.boards.proofs.Due.{word_rest, no_higher, put}
use Rattle.cells.proofs.Filled.{there, stored, fallen_rest}
use Rattle.cells.proofs.tick.Goals as goal

pub loop-i-init : goal.loop-i-init
unfolding tabulate word_of
loop-i-init c =
    let a = c.args in
    rw c.into_iter-i-iterator.ensures.into_iter_gives (
      started (word_rest _ _ (due_at (timers_in a.board.now) a.plan.period) c.requires.0 c.requires.1) refl,
      started (fallen_rest a.board.now a.plan.count a.plan.period c.requires.0 a.delayed c.requires.1 c.requires.2) refl,
    )

pub put_bit-word-requires : goal.put_bit-word-requires
put_bit-word-requires c =
    let s = c.in-Some.ensures.steps in
    (s.2, rw s.1 (no_higher _ _ _ c.loop-i.invariant.0 s.0))

pub loop-i-preserved : goal.loop-i-preserved
loop-i-preserved c =
    let v = c.loop-i.invariant in
    let a = c.args in
    let s = c.in-Some.ensures.steps in (
      rw (c.put_bit-word.ensures, s.1, s.3, there _ _ _ _ _ v.1 s.0) (put _ _ (due_at (timers_in a.board.now) a.plan.period) v.0 s.0),
      rw (s.1, s.3) (stored _ _ _ _ _ v.1 s.0 _ (λ e. rw (c.saturating_sub.ensures, s.1, e))),
    )

pub returns : goal.returns
returns c =
    let s = c.in-None.ensures.steps in
    record { value = ended c.loop-i.invariant.0 s.0; board_after = ended c.loop-i.invariant.1 s.0 }
