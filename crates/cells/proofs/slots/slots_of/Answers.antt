-- `cells::slots::slots_of` meets its contract. The loop's invariant: the slots before i are filled, and the rest are of no effect.
use mathlib.Core.Path.{◌≡◌, refl}
use native.Mathlib.Nat.{mod-eq_of_lt}
use native.Mathlib.Omega.{arith}
use borrow.Author.Rules.{rules}
use lib.ListN.{replicate}
use Rattle.bits.specs.Lists.{tabulate}
use Rattle.bits.proofs.Lists.{fill}
use Rattle.rules.specs.Rules.{no_slot}
use Rattle.cells.specs.Array.{timers_at, firsts_at}
use Rattle.boards.specs.Table.{slots_of}
use Rattle.cells.proofs.Filled.{get_d_part}
use Rattle.cells.proofs.slots.slots_of.Goals as goal

pub loop-i-init : goal.loop-i-init
unfolding tabulate
loop-i-init c = refl

pub loop-i-preserved : goal.loop-i-preserved
loop-i-preserved c =
    let i = c.loop-i.i in
    let b = c.args.board.now in
    rw (c.slot_of.ensures, ← get_d_part timers_at b i (omega arith), ← get_d_part firsts_at b i (omega arith), mod-eq_of_lt (c.requires.1 i), c.loop-i.invariant)
    (fill _ (replicate 16 no_slot) i no_slot (omega arith))

pub returns : goal.returns
unfolding slots_of
returns c =
    let e : c.loop-i.i ≡ c.args.count = omega arith in
    rw (c.loop-i.invariant, e)
