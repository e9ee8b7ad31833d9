-- `cells::watching` meets its contract. The loop's invariant: the word is that of the first i effects.
use mathlib.Core.Path.{◌≡◌, refl, sym}
use mathlib.Core.List.{List}
use Prim.Native.Nat.{ℕ, zero, suc}
use native.Mathlib.Omega.{arith}
use borrow.Author.Rules.{rules}
use lib.Bits.{and_zero_r}
use Rattle.bits.specs.Words.{word_of}
use Rattle.cells.specs.Array.{associations_in}
use Rattle.boards.specs.Table.{watches}
use Rattle.cells.proofs.Filled.{get_or_association}
use Rattle.cells.proofs.watching.Goals as goal

none_watches : (associations : List ℕ) (n : ℕ) → word_of (watches associations 0) n ≡ 0
unfolding word_of
none_watches associations zero = refl
none_watches associations (suc n) = rw (none_watches associations n, and_zero_r)

-- where there are no causes, no effect watches one
pub returns-then-causes-eq0 : goal.returns-then-causes-eq0
returns-then-causes-eq0 c =
    let a = c.args in
    rw c.if-causes-eq0.true (sym (none_watches (associations_in a.board.now) a.count))

pub returns : goal.returns
returns c =
    let a = c.args in
    c.word_where.ensures (watches (associations_in a.board.now) a.causes)
    (λ i b k e. rw (get_or_association a.board.now i (omega arith)) (search rules))
