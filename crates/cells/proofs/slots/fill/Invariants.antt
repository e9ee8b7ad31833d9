-- `cells::slots::fill` meets its contract. The loop's invariant: the entries before i are filled.
use Rattle.std.proofs.Common.{◌≡◌, ℕ, ◌<◌}
use Rattle.cells.proofs.Filled.{up_to}
use Rattle.cells.proofs.slots.fill.Given as goal

abbrev pub invariant-loop-i : goal.invariant-loop-i
invariant-loop-i g l =
    (f : ℕ → ℕ) → ((i v : ℕ) → i < l.count → goal.F-post g l.number i v → v ≡ f i) → l.board ≡ up_to l.at f l.fn.board l.i
