-- `numbers::put_check` meets its contract: three numbers if they fit, else nothing and 10.
use mathlib.Core.Path.{◌∙◌}
use mathlib.Core.List.{[], ◌∷◌}
use native.Mathlib.Omega.{arith}
use Rattle.numbers.specs.Numbers.{numbers}
use Rattle.numbers.proofs.Stores.{length-numbers, fits, stays}
use Rattle.numbers.proofs.put_check.Goals as goal

pub returns-then-out-lt-CHECK_BYTES-clause-out_after : goal.returns-then-out-lt-CHECK_BYTES-clause-out_after
returns-then-out-lt-CHECK_BYTES-clause-out_after c =
    let g = c.args in
    let values = g.number ∷ g.place ∷ g.rows ∷ [] in
    stays (numbers values) g.out.now (omega (arith, c.if-out-lt-CHECK_BYTES.true, length-numbers values))

pub returns-clause-out_after : goal.returns-clause-out_after
returns-clause-out_after c =
    let g = c.args in
    let values = g.number ∷ g.place ∷ g.rows ∷ [] in
    c.put_numbers.ensures ∙ fits (numbers values) g.out.now (omega (arith, c.if-out-lt-CHECK_BYTES.false, length-numbers values))
