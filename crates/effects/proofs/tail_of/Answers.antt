-- `effects::tail_of` meets its contract, as `head_of` does; the zero between the fields is one of them.
use mathlib.Core.Path.{◌≡◌, ap, ◌∙◌}
use mathlib.Core.List.{List, ◌++◌}
use Prim.Native.Nat.{ℕ, ◌+◌, ◌*◌}
use native.Mathlib.Omega.{arith}
use Rattle.bits.specs.Numbers.{digits}
use Rattle.bits.proofs.Numbers.{digits_joined}
use Rattle.effects.proofs.tail_of.Goals as goal

pub returns : goal.returns
returns c =
    let r = c.args.r in
    let first = r.first_out in
    let with-zero : first ≡ 0 * 65536 + first = omega arith in
    digits_joined 0 3 r.to first (omega arith)
    ∙ ap (λ (l : List ℕ). digits 1 r.to ++ l) (ap (digits 3) with-zero ∙ digits_joined 0 2 0 first (omega arith))
