-- `effects::head_of` meets its contract: the bytes of a number that is put together from fields are those of the fields.
use mathlib.Core.Path.{ap₂, ◌∙◌}
use mathlib.Core.List.{◌++◌}
use Prim.Native.Nat.{◌+◌, ◌*◌}
use native.Mathlib.Omega.{arith}
use Rattle.bits.proofs.Numbers.{digits_joined}
use Rattle.effects.proofs.head_of.Goals as goal

pub returns : goal.returns
returns c =
    let r = c.args.r in
    digits_joined 5 2 (r.seq * 4294967296 + r.scan) (r.effect * 256 + r.from) (omega arith)
    ∙ ap₂ ◌++◌ (digits_joined 1 4 r.seq r.scan (omega arith)) (digits_joined 0 1 r.effect r.from (omega arith))
