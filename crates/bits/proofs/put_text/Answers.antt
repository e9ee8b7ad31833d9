-- `bits::put_text` meets its contract: the part from `at` on to the end of the text becomes the text.
use mathlib.Core.Path.{refl}
use native.Mathlib.Omega.{arith}
use Rattle.bits.proofs.Numbers.{part_text}
use Rattle.bits.proofs.put_text.Goals as goal

pub returns : goal.returns
returns c = (refl, part_text c.args.text.now c.args.s.now c.copy_from_slice.new.self c.args.at _ c.requires (omega arith) c.copy_from_slice.ensures.after)
