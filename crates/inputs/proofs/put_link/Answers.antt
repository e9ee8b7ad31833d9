-- `inputs::put_link` is safe: the folder, the slash and the twenty digits of the longest number have room.
use native.Mathlib.Omega.{arith}
use Rattle.bits.proofs.Decimal.{length_of_64_bits}
use Rattle.inputs.proofs.put_link.Goals as goal

pub put_decimal-requires : goal.put_decimal-requires
put_decimal-requires g c = omega (arith, c.in-Ok.ensures.bound, c.put_text-end.ensures, length_of_64_bits c.args.i c.ranges.i.fits)

pub returns-in-Ok : goal.returns-in-Ok
returns-in-Ok g c = omega (arith, c.in-Ok.ensures.bound, c.put_text-end.ensures, c.put_decimal.ensures, length_of_64_bits c.args.i c.ranges.i.fits)
