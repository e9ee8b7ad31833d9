-- `season_table::put_effect` meets its contract: the effect's number, its sums and LF.
use mathlib.Core.List.{◌++◌}
use Prim.Native.Nat.{◌+◌, ◌≤◌}
use native.Mathlib.Omega.{arith}
use lib.ListN.{length}
use Rattle.bits.specs.Decimal.{ascii, decimal}
use Rattle.bits.proofs.Decimal.{length-decimal}
use Rattle.bits.proofs.Puts.{put_then}
use Rattle.tally.specs.Tally.{sums_of_effect}
use Rattle.season_table.specs.Pieces.{sums_text}
use Rattle.season_table.proofs.Texts.{line_pieces}
use Rattle.season_table.proofs.put_effect.Goals as goal

pub put_decimal-tripped-requires : goal.put_decimal-tripped-requires
put_decimal-tripped-requires c =
    -- an effect's number has at most two digits
    let short : length (decimal (c.args.i + 1)) ≤ 2 = length-decimal 1 (c.args.i + 1) (omega (arith, c.requires.0)) in
    omega (arith, short)

pub put_sums-end-requires : goal.put_sums-end-requires
put_sums-end-requires c =
    let short : length (decimal (c.args.i + 1)) ≤ 2 = length-decimal 1 (c.args.i + 1) (omega (arith, c.requires.0)) in
    (c.requires.0, omega (arith, short, c.put_decimal-tripped.ensures.0))

pub put_text-requires : goal.put_text-requires
put_text-requires c =
    let short : length (decimal (c.args.i + 1)) ≤ 2 = length-decimal 1 (c.args.i + 1) (omega (arith, c.requires.0)) in
    omega (arith, short, c.put_decimal-tripped.ensures.0, c.put_sums-end.ensures.upper_bound)

pub returns : goal.returns
returns c =
    let short : length (decimal (c.args.i + 1)) ≤ 2 = length-decimal 1 (c.args.i + 1) (omega (arith, c.requires.0)) in
    let a = c.args in
    let out = a.out.now in
    let first = decimal (a.i + 1) in
    let seven = sums_text a.sums.now a.i sums_of_effect in
    let both = put_then out _ _ a.at _ _ first seven c.put_decimal-tripped.ensures c.put_sums-end.ensures.value in
    let all = put_then out _ _ a.at _ _ (first ++ seven) (ascii "\n") both c.put_text.ensures in record {
      value = rw (line_pieces a.sums.now a.i) all;
      upper_bound = omega (arith, short, c.put_decimal-tripped.ensures.0, c.put_sums-end.ensures.upper_bound, c.put_text.ensures.0);
    }
