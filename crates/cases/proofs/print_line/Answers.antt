-- `cases::print_line` meets its contract: the whole line is written, and nothing else.
use native.Mathlib.Omega.{arith}
use Rattle.cases.proofs.Joined.{line_at_front}
use Rattle.cases.proofs.print_line.Goals as goal

pub write_line-requires : goal.write_line-requires
write_line-requires g c =
    let put = c.put_line-n.ensures in
    let a = c.args in
    line_at_front a.line.now _ _ a.a.now a.b.now _ put.out_after put.value (omega (arith, put.value, c.requires))
