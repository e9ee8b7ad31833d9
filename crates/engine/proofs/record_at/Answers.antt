-- `engine::record_at` meets its contract, from what its callees ensure.
use Rattle.cells.specs.Array.{firsts_at}
use Rattle.cells.proofs.Filled.{get_d_part}
use Rattle.engine.proofs.record_at.Goals as goal

pub returns : goal.returns
returns c =
    rw (c.code_at.ensures, c.code_at-2.ensures, get_d_part firsts_at c.args.board.now c.args.i c.requires.0)
