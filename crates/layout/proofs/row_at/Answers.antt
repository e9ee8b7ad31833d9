-- `layout::row_at` meets its contract: it reads the part of the slice that the definition takes.
use Rattle.layout.proofs.Within.{row_of_part}
use Rattle.layout.proofs.row_at.Goals as goal

pub returns : goal.returns
returns c =
    let a = c.args in
    row_of_part a.width a.s.now a.at c.get.result c.words_at.result c.get.ensures c.words_at.ensures
