-- `cases::put_line` meets its contract: it puts the pair, and the last byte behind it.
use Rattle.cases.proofs.Joined.{line-is}
use Rattle.cases.proofs.put_line.Goals as goal

pub returns-clause-out_after : goal.returns-clause-out_after
returns-clause-out_after c =
    let s = c.args in
    let p = c.put_pair-n.ensures in
    line-is s.out.now _ _ _ s.a.now s.b.now _ p.out_after p.value c.put.ensures
