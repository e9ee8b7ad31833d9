-- `cases::put_pair` meets its contract: three runs of stores, one after another, are one.
use Rattle.cases.proofs.Joined.{pair_is}
use Rattle.cases.proofs.put_pair.Goals as goal

pub returns-clause-out_after : goal.returns-clause-out_after
returns-clause-out_after c =
    let s = c.args in
    pair_is s.out.now _ _ _ s.at s.a.now s.b.now c.put_hex.ensures c.put.ensures c.put_hex-2.ensures
