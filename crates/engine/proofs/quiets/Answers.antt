-- `engine::quiets` meets its contract, from what its callees ensure.
use Rattle.std.proofs.Common.{◌≡◌, Bool, true, false, not, sym, refl, arith}
use Rattle.cells.specs.Array.{timers_in}
use Rattle.boards.specs.Table.{quiets_by}
use Rattle.boards.proofs.Quiet.{quiets_by_le}
use Rattle.boards.proofs.Low.{none_low}
use Rattle.engine.proofs.quiets.Goals as goal

turned_round : (b c : Bool) → b ≡ not c → c ≡ not b
turned_round true true e = e
turned_round true false e = refl
turned_round false true e = refl
turned_round false false e = e

-- where no scan is left
pub returns-then-n-eq0 : goal.returns-then-n-eq0
returns-then-n-eq0 c =
    let a = c.args in
    omega (arith, c.if-n-eq0.true, quiets_by_le a.n a.plan.count a.plan.period a.w a.p (timers_in a.board.now))

pub changes_next-requires : goal.changes_next-requires
changes_next-requires c =
    (c.requires.0, c.requires.4, c.low_timer-low.ensures, c.requires.5)

-- where the next scan is live
pub returns-then-changes_next : goal.returns-then-changes_next
unfolding quiets_by
returns-then-changes_next c = rw (turned_round _ _ c.changes_next.ensures, c.if-changes_next.true)

-- where no timer runs
pub returns-then-p-eq0 : goal.returns-then-p-eq0
unfolding quiets_by
returns-then-p-eq0 c =
    let a = c.args in
    rw (turned_round _ _ c.changes_next.ensures, c.if-changes_next.false)
    (sym (none_low a.n a.plan.period a.p.delayed a.plan.count _ c.requires.1 c.requires.2 c.requires.3 c.if-p-eq0.true))

pub returns : goal.returns
unfolding quiets_by
returns c =
    rw (c.min.ensures, c.saturating_sub.ensures, c.low_timer-low.ensures, turned_round _ _ c.changes_next.ensures, c.if-changes_next.false)
