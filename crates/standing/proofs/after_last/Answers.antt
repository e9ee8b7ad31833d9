-- `standing::after_last` meets its contract, by the laws of `Rows` and `Last`.
use native.Mathlib.Omega.{arith}
use Rattle.reasoned.proofs.Rows.{next_row}
use Rattle.standing.proofs.Rows.{few_planned, narrow, row_ready, records_grow, recorded}
use Rattle.rerun.proofs.Turns.{ended}
use Rattle.standing.proofs.Last.{more, stands}
use Rattle.standing.proofs.after_last.Goals as goal

pub sight_at-sight-requires : goal.sight_at-sight-requires
sight_at-sight-requires c = let p = c.requires in next_row p.0 (more p.0 p.1 p.2)

pub slots_of-from-requires : goal.slots_of-from-requires
slots_of-from-requires c = let p = c.requires in (few_planned p.0, narrow p.0)

pub go-requires : goal.go-requires
go-requires c =
    let p = c.requires in
    row_ready p.0 (more p.0 p.1 p.2) _ (omega arith)

pub overflow_sub-end : goal.overflow_sub-end
overflow_sub-end c =
    let p = c.requires in
    records_grow p.0 (more p.0 p.1 p.2) p.2 (ended _ c.go.ensures _ c.run_of-end.ensures) (omega arith)

pub tell_all-requires : goal.tell_all-requires
tell_all-requires c =
    let p = c.requires in
    recorded p.0 (more p.0 p.1 p.2) p.2 (ended _ c.go.ensures _ c.run_of-end.ensures) (omega arith)

pub slots_of-to-requires : goal.slots_of-to-requires
slots_of-to-requires c =
    (few_planned c.requires.0, narrow (ended _ c.go.ensures _ c.run_of-end.ensures).going)

pub returns : goal.returns
returns c =
    let p = c.requires in
    stands p.0 p.1 p.2 (ended _ c.go.ensures _ c.run_of-end.ensures) (omega arith) _ _ _ _ _ c.sight_at-sight.ensures c.slots_of-from.ensures c.saturating_sub.ensures
    c.tell_all.ensures c.slots_of-to.ensures
