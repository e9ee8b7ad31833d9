-- `season::count_piece` meets its contract, by the laws of `Loop`.
use native.Mathlib.Omega.{arith}
use Rattle.season.proofs.Loop.{piece_ready, records_grow, waiting, piece_counted}
use Rattle.season.proofs.count_piece.Goals as goal

pub go-requires : goal.go-requires
go-requires c =
    piece_ready c.requires.0 c.piece_end-until.ensures _ (omega arith)

pub overflow_sub-next : goal.overflow_sub-next
overflow_sub-next c =
    rw c.run_of-next.ensures
    (records_grow c.requires.0 c.piece_end-until.ensures c.go.ensures (omega arith))

pub count_events-requires : goal.count_events-requires
count_events-requires c =
    rw c.run_of-next.ensures (waiting c.requires.0 c.piece_end-until.ensures c.go.ensures (omega arith))

pub returns : goal.returns
returns c =
    rw c.run_of-next.ensures (piece_counted c.requires.0 c.piece_end-until.ensures c.go.ensures (omega arith) _ (rw c.run_of-next.ensures at c.count_events.ensures))
