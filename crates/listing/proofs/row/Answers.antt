-- `listing::row` meets its contract: it puts nothing where the buffer is full or the row has no records, and else the lines of the records
-- that the row leaves.
use mathlib.Core.Path.{refl, sym, ◌∙◌}
use Prim.Native.Nat.{◌≤◌}
use native.Mathlib.Nat.{add-zero}
use native.Mathlib.Omega.{arith}
use Rattle.rerun.specs.Answer.{as_turn}
use Rattle.rerun.proofs.Turns.{few_records, fits_any}
use Rattle.reasoned.proofs.Rows.{next_row}
use Rattle.effects.specs.Records.{most_records}
use Rattle.listing.proofs.Placing.{fits, full_row, whole_row}
use Rattle.listing.proofs.Records.{narrow, recorded_by, no_records}
use Rattle.listing.proofs.row.Goals as goal

pub returns-then-not-has_room : goal.returns-then-not-has_room
returns-then-not-has_room c =
    full_row c.args.out.now c.args.at _ c.has_room.ensures c.requires.0 c.if-not-has_room.true

pub row-turn-requires : goal.row-turn-requires
row-turn-requires c =
    record { going = c.requires.0; more = c.requires.1; fits = fits_any c.requires.0 c.requires.1 }

-- it has no records
pub returns-then-count-eq0 : goal.returns-then-count-eq0
returns-then-count-eq0 c =
    let a = c.args in
    let room = fits a.out.now a.at _ c.has_room.ensures c.if-not-has_room.false in
    let none = no_records a.why c.row-turn.ensures (sym c.records_of-count.ensures ∙ c.if-count-eq0.true) (omega arith) in
    whole_row a.out.now a.at _ c.has_room.ensures c.row-turn.result c.row-turn.ensures c.if-not-has_room.false
    (rw none (sym (add-zero a.at), refl)) (omega (arith, room))

pub column_of-column-requires : goal.column_of-column-requires
column_of-column-requires c =
    next_row c.requires.0 c.requires.1

pub put_lines-next-requires : goal.put_lines-next-requires
put_lines-next-requires c =
    let a = c.args in
    let room = fits a.out.now a.at _ c.has_room.ensures c.if-not-has_room.false in
    let few : (as_turn c.row-turn.result).records ≤ most_records = few_records c.requires.0 c.requires.1 c.row-turn.ensures in
    let g = recorded_by a.why c.row-turn.ensures few (omega arith) in
    rw c.records_of-count.ensures (few, (g.0, g.1, g.2, g.3), omega (arith, room), rw c.column_of-column.ensures (narrow a.why a.s.now a.run.rows))

pub returns : goal.returns
returns c =
    let put = c.put_lines-next.ensures in
    let a = c.args in
    let few : (as_turn c.row-turn.result).records ≤ most_records = few_records c.requires.0 c.requires.1 c.row-turn.ensures in
    let g = recorded_by a.why c.row-turn.ensures few (omega arith) in
    whole_row a.out.now a.at _ c.has_room.ensures c.row-turn.result c.row-turn.ensures c.if-not-has_room.false
    (rw (c.column_of-column.ensures, g.4) at (rw c.records_of-count.ensures at put.lines_put g.0 g.1 g.2)) put.upper_bound
