-- `listing::closing` meets its contract: it puts nothing where the buffer is full, and else the closing.
use Rattle.listing.specs.Listing.{closing}
use Rattle.listing.proofs.Placing.{full, whole}
use Rattle.listing.proofs.closing.Goals as goal

pub returns-then-not-has_room : goal.returns-then-not-has_room
returns-then-not-has_room c =
    let a = c.args in
    let w = full a.out.now a.at _ c.has_room.ensures (closing a.end) c.if-not-has_room.true in
    record { value = w.0; out_after = w.1; at_in_bounds = tt }

pub returns : goal.returns
returns c =
    let a = c.args in
    let p = c.put_closing.ensures in
    let w = whole a.out.now a.at _ c.has_room.ensures (closing a.end) c.if-not-has_room.false _ _ p.value.0 p.value.1 in
    record { value = w.0; out_after = w.1; at_in_bounds = p.upper_bound }
