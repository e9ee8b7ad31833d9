-- `printing::print_rows` meets its contract: buffer after buffer, the loop goes on from the row that did not fit. The output holds what has gone.
use lib.ListN.{length, take}
use Rattle.std.specs.Io.KnownBytes.{Appends}
use Rattle.listing.specs.Printed.{listing_of}
use Rattle.printing.specs.Filled.{filled_of}
use Rattle.printing.proofs.Turn.{Poured, left}
use Rattle.printing.proofs.print_rows.Given as goal

abbrev pub invariant-loop-filled : goal.invariant-loop-filled
invariant-loop-filled g l =
    Poured l.why (length l.initial.out) l.s l.sent (filled_of l.filled) l.board l.out
    × Appends (g.W.Write.contents l.initial.output) (g.W.Write.contents l.output) (take l.sent.gone (listing_of l.why l.s))

abbrev pub decreases-loop-filled : goal.decreases-loop-filled
decreases-loop-filled g l = left l.s (filled_of l.filled)
