-- `printing::write_closing` meets its contract: with the closing, what waits is the rest of the listing.
use mathlib.Core.Bool.{true}
use mathlib.Core.Path.{sym, ap, ◌∙◌}
use Rattle.listing.specs.Listing.{closing}
use Rattle.printing.proofs.Parts.{piece_put, grows, closed}
use Rattle.printing.specs.Status.{status}
use Rattle.printing.proofs.write_closing.Goals as goal

pub write_rest-requires-clause-waiting : goal.write_rest-requires-clause-waiting
write_rest-requires-clause-waiting g c =
    let a = c.args in
    let p = c.requires.closes in
    let room = c.requires.most_piece_in_bounds in
    let text = closing c.end_told-told.result in
    let e = c.closing.ensures in
    let is = c.unwrap-to.ensures in
    let within = rw is at e.at_in_bounds in (
      grows p.waits text (piece_put a.out.now text a.at room.0 (sym is ∙ e.value) e.out_after within) (closed p c.end_told-told.result c.end_told-told.ensures),
      c.outcome_of-outcome.ensures ∙ ap (status true) p.last.number_is,
    )
