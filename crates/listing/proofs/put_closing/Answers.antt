-- `listing::put_closing` meets its contract: by the two cases of its test.
use Rattle.settings.proofs.Refusals.{granted_refused}
use Rattle.listing.specs.Listing.{closing}
use Rattle.text.specs.Text.{last_line, refusal_line}
use Rattle.listing.proofs.put_closing.Goals as goal

pub returns-then-end-eq0 : goal.returns-then-end-eq0
unfolding closing
returns-then-end-eq0 c = rw c.if-end-eq0.true c.put_last.ensures

pub returns-else-end-eq0 : goal.returns-else-end-eq0
unfolding closing
returns-else-end-eq0 c =
    let end = c.args.end in
    rw (granted_refused (last_line end.rows end.scans end.live end.exercised) (λ n. refusal_line n end.place) end.number c.if-end-eq0.false)
    c.put_refusal.ensures
