-- The listing of document 01's session is the text that stands in document 01, computed to its bytes.
use mathlib.Core.Path.{◌≡◌, refl, ap, ◌∙◌}
use mathlib.Core.List.{◌++◌, flat_map}
use lib.ListN.{length}
use Rattle.bits.specs.Decimal.{at_most, decimal}
use Rattle.recording.specs.Answer.{Answer}
use Rattle.settings.specs.Refusals.{granted}
use Rattle.rerun.specs.Replay.{replay, counts, refusal}
use Rattle.worked.specs.Recorded.{session, session_events}
use Rattle.worked.proofs.Recorded.{the_session_is_read, the_session}
use Rattle.text.specs.Text.{header_with, header, name, line_with, lines, last_line}
use Rattle.listing.specs.Listing.{closing, listed_as, listing}
use Rattle.worked.specs.Listed.{session_text}

-- the text, from the session's events and totals
spelled : header ++ lines session_events ++ closing (record { number = 0; place = 0; records = 5; rows = 2; scans = 8; live = 3; exercised = 5 }) ≡ session_text
unfolding header_with line_with name last_line closing decimal at_most flat_map
spelled = refl

pub the_session_is_listed : listing session ≡ session_text
unfolding listing
the_session_is_listed =
    let o = the_session in
    ap (λ (a : Answer). listed_as header (lines (replay session).replay.events) a (replay session)) the_session_is_read
    ∙ (λ j. header ++ lines (replay session).replay.events ++ closing (granted (o.0 j) (counts (replay session).replay) (refusal (replay session).place)))
    ∙ (λ j. header ++ lines (o.1 j) ++ closing (record { number = 0; place = 0; records = length (o.1 j); rows = o.2 j; scans = o.3 j; live = o.4 j; exercised = o.5 j }))
    ∙ spelled
