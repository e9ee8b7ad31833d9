-- `queries::reason_across` meets its contract: what is read of the words for effect i is what is read of its signals.
use Rattle.reasons.proofs.Given.{signs_of_an_effect}
use Rattle.queries.specs.Across.{reason_across}
use Rattle.queries.proofs.reason_across.Goals as goal

pub returns : goal.returns
unfolding reason_across
returns c =
    rw (c.reason_by.ensures, c.signs_of-signs.ensures, c.sight_of-sight.ensures, signs_of_an_effect)
