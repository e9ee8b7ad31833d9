-- `listings::write_text` meets its contract: the graver of two statuses.
use Rattle.inputs.specs.Statuses.{status_number}
use Rattle.listings.proofs.Endings.{graver_ended}
use Rattle.listings.proofs.write_text.Goals as goal

pub returns : goal.returns
returns g c =
    let a = c.args in
    rw (c.graver.ensures, c.status_of.ensures) (graver_ended (status_number c.write-status.result) a.number c.write-status.ensures)
