-- `rerun::row` meets its contract: the row that stands at the run's place is the next one, and its turn is that of the definition.
use mathlib.Core.Path.{refl}
use Rattle.settings.proofs.Refusals.{number_some}
use Rattle.rerun.proofs.Turns.{row_there, refused_done, row_runs, sums, ran_done}
use Rattle.rerun.proofs.row.Goals as goal

pub row_at-row-requires : goal.row_at-row-requires
row_at-row-requires c = row_there c.requires.going c.requires.more

pub returns-in-Err : goal.returns-in-Err
returns-in-Err c =
    let p = c.requires in
    refused_done p.going p.more _ c.row_at-row.ensures _ c.in-Err.ensures (number_some c.in-Err.refusal) _

pub run_kept-ran-requires : goal.run_kept-ran-requires
run_kept-ran-requires c = record { st = _; runs = row_runs c.requires.going c.requires.more _ c.row_at-row.ensures 0 c.in_default.ensures refl _ c.requires.fits }

pub after_row-requires : goal.after_row-requires
after_row-requires c =
    let p = c.requires in
    sums p.going p.more _ c.row_at-row.ensures 0 c.in_default.ensures refl (c.run_kept-ran.ensures _ (row_runs c.requires.going c.requires.more _ c.row_at-row.ensures 0 c.in_default.ensures refl _ c.requires.fits))

pub returns : goal.returns
returns c =
    let p = c.requires in
    rw c.after_row.ensures
    (ran_done p.going p.more _ c.row_at-row.ensures 0 c.in_default.ensures refl (c.run_kept-ran.ensures _ (row_runs c.requires.going c.requires.more _ c.row_at-row.ensures 0 c.in_default.ensures refl _ c.requires.fits)))
