-- `block::run_kept` meets its contract: the stroke is the run of single scans from the state that the words show.
use Rattle.block.proofs.Runs.{strokes, kept}
use Rattle.block.proofs.run_kept.Goals as goal

pub stroke-requires : goal.stroke-requires
stroke-requires c =
    let r = c.requires in
    record { st = r.st; runs = strokes r.runs }

pub returns : goal.returns
returns c = λ st runs. kept runs (c.stroke.ensures st (strokes runs))
