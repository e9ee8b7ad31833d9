-- `wiring::stroke` meets its contract: the words are those of what the effects see.
use mathlib.Core.Path.{refl}
use Rattle.wiring.proofs.Held.{few, ready, ran}
use Rattle.wiring.proofs.stroke.Goals as goal

pub task_of-task-requires : goal.task_of-task-requires
task_of-task-requires c = few c.requires.runs

pub stroke-mark-requires : goal.stroke-mark-requires
stroke-mark-requires c =
    ready c.requires.runs c.task_of-task.ensures

pub returns : goal.returns
returns c =
    λ st runs. ran runs c.task_of-task.ensures c.stroke-mark.ensures refl
