-- The buffer is as long as it is lent.
use Rattle.std.proofs.Common.{length}
use Rattle.inputs.proofs.Program.take_each.Given as goal

abbrev pub ghosts-take_inputs : goal.ghosts-take_inputs
ghosts-take_inputs g a = record { length_is = length a.file.now }
