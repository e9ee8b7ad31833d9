-- `season_command::Adding::print` is safe: a table over files has lines for at most sixteen effects, and the buffer has room for it.
use native.Mathlib.Omega.{arith}
use Rattle.season_table.proofs.Theorems.{a_table's_effects_are_few}
use Rattle.season_command.proofs.Adding.print.Goals as goal

pub put_table-size-requires : goal.put_table-size-requires
put_table-size-requires g c =
    (a_table's_effects_are_few c.args.self.now.table c.requires, omega arith)
