-- `season_table::Table::with_file` meets its contract: what was added makes the table with it, and none one file more that was refused.
use Rattle.season_table.proofs.Theorems.{told_added, told_refused}
use Rattle.season_table.proofs.Table.with_file.Goals as goal

pub returns-in-Some : goal.returns-in-Some
returns-in-Some c a s = rw c.max.ensures (told_added c.args.self a c.in-Some.added (rw c.in-Some.is at s))

pub returns-in-None : goal.returns-in-None
returns-in-None c a s = told_refused c.args.self a (rw c.in-None.is at s)
