-- How a table grows by the files that a program reads: it is always that over some files, and one more is counted at a time. No contract
-- can say that these are the files that were named.
use Rattle.std.specs.Prelude.{◌+◌, ◌≤◌, ◌<◌, ◌≡◌}
use Rattle.sums.specs.Sums.{most_sum}
use Rattle.season_table.specs.declared.Table.{Table}
use Rattle.season_table.specs.Files.{Over, files_of}

-- before the first file
pub record Begun (t : Table) : Type 0 where
  pub over : Over t
  pub none : files_of t ≡ 0

-- a table over files, with room to count one more
pub record Countable (t : Table) : Type 0 where
  pub over : Over t
  pub few : files_of t < most_sum

-- after one file more, or none
pub record Grown (t u : Table) : Type 0 where
  pub over : Over u
  pub one_more : files_of u ≤ files_of t + 1
