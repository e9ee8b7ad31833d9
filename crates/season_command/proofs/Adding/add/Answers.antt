-- `season_command::Adding::add` meets its contract: the table is that over one file more.
use native.Mathlib.Omega.{arith}
use Rattle.season.specs.Season.{added_to}
use Rattle.season_table.specs.Files.{StandsFor}
use Rattle.season_table.proofs.Theorems.{added_stands, one_file_counted, over_one_more}
use Rattle.season_command.proofs.Adding.add.Goals as goal

pub returns : goal.returns
returns g c =
    let t = c.args.self.now.table in
    let s = c.args.s.now in
    let stands : StandsFor c.ok-recording.result (added_to t.report s) = rw (c.ok-recording.ensures.value, ← c.add-added.ensures) (added_stands c.add-added.result) in
    rw (c.say_refusal.ensures, c.with_file-self.ensures (added_to t.report s) stands)
    (record { over = over_one_more t s c.requires.1.over; one_more = omega (arith, one_file_counted t (added_to t.report s)) })
