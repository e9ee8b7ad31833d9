-- `cases::settings_at` meets its contract: its fields are what their readers ensure.
use mathlib.Core.List.{append-nil}
use Rattle.cases.specs.Given.{settings_at}
use Rattle.cases.proofs.settings_at.Goals as goal

pub returns : goal.returns
unfolding settings_at
returns c = simp (c.get-4.ensures, c.get-3.ensures, c.get-2.ensures, c.get.ensures, c.effects_at.ensures, append-nil)
