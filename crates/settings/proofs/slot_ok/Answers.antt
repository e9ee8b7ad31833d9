-- `settings::slot_ok` meets its contract, from what its callees ensure and the tests on the way.
use borrow.Author.Tests.{lt-ltb, le-ltb}
use Rattle.settings.proofs.slot_ok.Goals as goal

pub returns-then-i-known : goal.returns-then-i-known
returns-then-i-known c = rw (lt-ltb _ _ c.if-i-known.true) c.effect_ok.ensures

pub returns-else-i-known : goal.returns-else-i-known
returns-else-i-known c = rw (le-ltb _ _ c.if-i-known.false)
