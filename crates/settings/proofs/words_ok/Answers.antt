-- `settings::words_ok` meets its contract, from what its callees ensure and the tests on the way.
use Rattle.settings.proofs.words_ok.Goals as goal

pub returns : goal.returns
returns c = cc
