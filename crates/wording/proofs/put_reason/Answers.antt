-- `wording::put_reason` meets its contract: each arm writes the words of its own reason. The longest words are answered here.
use Rattle.wording.specs.Text.{words_of}
use Rattle.wording.proofs.put_reason.Goals as goal

pub returns-in-ForcedTripped : goal.returns-in-ForcedTripped
unfolding words_of
returns-in-ForcedTripped c = rw c.in-ForcedTripped.is c.put_text.ensures

pub returns-in-ForcedNormal : goal.returns-in-ForcedNormal
unfolding words_of
returns-in-ForcedNormal c = rw c.in-ForcedNormal.is c.put_text-in-ForcedNormal.ensures

pub returns-in-DelayRunning : goal.returns-in-DelayRunning
unfolding words_of
returns-in-DelayRunning c = rw c.in-DelayRunning.is c.put_named-in-DelayRunning.ensures
