-- What the start of a walk answers: the reader's answer, and the walk. Document 01, "Recordings".
use Rattle.recording.specs.Answer.{Answer, Reading, as_reading}
use Rattle.walk.specs.declared.Walk.{Walk}
use Rattle.walk.specs.declared.Started.{Started as StartDone}

pub record Started : Type 0 where
  pub answer : Answer
  pub walk : Walk

-- what the code answers, as that
abbrev pub as_started : StartDone → Started
as_started s = record { answer = (as_reading s.answer).answer; walk = s.walk }
