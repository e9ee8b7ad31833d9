-- How an answer for a recording ended, as a status. Ours: docs/DECISIONS.md, "The replay program". No entry point's contract cites this page.
use Rattle.std.specs.Prelude.{ℕ, ◌≡◌, ◌⊎◌}
use Rattle.settings.specs.Refusals.{granted}
use Rattle.inputs.specs.Statuses.{done, refused, unwritten}

-- by the refusal number of the recording, or 0
abbrev pub ended_by : (number : ℕ) → ℕ
ended_by number = granted number done (λ n. refused)

-- so, or the output took no more
abbrev pub Ended : (number status : ℕ) → Type 0
Ended number status = (status ≡ ended_by number) ⊎ (status ≡ unwritten)
