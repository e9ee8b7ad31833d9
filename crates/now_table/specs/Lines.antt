-- The lines of the table, as the code gives them. No entry point's contract cites this page.
use Rattle.std.specs.Prelude.{ℕ, zero, suc, ◌+◌, ◌*◌, ◌≤◌, ◌≡◌, List, [], ◌++◌, length, get_or}
use Rattle.std.proofs.lemmas.List.Edits.{sets}
use Rattle.rules.specs.Limits.{most_effects}
use Rattle.rules.specs.Rules.{no_slot}
use Rattle.settings.specs.declared.Settings.{Settings}
use Rattle.rerun.specs.Replay.{replay}
use Rattle.standing.specs.declared.Standing.{Standing}
use Rattle.standing.specs.Stands.{reason_now}
use Rattle.wording.specs.Text.{most_words}
use Rattle.now_table.specs.Answer.{Shown}
use Rattle.now_table.specs.Now.{now_header, now_line, now_text}

-- the most bytes of a line: the number of an effect has at most 2 digits, the name of a state at most 10 letters, and a first-out at most 5
-- digits; a byte stands behind each of the four fields
abbrev pub most_now_line : ℕ
most_now_line = 2 + 10 + 5 + most_words + 4

abbrev pub most_now_lines : ℕ
most_now_lines = most_now_line * most_effects

-- the lines of the first n effects that stand so
abbrev pub standing_lines : Settings → Standing → (n : ℕ) → List ℕ
standing_lines st x zero = []
standing_lines st x (suc i) = standing_lines st x i ++ now_line (i + 1) (get_or x.to i no_slot).state (get_or x.to i no_slot).first_out (reason_now st x i)

-- the whole table
abbrev pub standing_table : Settings → Standing → List ℕ
standing_table st x = now_header ++ standing_lines st x st.count

-- what is shown of a recording stands at the front of a buffer
pub record ShownOf (s out : List ℕ) (r : Shown) (out' : List ℕ) : Type 0 where
  pub number_is : r.number ≡ (replay s).number
  pub size_is : r.size ≡ length (now_text s)
  pub text : out' ≡ sets out 0 (now_text s)
  pub within : r.size ≤ length out
