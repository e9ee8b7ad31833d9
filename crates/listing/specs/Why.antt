-- The listing of a file with a last column for reasons: what the second program prints. Document 02, L4. Refusals and the last line are
-- those of document 01's listing.
use Rattle.std.specs.Prelude.{ℕ}
use mathlib.Core.List.{List, [], ◌∷◌, flat_map}
use Rattle.bits.specs.Decimal.{ascii}
use Rattle.recording.specs.Reader.{reading}
use Rattle.rerun.specs.Replay.{replay}
use Rattle.reasoned.specs.Reasoned.{Reasoned, reasoned}
use Rattle.wording.specs.Text.{words_of}
use Rattle.text.specs.Text.{header_with, line_with}
use Rattle.listing.specs.Listing.{listed_as}

-- the header names the column
abbrev pub reason_header : List ℕ
reason_header = header_with (ascii "reason" ∷ [])

-- the line of an event record ends in its reason
abbrev pub reason_line : Reasoned → List ℕ
reason_line t = line_with t.event (words_of t.reason ∷ [])

abbrev pub reason_lines : List Reasoned → List ℕ
reason_lines ts = flat_map reason_line ts

unfoldable pub why_listing : List ℕ → List ℕ
why_listing s = listed_as reason_header (reason_lines (reasoned s)) (reading s).answer (replay s)
