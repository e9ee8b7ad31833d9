-- A report in lent bytes: 113 numbers of 8 bytes, big-endian, to which recordings are added in place. Document 02, L1.
use Rattle.std.specs.Prelude.{ℕ, ◌*◌, List, [], ◌∷◌, length}
use Rattle.std.proofs.lemmas.List.Edits.{sets}
use Rattle.bits.specs.Numbers.{num_at}
use Rattle.bits.specs.Lists.{tabulate}
use Rattle.settings.specs.Refusals.{or_else, granted, room_number}
use Rattle.rerun.specs.Replay.{replay}
use Rattle.tally.specs.Tally.{sum_count}
use Rattle.season.specs.declared.Report.{Report}
use Rattle.season.specs.Season.{season_number, added_to}
use Rattle.numbers.specs.Numbers.{number_bytes, numbers}

abbrev pub report_length : ℕ
report_length = number_bytes * sum_count

-- the report that bytes begin with, and the bytes of a report
unfoldable pub report_of : List ℕ → Report
report_of bytes = record { sums = tabulate (λ k. num_at number_bytes bytes (number_bytes * k)) sum_count }

abbrev pub report_bytes : Report → List ℕ
report_bytes r = numbers r.sums

-- the reader's refusal number, or 9; then 10 if the bytes are too few for a report; then 11
abbrev pub into_number : (s bytes : List ℕ) → ℕ
into_number s bytes = or_else (replay s).number (or_else (room_number report_length (length bytes)) (season_number (report_of bytes) s))

-- on 0 the report after the recording, and all behind it as it was; on any other refusal number no byte is touched
abbrev pub season_into : (s bytes : List ℕ) → List ℕ
season_into s bytes = granted (into_number s bytes) (sets bytes 0 (report_bytes (added_to (report_of bytes) s).report)) (λ n. bytes)

-- many recordings, one after the other
abbrev pub into_all : (bytes : List ℕ) → List (List ℕ) → List ℕ
into_all bytes [] = bytes
into_all bytes (s ∷ ss) = into_all (season_into s bytes) ss
