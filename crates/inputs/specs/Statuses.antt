-- How a command ended, the graver the greater; docs/DECISIONS.md, "The replay program". No entry point's contract cites this page.
use Rattle.std.specs.Prelude.{ℕ}
use Rattle.inputs.specs.declared.Status.{Status}
use Rattle.inputs.specs.declared.Status.TheVariants.{Done, Refused, Unread, Unwritten}

-- all was done; an input was refused; an input could not be read; the output took no more
abbrev pub done : ℕ
done = 0

abbrev pub refused : ℕ
refused = 1

abbrev pub unread : ℕ
unread = 2

abbrev pub unwritten : ℕ
unwritten = 3

-- the number of each
abbrev pub status_number : Status → ℕ
status_number Done = done
status_number Refused = refused
status_number Unread = unread
status_number Unwritten = unwritten
