-- The buffer that a program lends for what is printed.
use Rattle.std.specs.Prelude.{ℕ, ◌≤◌, List, length}
use Rattle.printing.specs.Waiting.{Buffer}
use Rattle.reports.specs.Reports.{most_report}

-- room for any line and for any piece of a listing
abbrev pub Printing : List ℕ → Type 0
Printing out = (most_report ≤ length out) × Buffer (length out)
