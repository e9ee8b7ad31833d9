-- The listing of document 01's session, as it stands in document 01: "One session, whole". LF ends every line.
use Rattle.std.specs.Prelude.{ℕ, List, ◌++◌}
use Rattle.bits.specs.Decimal.{ascii}

abbrev pub session_text : List ℕ
session_text =
    ascii "seq scan effect from to first\n"
    ++ ascii "0 1 1 tripped normal 0\n"
    ++ ascii "1 1 2 tripped normal 0\n"
    ++ ascii "2 4 1 normal tripped 1\n"
    ++ ascii "3 4 2 normal delayed 1\n"
    ++ ascii "4 7 2 delayed tripped 1\n"
    ++ ascii "rows 2 scans 8 live 3 exercised 5\n"
