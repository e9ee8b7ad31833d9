-- How long a name and a message can be. No entry point's contract cites this page.
use Rattle.std.specs.Prelude.{ℕ, ◌+◌}

-- the program's name with the colon and the space behind it; a name of a file, as the system has it; both
abbrev pub most_program : ℕ
most_program = 64

abbrev pub most_name : ℕ
most_name = 4096

abbrev pub most_message : ℕ
most_message = most_program + most_name
