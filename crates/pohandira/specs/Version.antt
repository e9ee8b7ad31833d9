-- The library's version as one number, which a caller can compare. docs/DECISIONS.md, "The static library".
use Rattle.std.specs.Prelude.{ℕ, ◌+◌, ◌*◌}

abbrev pub version_number : (major minor patch : ℕ) → ℕ
version_number major minor patch = major * 1000000 + minor * 1000 + patch

-- that of the file VERSION; tests/embed compares them
abbrev pub version : ℕ
version = version_number 0 4 0
