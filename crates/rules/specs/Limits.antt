-- The limits that document 01 sets under "Settings, row, state". They stand in the lowest crate that needs them.
use Rattle.std.specs.Prelude.{ℕ, Bool, ◌&&◌, leb}

-- n is least..most
abbrev pub between : (least most n : ℕ) → Bool
between least most n = leb least n && leb n most

-- causes and effects, at least one of each
abbrev pub most_causes : ℕ
most_causes = 16

abbrev pub most_effects : ℕ
most_effects = 16

-- the scan period, in milliseconds
abbrev pub most_period : ℕ
most_period = 1000

-- a delay, in milliseconds
abbrev pub most_delay : ℕ
most_delay = 3600000

-- a row's hold, in scans
abbrev pub most_hold : ℕ
most_hold = 1000000

-- the scans done
abbrev pub most_scans : ℕ
most_scans = 1000000000
