-- Refusal numbers. Document 01, "Refusal numbers": 0 stands for none, and the first that applies is given.
use Rattle.std.specs.Prelude.{ℕ, zero, suc, Bool, cond, leb, Result, Ok, Err}
use Rattle.settings.specs.declared.numbers.Refusal.{Refusal}
use Rattle.settings.specs.declared.numbers.Refusal.TheVariants.{Ends, Block, Effects, Rows, BothForces, SeveralForced, LeftOver, State, LastScan, Room, Sums}
use Rattle.settings.specs.declared.numbers.Refused.{Refused}

-- ## The refusal number of each refusal

abbrev pub number_of : Refusal → ℕ
number_of Ends = 1
number_of Block = 2
number_of Effects = 3
number_of Rows = 4
number_of BothForces = 5
number_of SeveralForced = 6
number_of LeftOver = 7
number_of State = 8
number_of LastScan = 9
number_of Room = 10
number_of Sums = 11

-- the refusal number of an answer; 0 where nothing is refused
abbrev pub number_in : {A : Type 0} → Result A Refusal → ℕ
number_in (Ok a) = 0
number_in (Err refusal) = number_of refusal

-- ## One after the other

-- 0 if the test holds, else the refusal number
abbrev pub unless : Bool → ℕ → ℕ
unless ok number = cond ok 0 number

-- what is given where nothing is refused, and else what is given for the refusal number
abbrev pub granted : {A : Type 0} → ℕ → A → (ℕ → A) → A
granted zero a refused = a
granted (suc k) a refused = refused (suc k)

-- the first refusal number if it is not 0, else the second
abbrev pub or_else : ℕ → ℕ → ℕ
or_else first second = granted first second (λ n. n)

-- refusal number 10: room below 12 bytes times the records due, or below the piece written; both in bytes
abbrev pub room_number : (due room : ℕ) → ℕ
room_number due room = unless (leb due room) 10
