-- How the count that the code keeps is seen: the open stretches as numbers.
use Rattle.std.specs.Prelude.{ℕ, List, ◌++◌, map}
use Rattle.tally.specs.declared.Stretch.{Stretch}
use Rattle.tally.specs.declared.Count.{Count}
use Rattle.tally.specs.Tally.{count_of, Count as Counted}

-- since when each is open, and behind all of these the codes of their states
abbrev pub cells : List Stretch → List ℕ
cells xs = map (λ (x : Stretch). x.since) xs ++ map (λ (x : Stretch). x.code) xs

abbrev pub shown : Count → Counted
shown t = count_of t.sums (cells t.stretches)

-- the same stretches with other sums
abbrev pub with_sums : Count → List ℕ → Count
with_sums t sums = record { sums = sums; stretches = t.stretches }
