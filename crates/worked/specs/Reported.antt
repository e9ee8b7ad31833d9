-- The report of document 01's session alone, as its table stands in document 02, L1.
use Rattle.std.specs.Prelude.{◌*◌, [], ◌∷◌, ◌++◌, replicate}
use Rattle.tally.specs.Tally.{sums_of_effect}
use Rattle.season.specs.declared.Report.{Report}

-- for each of its two effects the scans after which it stood in each state, and its changes into Tripped; nothing for the other fourteen;
-- the exercised scans
abbrev pub session_report : Report
session_report =
    record {
      sums =
          (5 ∷ 0 ∷ 0 ∷ 0 ∷ 3 ∷ 0 ∷ 1 ∷ [])
          ++ (2 ∷ 0 ∷ 0 ∷ 0 ∷ 3 ∷ 3 ∷ 1 ∷ [])
          ++ replicate (sums_of_effect * 14) 0
          ++ (5 ∷ []);
    }
