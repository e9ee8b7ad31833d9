-- Why a file is refused: section, entry and fault, found from the place of its refusal. Document 01, "Refusal numbers".
use Rattle.std.specs.Prelude.{ℕ, ◌+◌, Bool, false, cond, List, leb, length}
use Rattle.bits.specs.Numbers.{num_at}
use Rattle.layout.specs.Sections.{width_of, number_of, count_ok}
use Rattle.settings.specs.Refusals.{granted}
use Rattle.recording.specs.Answers.{row_count_of}
use Rattle.recording.specs.Reader.{reading}
use Rattle.rerun.specs.Replay.{replay}
use Rattle.findings.specs.declared.Spot.{Spot}
use Rattle.findings.specs.declared.Spot.TheVariants.{Count, Entry, Past}
use Rattle.findings.specs.declared.Finding.{Finding}
use Rattle.findings.specs.declared.Finding.TheVariants.{Nothing, CountEnds, EntryEnds, CountWrong, EntryWrong, Spare}
use Rattle.findings.specs.Answer.{Explained}
use Rattle.findings.specs.Spots.{section_at, end_of, entry_at, spot_of}
use Rattle.findings.specs.Faults.{fault_at, fault_number, fault_test}

-- one thing where w bytes are there from p on, else the other
abbrev pub there : {A : Type 0} → List ℕ → (p w : ℕ) → A → A → A
there s p w wrong ends = cond (leb (p + w) (length s)) wrong ends

-- what is wrong at a place: what stands there is wrong where all its bytes are there, and else the bytes end in it
unfoldable pub finding_in : Spot → List ℕ → ℕ → Finding
finding_in (Count kind) s p = there s p 2 (CountWrong kind) (CountEnds kind)
finding_in (Entry kind entry) s p = there s p (width_of kind) (EntryWrong kind entry (fault_at kind s p)) (EntryEnds kind entry)
finding_in Past s p = Spare

-- by the refusal number and place that a file is answered
unfoldable pub finding_of : List ℕ → (number place : ℕ) → Finding
finding_of s number place = granted number Nothing (λ n. finding_in (spot_of s place) s place)

abbrev pub explanation : List ℕ → (number place rows : ℕ) → Explained
explanation s number place rows = record { number = number; place = place; rows = rows; finding = finding_of s number place }

-- a refused file: the reader's refusal number and place; an accepted one: those of its replay, which are 0 and 0, or 9 and the first
-- byte of a row that ends too late. The rows are the file's where the reader accepts it, and else 0
unfoldable pub explained : List ℕ → Explained
explained s = explanation s (replay s).number (replay s).place (row_count_of (reading s).answer)

-- ## What a finding says: its refusal number, its place, and the test that fails

abbrev pub finding_number : Finding → ℕ
finding_number Nothing = 0
finding_number (CountEnds kind) = 1
finding_number (EntryEnds kind entry) = 1
finding_number (CountWrong kind) = number_of kind
finding_number (EntryWrong kind entry fault) = fault_number fault
finding_number Spare = 7

abbrev pub finding_place : List ℕ → Finding → ℕ
finding_place s Nothing = 0
finding_place s (CountEnds kind) = length s
finding_place s (EntryEnds kind entry) = length s
finding_place s (CountWrong kind) = section_at kind s
finding_place s (EntryWrong kind entry fault) = entry_at kind s entry
finding_place s Spare = end_of s

-- the bytes are there, the count is valid, the entry passes, nothing follows
abbrev pub finding_test : List ℕ → Finding → Bool
finding_test s Nothing = false
finding_test s (CountEnds kind) = leb (section_at kind s + 2) (length s)
finding_test s (EntryEnds kind entry) = leb (entry_at kind s entry + width_of kind) (length s)
finding_test s (CountWrong kind) = count_ok kind (num_at 2 s (section_at kind s))
finding_test s (EntryWrong kind entry fault) = fault_test s (entry_at kind s entry) fault
finding_test s Spare = leb (length s) (end_of s)
