-- The lines of `bin/replay --check` and `--explain`, and the heading above a listing, as bytes. docs/FORMAT.md, "A line for each file";
-- document 01 has no word on them. LF ends every line.
use Rattle.std.specs.Prelude.{ℕ, ◌+◌, ◌≤◌, ◌≡◌, List, ◌++◌, length}
use Rattle.bits.specs.Decimal.{ascii, decimal}
use Rattle.text.specs.Pieces.{total}
use Rattle.text.specs.Text.{refusal_line}
use Rattle.settings.specs.Refusals.{granted}
use Rattle.findings.specs.declared.Finding.{Finding}
use Rattle.findings.specs.Answer.{Explained}
use Rattle.sentences.specs.Sentences.{sentence}
use Rattle.recording.specs.Encode.{most_length}
use Rattle.recording.specs.Answer.{Answer}
use Rattle.recording.specs.Answer.{Accepted, Refused}

-- ## The heading, and a check

abbrev pub heading : (name : List ℕ) → List ℕ
heading name = ascii "== " ++ name ++ ascii " ==\n"

abbrev pub accepted_line : (name : List ℕ) (rows : ℕ) → List ℕ
accepted_line name rows = name ++ ascii ": accepted, " ++ decimal rows ++ ascii " rows\n"

abbrev pub refused_line : (name : List ℕ) (number place : ℕ) → List ℕ
refused_line name number place = name ++ ascii ": " ++ refusal_line number place

abbrev pub check_line : (name : List ℕ) → Answer → List ℕ
check_line name (Accepted rows first width) = accepted_line name rows
check_line name (Refused number place) = refused_line name number place

-- ## A refusal in words

unfoldable pub refused_why : (name : List ℕ) (number place : ℕ) → Finding → List ℕ
refused_why name number place finding =
    name ++ ascii ": refused " ++ decimal number ++ ascii " at " ++ decimal place ++ ascii ": " ++ sentence finding ++ ascii "\n"

unfoldable pub explained_line : (name : List ℕ) → Explained → List ℕ
explained_line name e = granted e.number (accepted_line name e.rows) (λ number. refused_why name number e.place e.finding)

-- ## Room

-- the most bytes of a name, as the system has it, and room for any line
abbrev pub most_name : ℕ
most_name = 4096

abbrev pub most_report : ℕ
most_report = 16384

abbrev pub Roomy : (name out : List ℕ) → Type 0
Roomy name out = (length name ≤ most_name) × (most_report ≤ length out)

-- a program lends a buffer for a name, and one for a recording: one byte more than the longest, since what follows in an input changes no
-- answer (`long_as_front`, exactness/proofs/Theorems), and with a byte less an input that is one byte too long would pass for a recording
abbrev pub InputRoom : (name file : List ℕ) → Type 0
InputRoom name file = (length name ≤ most_name) × (length file ≡ most_length + 1)

-- ## Pieces, as the code writes them

-- what stands between the name and the words of a refusal
unfoldable pub refused_at : (number place : ℕ) → List ℕ
refused_at number place = total (ascii ": refused") number 32 ++ total (ascii "at") place 58 ++ ascii " "

-- the most bytes of that
abbrev pub most_refused_at : ℕ
most_refused_at = 64
