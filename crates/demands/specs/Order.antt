-- Refusals as a table: each refusal number beside its case, in the order in which the cases are checked. Document 01, "Refusal
-- numbers". Most tests are those of the crates below, and limits are written out; what matters here is their order.
use Rattle.std.specs.Prelude.{ℕ, ◌+◌, ◌*◌, ◌≡◌, Bool, cond, not, ◌&&◌, List, [], ◌∷◌, ◌++◌, ltb, length}
use Rattle.bits.specs.Lists.{all_from}
use Rattle.bits.specs.Words.{bit_of}
use Rattle.effects.specs.Records.{record_length}
use Rattle.settings.specs.declared.Settings.{Settings}
use Rattle.settings.specs.declared.Words.{Words}
use Rattle.settings.specs.declared.Row.{Row}
use Rattle.settings.specs.declared.Known.{Known}
use Rattle.rules.specs.Limits.{between, most_hold, most_scans}
use Rattle.settings.specs.Right.{block_ok, count_ok, slot_ok, known_of, words_ok, apart, several}
use Rattle.block.specs.declared.State.{State}
use Rattle.block.specs.State.{state_ok}
use Rattle.block.specs.Scan.{once, events}
use Rattle.block.specs.Held.{run}
use Rattle.layout.specs.declared.Kind.TheVariants.{Rows}
use Rattle.layout.specs.Sections as sections
use Rattle.layout.specs.Entries.{put_row}
use Rattle.recording.specs.Encode.{opening}

-- ## Any table

pub record Case : Type 0 where
  pub number : ℕ
  pub applies : Bool

infix 70 ◌when◌
abbrev pub ◌when◌ : ℕ → Bool → Case
n when b = record { number = n; applies = b }

-- the refusal number of the first case that applies, or 0 where none does
abbrev pub first_of : List Case → ℕ
first_of [] = 0
first_of (c ∷ cs) = cond c.applies c.number (first_of cs)

-- an answer in this order: it has the refusal number of the first case that applies, and where one applies, all else is a refusal's
pub record InOrder (cases : List Case) (number : ℕ) (refused : Type 0) : Type 0 where
  pub first : number ≡ first_of cases
  pub otherwise : (number ≡ 0 → ⊥) → refused

-- ## The parts of the tables, by refusal number

-- 2: block section wrong. 3: effects section wrong
abbrev pub settings_cases : Settings → List Case
settings_cases st =
    2 when not (block_ok st.causes st.options st.period)
    ∷ 3 when not (count_ok st.count && all_from (slot_ok (known_of st)) 0 st.effects)
    ∷ []

-- 4: a row word wrong. 5: one effect in both force words. 6: several forced without option bit 2
abbrev pub words_cases : Known → Words → List Case
words_cases k w =
    4 when not (words_ok k w)
    ∷ 5 when not (apart w)
    ∷ 6 when (several w && not (bit_of k.options 2))
    ∷ []

-- 4: the hold wrong, before the words
abbrev pub row_cases : Known → Row → List Case
row_cases k row = 4 when not (between 1 most_hold row.hold) ∷ words_cases k row.words

-- 4: row count wrong
abbrev pub count_cases : ℕ → List Case
count_cases rows = 4 when not (sections.count_ok Rows rows) ∷ []

-- 8: state breaks the rules
abbrev pub state_cases : Settings → State → List Case
state_cases st x = 8 when not (state_ok st x) ∷ []

-- 9: scans done plus hold above 1,000,000,000
abbrev pub scans_cases : State → Row → List Case
scans_cases x row = 9 when ltb most_scans (x.scans_done + row.hold) ∷ []

-- 10: room below so many bytes
abbrev pub room_cases : (needed room : ℕ) → List Case
room_cases needed room = 10 when ltb room needed ∷ []

-- ## The order at each entry point

-- a held run: settings (2, 3), state (8), row (4, 5, 6), 9, and then 10: room below 12 bytes times the records due
abbrev pub held_cases : Settings → Row → State → (room : ℕ) → List Case
held_cases st row x room =
    settings_cases st ++ state_cases st x ++ row_cases (known_of st) row ++ scans_cases x row ++ room_cases (record_length * length (run st row x).events) room

-- a scan: settings (2, 3), state (8), words (4, 5, 6), 9, and then 10, as for a held run with a hold of 1
abbrev pub scan_cases : Settings → Words → State → (room : ℕ) → List Case
scan_cases st w x room =
    settings_cases st ++ state_cases st x ++ row_cases (known_of st) (once w) ++ scans_cases x (once w) ++ room_cases (record_length * length (events st w x)) room

-- the opening piece: settings (2, 3), row count (4), and then 10: room below the piece
abbrev pub opening_cases : Settings → (rows room : ℕ) → List Case
opening_cases st rows room = settings_cases st ++ count_cases rows ++ room_cases (length (opening st rows)) room

-- a row's piece: settings (2, 3), row (4, 5, 6), and then 10: room below the piece
abbrev pub row_piece_cases : Settings → Row → (room : ℕ) → List Case
row_piece_cases st row room = settings_cases st ++ row_cases (known_of st) row ++ room_cases (length (put_row row)) room
