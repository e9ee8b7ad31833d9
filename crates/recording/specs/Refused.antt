-- Why a file is refused, by which refusal number and at which place, in terms of its bytes alone: the reader's own steps are not
-- named. Document 01, "Refusal numbers": the table, the order in a file, and the place: the file length for 1, the first byte of the
-- count or entry for 2 to 6, the first spare byte for 7.
use Rattle.std.specs.Prelude.{ℕ, suc, ◌+◌, ◌*◌, ◌≤◌, ◌<◌, ◌≡◌, true, false, List, length}
use Rattle.bits.specs.Numbers.{num_at}
use Rattle.settings.specs.declared.Known.{Known}
use Rattle.settings.specs.Right.{known_of}
use Rattle.layout.specs.declared.Kind.{Kind}
use Rattle.layout.specs.declared.Kind.TheVariants.{Block, Effects, Rows}
use Rattle.layout.specs.Sections.{width_of, number_of, count_ok, test_of}
use Rattle.recording.specs.Reader.{nothing_known, known_of_block, settings_at}

-- ## In entries of w bytes from `at`, in a file of `len` bytes

-- the first i entries are there and valid
pub record FirstRight (test : ℕ → ℕ) (w len at i : ℕ) : Type 0 where
  pub there : at + w * i ≤ len
  pub right : (j : ℕ) → j < i → test (at + w * j) ≡ 0

-- n entries stop at the first that is not there or not valid
pub data EntryStops (test : ℕ → ℕ) (w len n at : ℕ) : ℕ → ℕ → Type 0 where
  -- refusal number 1: the bytes end before the entry does
  short : (i : ℕ) → i < n → FirstRight test w len at i → len < at + w * i + w → EntryStops test w len n at 1 len
  -- the entry's own refusal number, at its first byte
  wrong : (i k : ℕ) → i < n → FirstRight test w len at i → at + w * i + w ≤ len → test (at + w * i) ≡ suc k → EntryStops test w len n at (suc k) (at + w * i)

-- ## In a section at `at`

pub data Stops (kind : Kind) (k : Known) (s : List ℕ) (at : ℕ) : ℕ → ℕ → Type 0 where
  -- refusal number 1: the bytes end before the count does
  short : length s < at + 2 → Stops kind k s at 1 (length s)
  -- the section's refusal number: its count is wrong
  wrong : at + 2 ≤ length s → count_ok kind (num_at 2 s at) ≡ false → Stops kind k s at (number_of kind) at
  -- the refusal of one of its entries
  entries : (number place : ℕ) → at + 2 ≤ length s → count_ok kind (num_at 2 s at) ≡ true
      → EntryStops (test_of kind k s) (width_of kind) (length s) (num_at 2 s at) (at + 2) number place → Stops kind k s at number place

-- a section passes: its count and all its entries are there and valid, and e is the place after them
pub record Passes (kind : Kind) (k : Known) (s : List ℕ) (at e : ℕ) : Type 0 where
  pub room : at + 2 ≤ length s
  pub count : count_ok kind (num_at 2 s at) ≡ true
  pub entries : FirstRight (test_of kind k s) (width_of kind) (length s) (at + 2) (num_at 2 s at)
  pub next : e ≡ at + 2 + width_of kind * num_at 2 s at

-- ## In a file

-- the sections before the rows pass; and, below, all three sections pass
pub record ToRows (s : List ℕ) (e r : ℕ) : Type 0 where
  pub block : Passes Block nothing_known s 0 e
  pub effects : Passes Effects (known_of_block s) s e r

pub record ToEnd (s : List ℕ) (e r end : ℕ) : Type 0 where
  pub before : ToRows s e r
  pub rows : Passes Rows (known_of (settings_at s e)) s r end

pub data Refused (s : List ℕ) : ℕ → ℕ → Type 0 where
  in_block : (number place : ℕ) → Stops Block nothing_known s 0 number place → Refused s number place
  in_effects : (number place e : ℕ) → Passes Block nothing_known s 0 e → Stops Effects (known_of_block s) s e number place → Refused s number place
  in_rows : (number place e r : ℕ) → ToRows s e r → Stops Rows (known_of (settings_at s e)) s r number place → Refused s number place
  -- refusal number 7: bytes are left over
  spare : (e r end : ℕ) → ToEnd s e r end → end < length s → Refused s 7 end
