-- The entries: their numbers in layout order, as they are read and as they are written. Document 01, "Recordings".
use Rattle.std.specs.Prelude.{ℕ, ◌+◌, List, [], ◌∷◌, take, drop}
use Rattle.bits.specs.Numbers.{num_at}
use Rattle.bits.specs.Layout.{pack}
use Rattle.settings.specs.declared.Effect.{Effect}
use Rattle.settings.specs.declared.Words.{Words}
use Rattle.settings.specs.declared.Row.{Row}
use Rattle.settings.specs.Right.{block_number}

-- ## Block: cause count (1), options (1), period (2)

pub record BlockEntry : Type 0 where
  pub causes : ℕ
  pub options : ℕ
  pub period : ℕ

abbrev pub block_at : List ℕ → ℕ → BlockEntry
block_at s at = record { causes = num_at 1 s at; options = num_at 1 s (at + 1); period = num_at 2 s (at + 2) }

abbrev pub block_layout : List ℕ
block_layout = 1 ∷ 1 ∷ 2 ∷ []

abbrev pub block_fields : BlockEntry → List ℕ
block_fields b = b.causes ∷ b.options ∷ b.period ∷ []

unfoldable pub put_block : BlockEntry → List ℕ
put_block b = pack block_layout (block_fields b)

abbrev pub block_check : BlockEntry → ℕ
block_check b = block_number b.causes b.options b.period

-- ## Effects: each association (2), delay (4)

unfoldable pub effect_at : List ℕ → ℕ → Effect
effect_at s at = record { association = num_at 2 s at; delay = num_at 4 s (at + 2) }

abbrev pub effect_layout : List ℕ
effect_layout = 2 ∷ 4 ∷ []

abbrev pub effect_fields : Effect → List ℕ
effect_fields e = e.association ∷ e.delay ∷ []

unfoldable pub put_effect : Effect → List ℕ
put_effect e = pack effect_layout (effect_fields e)

-- ## Rows: each hold (4), ten words (2 each)

-- the ten words that start at `at`
unfoldable pub words_at : List ℕ → ℕ → Words
words_at s at =
    record {
      values = num_at 2 s at;
      bad = num_at 2 s (at + 2);
      mask = num_at 2 s (at + 4);
      require_reset = num_at 2 s (at + 6);
      reset_permit = num_at 2 s (at + 8);
      start_permit = num_at 2 s (at + 10);
      reset = num_at 2 s (at + 12);
      force_permit = num_at 2 s (at + 14);
      force_trip = num_at 2 s (at + 16);
      force_normal = num_at 2 s (at + 18);
    }

-- the row that these bytes spell; what they do not reach is 0
unfoldable pub row_in : List ℕ → Row
row_in bytes = record { hold = num_at 4 bytes 0; words = words_at bytes 4 }

-- the row in the `width` bytes from `at`; no other byte is read
unfoldable pub row_at : (width : ℕ) → List ℕ → (at : ℕ) → Row
row_at width s at = row_in (take width (drop at s))

abbrev pub row_layout : List ℕ
row_layout = 4 ∷ 2 ∷ 2 ∷ 2 ∷ 2 ∷ 2 ∷ 2 ∷ 2 ∷ 2 ∷ 2 ∷ 2 ∷ []

abbrev pub row_fields : Row → List ℕ
row_fields r =
    r.hold ∷ r.words.values ∷ r.words.bad ∷ r.words.mask ∷ r.words.require_reset ∷ r.words.reset_permit
    ∷ r.words.start_permit ∷ r.words.reset ∷ r.words.force_permit ∷ r.words.force_trip ∷ r.words.force_normal ∷ []

unfoldable pub put_row : Row → List ℕ
put_row r = pack row_layout (row_fields r)
