-- What a whole file results in. Document 01, "Recordings": section by section, stopping at the first refusal.
use Rattle.std.specs.Prelude.{ℕ, ◌+◌, ◌-◌, cond, List, ◌++◌, eqb, length, replicate}
use Rattle.bits.specs.Numbers.{num_at}
use Rattle.settings.specs.declared.Settings.{Settings}
use Rattle.settings.specs.declared.Known.{Known}
use Rattle.settings.specs.Right.{known_of}
use Rattle.settings.specs.Signals.{no_effect}
use Rattle.settings.specs.Zeros.{no_settings}
use Rattle.layout.specs.Section.{Section}
use Rattle.layout.specs.Section as S
use Rattle.recording.specs.Answer as A
use Rattle.recording.specs.Answer.{Reading}
use Rattle.layout.specs.declared.Kind.TheVariants.{Block, Effects, Rows}
use Rattle.layout.specs.Entries.{block_at, effect_at}
use Rattle.bits.specs.Lists.{list_of}
use Rattle.layout.specs.Sections.{width_of, section_of}

-- ## Settings, and what is known of them

-- the settings of a file whose effects section starts at e
abbrev pub settings_at : List ℕ → ℕ → Settings
settings_at s e =
    record {
      causes = (block_at s 2).causes;
      options = (block_at s 2).options;
      period = (block_at s 2).period;
      count = num_at 2 s e;
      effects = list_of (effect_at s) (width_of Effects) (num_at 2 s e) (e + 2) ++ replicate (16 - num_at 2 s e) no_effect;
    }

-- what is known before the block section, and after it
abbrev pub nothing_known : Known
nothing_known = record { causes = 0; count = 0; options = 0 }

abbrev pub known_of_block : List ℕ → Known
known_of_block s = record { causes = (block_at s 2).causes; count = 0; options = (block_at s 2).options }

-- ## The reading

-- a refusal gives its refusal number, a place, and zeros
abbrev pub refusal : (number place : ℕ) → Reading
refusal number place = record { answer = A.Refused number place; settings = no_settings }

-- the reading goes on after a section that passes, and stops with its refusal otherwise
abbrev pub from_section : Section → (ℕ → Reading) → Reading
from_section (S.Next at) next = next at
from_section (S.Refused number place) next = refusal number place

-- the reading after each section of the file, from the last one to the first. The effects are at e, the rows at r
abbrev pub after_rows : List ℕ → (e r end : ℕ) → Reading
after_rows s e r end =
    cond (eqb end (length s)) (record { answer = A.Accepted (num_at 2 s r) (r + 2) (width_of Rows); settings = settings_at s e }) (refusal 7 end)

abbrev pub after_effects : List ℕ → (e r : ℕ) → Reading
after_effects s e r = from_section (section_of Rows (known_of (settings_at s e)) s r) (after_rows s e r)

abbrev pub after_block : List ℕ → (e : ℕ) → Reading
after_block s e = from_section (section_of Effects (known_of_block s) s e) (after_effects s e)

unfoldable pub reading : List ℕ → Reading
reading s = from_section (section_of Block nothing_known s 0) (after_block s)
