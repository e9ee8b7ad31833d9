-- A row and settings that are all zero; an answer that has none gives these. Document 01, "Refusal numbers": a refusal gives zeros.
use Rattle.std.specs.Prelude.{replicate}
use Rattle.settings.specs.declared.Settings.{Settings}
use Rattle.settings.specs.declared.Words.{Words}
use Rattle.settings.specs.declared.Row.{Row}
use Rattle.rules.specs.Limits.{most_effects}
use Rattle.settings.specs.Signals.{no_effect}

abbrev pub no_words : Words
no_words =
    record {
      values = 0;
      bad = 0;
      mask = 0;
      require_reset = 0;
      reset_permit = 0;
      start_permit = 0;
      reset = 0;
      force_permit = 0;
      force_trip = 0;
      force_normal = 0;
    }

abbrev pub no_row : Row
no_row = record { hold = 0; words = no_words }

abbrev pub no_settings : Settings
no_settings = record { causes = 0; options = 0; period = 0; count = 0; effects = replicate most_effects no_effect }
