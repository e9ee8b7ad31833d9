-- Document 01's session, added to the empty report, gives the table of document 02, L1: computed by its eight single scans.
use mathlib.Core.Path.{◌≡◌, refl}
use lib.Count.{ones, ones_in}
use Rattle.bits.specs.Lists.{tabulate}
use Rattle.bits.specs.Words.{word_of}
use Rattle.settings.specs.Right.{settings_number, words_number, row_number}
use Rattle.settings.specs.Signals.{signals_of}
use Rattle.block.specs.State.{state_number}
use Rattle.block.specs.Scan.{input_number, after, events, scan_number, scan_of}
use Rattle.block.specs.Held.{run}
use Rattle.layout.specs.Entries.{effect_at, words_at, row_in, row_at}
use Rattle.layout.specs.Sections.{section}
use Rattle.recording.specs.Reader.{reading}
use Rattle.rerun.specs.Replay.{replay}
use Rattle.trace.specs.States.{trace}
use Rattle.season.specs.Season.{empty, season_number, added_to}
use Rattle.worked.specs.Recorded.{session}
use Rattle.worked.specs.Reported.{session_report}

pub the_session_is_added : added_to empty session ≡ record { number = 0; place = 0; effects = 2; report = session_report }
unfolding session ones ones_in tabulate word_of settings_number words_number row_number signals_of state_number input_number after events scan_number scan_of run effect_at words_at row_in row_at section reading replay trace season_number added_to
the_session_is_added = refl
