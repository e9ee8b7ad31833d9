-- Document 01's session, computed through the reader and the whole replay: its bytes are read,
-- and give the events and the totals of its listing.
use mathlib.Core.Path.{◌≡◌, refl}
use lib.Count.{ones, ones_in}
use Rattle.bits.specs.Lists.{tabulate}
use Rattle.bits.specs.Words.{word_of}
use Rattle.settings.specs.Right.{settings_number, words_number, row_number}
use Rattle.settings.specs.Signals.{signals_of}
use Rattle.block.specs.State.{state_number}
use Rattle.block.specs.Scan.{input_number, after, events, scan_number, scan_of}
use Rattle.block.specs.Held.{run}
use Rattle.recording.specs.Answer.{Accepted}
use Rattle.layout.specs.Entries.{effect_at, words_at, row_in, row_at}
use Rattle.layout.specs.Sections.{section}
use Rattle.recording.specs.Reader.{reading}
use Rattle.rerun.specs.Replay.{replay}
use Rattle.worked.specs.Recorded.{session, session_events}

pub the_session_is_read : (reading session).answer ≡ Accepted 2 22 24
unfolding session ones ones_in settings_number words_number row_number effect_at words_at row_in row_at section reading
the_session_is_read = refl

pub the_session : let o = replay session in let r = (replay session).replay in
    (o.number ≡ 0) × (r.events ≡ session_events) × (r.rows ≡ 2) × (r.state.scans_done ≡ 8) × (r.live ≡ 3) × (r.exercised ≡ 5)
unfolding session ones ones_in tabulate word_of settings_number words_number row_number signals_of state_number input_number after events scan_number scan_of run effect_at words_at row_in row_at section reading replay
the_session = (refl, refl, refl, refl, refl, refl)
