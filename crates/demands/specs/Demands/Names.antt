-- The names that the page of demands uses, and where each is defined.
-- names of the kit
pub use Rattle.std.specs.Prelude.{◌≡◌, true, false, List, ◌++◌, ◌⊎◌, ◌↔◌, ℕ, suc, ◌+◌, ◌*◌, ◌^◌, ◌≤◌, ◌<◌, length, get_or, drop, map, ◌-◌}
pub use contract.Lifetimes.{Lfts}
pub use Rattle.std.specs.Borrow.{Bor, MutBor}
-- words and numbers
pub use Rattle.bits.specs.Words.{bit_of}
pub use Rattle.bits.specs.Numbers.{Bytes}
pub use Rattle.exactness.proofs.each_is_a_byte.Reads as each-is-a-byte
-- settings, rows and states
pub use Rattle.rules.specs.declared.Slot.{Slot}
pub use Rattle.settings.specs.declared.Row.{Row}
pub use Rattle.settings.specs.declared.Settings.{Settings}
pub use Rattle.settings.specs.declared.Words.{Words}
pub use Rattle.settings.specs.declared.Known.{Known}
pub use Rattle.block.specs.declared.State.{State}
pub use Rattle.settings.specs.Right.{known_of, settings_number, words_number, row_number}
pub use Rattle.block.specs.State.{state_ok}
-- one scan, and a held run
pub use Rattle.rules.specs.Rules as rules
pub use Rattle.rules.specs.Rules.{no_slot, is_on, is_latent, is_exercised}
pub use Rattle.effects.specs.Records.{bytes}
pub use Rattle.effects.specs.Scan.{seq_after}
pub use Rattle.settings.specs.Signals.{signals, signals_of}
pub use Rattle.block.specs.Answer.{Scanned}
pub use Rattle.block.specs.Answer.{Held}
pub use Rattle.block.specs.Scan.{events, scan_of, scan_into}
pub use Rattle.block.specs.Held.{words_at, Stepped, start, single, stepped, held_of, held_into}
-- recordings
pub use Rattle.recording.specs.Answers.{number, place, row_count_of, ended, step_row, next_place}
pub use Rattle.recording.specs.Reader.{refusal, reading}
pub use Rattle.recording.specs.Steps.{step_at, row_place, rows_of}
pub use Rattle.layout.specs.Entries.{put_row}
pub use Rattle.recording.specs.Encode.{encode, opening, Right}
pub use Rattle.recording.specs.Refused.{Refused}
pub use Rattle.recording.specs.Accepted.{Accepted, Answers as AnswersOf}
pub use Rattle.writing.specs.Answers.{written_number, written_place, written_length}
pub use Rattle.writing.specs.Writer.{opening_written, opening_after, row_written, row_after}
pub use Rattle.walk.specs.declared.Walk.{Walk}
pub use Rattle.walk.specs.Walks.{start_of, next_of, moved_on, walked, given}
-- whole files, listings, and the static library
pub use Rattle.rerun.specs.Replay.{started, refused_at, answered, replay, row_of}
pub use Rattle.listing.specs.Printed.{has_room, written, placed}
pub use Rattle.pohandira.specs.Crossing.{replay_number}
-- season totals
pub use Rattle.season.specs.declared.Report.{Report}
pub use Rattle.season.specs.Season.{empty, added_to}
pub use Rattle.season.specs.Overall.{over_all, six_of, holds_of}
pub use Rattle.season_bytes.specs.Bytes.{into_number, season_into}
pub use Rattle.worked.specs.Recorded.{session}
pub use Rattle.worked.specs.Reported.{session_report}
-- names of this crate
pub use Rattle.demands.specs.Answers.{Answers}
pub use Rattle.demands.specs.Order.{first_of, InOrder, settings_cases, words_cases, row_cases, held_cases, scan_cases, opening_cases, row_piece_cases}
pub use Rattle.demands.specs.Library.{CheckInOrder, ReplayInOrder, CountAsReplayed}
pub use Rattle.demands.specs.Back.{Recording, written_back}
pub use Rattle.demands.specs.Season.{CountsSingleScans, AddsInOrder, SeasonInOrder}
-- reasons
pub use Rattle.reasons.specs.declared.Reason.{Reason}
pub use Rattle.rules.specs.Signals.{Signals}
pub use Rattle.reasons.specs.Fits.{fits}
pub use Rattle.reasons.specs.Reasons.{reason_of}
pub use Rattle.queries.specs.Reply.{Because}
pub use Rattle.queries.specs.Queries.{reply_number, reply_place, reply_of}
pub use Rattle.reasoned.specs.Reasoned.{Reasoned, reasoned}
pub use Rattle.demands.specs.Reasons.{FitsAt, ExactlyOneFits, SameReasonLeadsAlike, query_cases}
