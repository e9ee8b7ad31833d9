-- What a call of each entry point gives. Its contract asks nothing of a caller (`Asked`), and a caller learns that the result and
-- the parameters at exit (`Learnt`) are those of the definitions named here. Rattle makes `Asked` and `Learnt` from the
-- clauses in src/ and proves that they are what a call gives (`known` beside them), so this page is about the contracts themselves.
-- Where a result is an enum, it is seen through the definition that has document 01's number and values of each case (`as_scanned`, ..).
-- Arguments stand in the order of src/, and `_` is what follows the last. Document 01, "What each contract has to exclude"; document 02, L1 and L4.
use Rattle.std.specs.Prelude.{◌≡◌, ◌^◌, ltb, length}
use seplogic.Ra.Ura.{Ura}
use base.Logic.{SProp, emp}
use prog.Memory.{Memory}
use prog.Routine.{Routine}
use types.Logic.{Logic}
use contract.Lifetimes.{Lfts}
use contract.Monad.{Fun, fact}
use denote.Triple.Clauses.{AtExit}
use denote.Triple.Entry.{Args, Res}
use Rattle.bits.proofs as bits
use Rattle.rules.proofs as rules
use Rattle.settings.proofs as settings
use Rattle.block.proofs as block
use Rattle.recording.proofs as recording
use Rattle.writing.proofs as writing
use Rattle.walk.proofs as walk
use Rattle.walk.specs.contracts.start as start_contract
use Rattle.walk.specs.contracts.Walk.next as next_contract
use Rattle.rerun.proofs as rerun
use Rattle.listing.proofs as listing
use Rattle.season.proofs as season
use Rattle.queries.proofs as queries
use Rattle.pohandira.proofs as pohandira
use Rattle.rules.specs.Limits.{most_delay, most_hold, most_scans}
use Rattle.rules.specs.Rules.{code, same}
use Rattle.settings.specs.Right.{block_number, effect_number, known_of, several, settings_number, words_number, row_number}
use Rattle.settings.specs.Refusals.{number_of, number_in}
use Rattle.settings.specs.Causes.{seen_of}
use Rattle.settings.specs.Signals.{forces_count}
use Rattle.block.specs.Answer.{as_scanned, as_held}
use Rattle.block.specs.State.{fresh}
use Rattle.block.specs.Scan.{scans_number, scan_of, scan_into}
use Rattle.block.specs.Held.{held_of, held_into}
use Rattle.recording.specs.Answer.{as_reading}
use Rattle.recording.specs.Reader.{reading}
use Rattle.recording.specs.Step.{as_step}
use Rattle.recording.specs.Steps.{step_at}
use Rattle.writing.specs.Written.{as_written}
use Rattle.writing.specs.Writer.{opening_written, opening_after, row_written, row_after}
use Rattle.walk.specs.Started.{as_started}
use Rattle.walk.specs.Walks.{start_of, next_of, moved_on, nth_of}
use Rattle.rerun.specs.Answer.{as_replayed}
use Rattle.rerun.specs.Replay.{answered, replay}
use Rattle.listing.specs.Listing.{closing}
use Rattle.listing.specs.Printed.{answer_told, opening, has_room, placed, written, place_of}
use Rattle.text.specs.Room.{most_piece}
use Rattle.pohandira.specs.Crossing.{check_number, check_into, count_number, count_into, replay_number, records_into, totals_into}
use Rattle.pohandira.specs.Version.{version}
use Rattle.queries.specs.Reply.{as_reply}
use Rattle.queries.specs.Queries.{reply_of}
use Rattle.why_bytes.specs.Bytes.{reasons_number, reasons_into, now_number, now_into}
use Rattle.season.specs.Answer.{as_added}
use Rattle.season.specs.Season.{empty, added_to}
use Rattle.season_bytes.specs.Bytes.{into_number, season_into}
use Rattle.demands.specs.OneAnswer.{Gives, GivesAs, Returns, ReturnsAs, both}

-- κ0, κ1, κ2 and κ3 are the lifetimes of what is lent
pub record EntryPoints (κ0 : Lfts 0) (κ1 : Lfts 1) (κ2 : Lfts 2) (κ3 : Lfts 3) : Type 0 where
  -- the block (`block`)
  pub fresh : Returns (block.State.fresh.Reads.Asked κ0) (block.State.fresh.Reads.Learnt κ0) (λ _. fresh)
  pub scan : GivesAs (block.State.scan.Reads.Asked κ1) (block.State.scan.Reads.Learnt κ1) as_scanned (λ (x, (st, (w, (out, _)))). scan_of st w x (length out.now))
      (λ e. e.1.1.1.0.now) (λ (x, (st, (w, (out, _)))). scan_into st w x out.now)
  pub held : GivesAs (block.State.held.Reads.Asked κ1) (block.State.held.Reads.Learnt κ1) as_held (λ (x, (st, (row, (out, _)))). held_of st row x (length out.now))
      (λ e. e.1.1.1.0.now) (λ (x, (st, (row, (out, _)))). held_into st row x out.now)
  pub most-scans : Returns (block.State.most_scans.Reads.Asked κ0) (block.State.most_scans.Reads.Learnt κ0) (λ _. most_scans)
  pub scans-number : ReturnsAs (block.check_scans.Reads.Asked κ0) (block.check_scans.Reads.Learnt κ0) number_in (λ (done, (hold, _)). scans_number done hold)
  -- recordings (`recording`) and the writer (`writing`)
  pub read : ReturnsAs (recording.read.Reads.Asked κ1) (recording.read.Reads.Learnt κ1) as_reading (λ (s, _). reading s.now)
  pub row_step : ReturnsAs (recording.row_step.Reads.Asked κ1) (recording.row_step.Reads.Learnt κ1) as_step (λ (s, (at, _)). step_at s.now at)
  pub write_opening : GivesAs (writing.write_opening.Reads.Asked κ1) (writing.write_opening.Reads.Learnt κ1) as_written (λ (st, (rows, (out, _))). opening_written st rows (length out.now))
      (λ e. e.1.1.0.now) (λ (st, (rows, (out, _))). opening_after st rows out.now)
  pub write-row : GivesAs (writing.write_row.Reads.Asked κ1) (writing.write_row.Reads.Learnt κ1) as_written (λ (st, (row, (out, _))). row_written st row (length out.now))
      (λ e. e.1.1.0.now) (λ (st, (row, (out, _))). row_after st row out.now)
  -- a walk (`walk`); `WalkCalls` has `start` and `next`
  pub nth : ReturnsAs (walk.nth.Reads.Asked κ1) (walk.nth.Reads.Learnt κ1) as_step (λ (s, (n, _)). nth_of s.now n)
  -- whole files (`rerun`), and the static library (`pohandira`)
  pub replay : ReturnsAs (rerun.replay.Reads.Asked κ1) (rerun.replay.Reads.Learnt κ1) as_replayed (λ (s, _). answered (replay s.now))
  pub pohandira_version : Returns (pohandira.pohandira_version.Reads.Asked κ0) (pohandira.pohandira_version.Reads.Learnt κ0) (λ _. version)
  pub pohandira_check : Gives (pohandira.pohandira_check.Reads.Asked κ2) (pohandira.pohandira_check.Reads.Learnt κ2) (λ (s, (answer, _)). check_number s.now (length answer.now))
      (λ e. e.1.0.now) (λ (s, (answer, _)). check_into s.now answer.now)
  pub pohandira_count : Gives (pohandira.pohandira_count.Reads.Asked κ2) (pohandira.pohandira_count.Reads.Learnt κ2) (λ (s, (totals, _)). count_number s.now (length totals.now))
      (λ e. e.1.0.now) (λ (s, (totals, _)). count_into s.now totals.now)
  pub pohandira_replay : Gives (pohandira.pohandira_replay.Reads.Asked κ3) (pohandira.pohandira_replay.Reads.Learnt κ3) (λ (s, (records, (totals, _))). replay_number s.now (length records.now) (length totals.now))
      (both (λ e. e.1.0.now) (λ e. e.1.1.0.now)) (both (λ (s, (records, (totals, _))). records_into s.now (length totals.now) records.now) (λ (s, (records, (totals, _))). totals_into s.now (length records.now) totals.now))
  -- season totals (`season`), and the static library's
  pub season_empty : Returns (season.Report.empty.Reads.Asked κ0) (season.Report.empty.Reads.Learnt κ0) (λ _. empty)
  pub season_add : ReturnsAs (season.Report.add.Reads.Asked κ1) (season.Report.add.Reads.Learnt κ1) as_added (λ (r, (s, _)). added_to r s.now)
  pub pohandira_season : Gives (pohandira.pohandira_season.Reads.Asked κ2) (pohandira.pohandira_season.Reads.Learnt κ2) (λ (s, (report, _)). into_number s.now report.now)
      (λ e. e.1.0.now) (λ (s, (report, _)). season_into s.now report.now)
  -- reasons (`queries`), and the static library's
  pub why : ReturnsAs (queries.why.Reads.Asked κ0) (queries.why.Reads.Learnt κ0) as_reply (λ (st, (x, (w, (effect, _)))). reply_of st w x effect)
  pub pohandira_reasons : Gives (pohandira.pohandira_reasons.Reads.Asked κ2) (pohandira.pohandira_reasons.Reads.Learnt κ2) (λ (s, (out, _)). reasons_number s.now (length out.now))
      (λ e. e.1.0.now) (λ (s, (out, _)). reasons_into s.now out.now)
  pub pohandira_now : Gives (pohandira.pohandira_now.Reads.Asked κ2) (pohandira.pohandira_now.Reads.Learnt κ2) (λ (s, (out, _)). now_number s.now (length out.now))
      (λ e. e.1.0.now) (λ (s, (out, _)). now_into s.now out.now)
  -- listings (`listing`)
  pub opening : Gives (listing.opening.Reads.Asked κ1) (listing.opening.Reads.Learnt κ1) (λ (file, (out, (at, (why, _)))). place_of (written (length out.now) at (opening why (answer_told file))))
      (λ e. e.1.0.now) (λ (file, (out, (at, (why, _)))). placed out.now at (opening why (answer_told file)))
  pub closing : Gives (listing.closing.Reads.Asked κ1) (listing.closing.Reads.Learnt κ1) (λ (end, (out, (at, _))). place_of (written (length out.now) at (closing end)))
      (λ e. e.1.0.now) (λ (end, (out, (at, _))). placed out.now at (closing end))
  pub has_room : Returns (listing.has_room.Reads.Asked κ0) (listing.has_room.Reads.Learnt κ0) (λ (n, (at, _)). has_room n at)
  pub most-piece : Returns (listing.most_piece.Reads.Asked κ0) (listing.most_piece.Reads.Learnt κ0) (λ _. most_piece)
  -- settings and rows (`settings`)
  pub settings-number : ReturnsAs (settings.check_settings.Reads.Asked κ0) (settings.check_settings.Reads.Learnt κ0) number_in (λ (st, _). settings_number st)
  pub block-number : ReturnsAs (settings.check_block.Reads.Asked κ0) (settings.check_block.Reads.Learnt κ0) number_in (λ (causes, (options, (period, _))). block_number causes options period)
  pub effect-number : ReturnsAs (settings.check_effect.Reads.Asked κ0) (settings.check_effect.Reads.Learnt κ0) number_in (λ (causes, (e, _)). effect_number causes e)
  pub row_number : ReturnsAs (settings.check_row.Reads.Asked κ0) (settings.check_row.Reads.Learnt κ0) number_in (λ (k, (row, _)). row_number k row)
  pub words-number : ReturnsAs (settings.check_words.Reads.Asked κ0) (settings.check_words.Reads.Learnt κ0) number_in (λ (k, (w, _)). words_number k w)
  pub refusal-number : Returns (settings.numbers.U8FromRefusal.from.Reads.Asked κ0) (settings.numbers.U8FromRefusal.from.Reads.Learnt κ0) (λ (refusal, _). number_of refusal)
  pub known-of : Returns (settings.known_of.Reads.Asked κ0) (settings.known_of.Reads.Learnt κ0) (λ (st, _). known_of st)
  pub is_several : Returns (settings.is_several.Reads.Asked κ0) (settings.is_several.Reads.Learnt κ0) (λ (w, _). several w)
  pub forces-count : Returns (settings.forces_count.Reads.Asked κ0) (settings.forces_count.Reads.Learnt κ0) (λ (options, (w, _)). forces_count options w)
  pub seen_of : Returns (settings.seen_of.Reads.Asked κ0) (settings.seen_of.Reads.Learnt κ0) (λ (options, (w, _)). seen_of options w)
  pub most-hold : Returns (settings.Row.most_hold.Reads.Asked κ0) (settings.Row.most_hold.Reads.Learnt κ0) (λ _. most_hold)
  pub most-delay : Returns (settings.Effect.most_delay.Reads.Asked κ0) (settings.Effect.most_delay.Reads.Learnt κ0) (λ _. most_delay)
  -- one effect (`rules`)
  pub code : Returns (rules.U8FromEffectState.from.Reads.Asked κ0) (rules.U8FromEffectState.from.Reads.Learnt κ0) (λ (p, _). code p)
  pub same : Returns (rules.EffectStatePartialEq.eq.Reads.Asked κ2) (rules.EffectStatePartialEq.eq.Reads.Learnt κ2) (λ (p, (q, _)). same p.now q.now)
  -- words (`bits`)
  pub within : Returns (bits.within.Reads.Asked κ0) (bits.within.Reads.Learnt κ0) (λ (word, (n, _)). ltb word (2 ^ n))

-- `start` and `next` have no `Asked` and `Learnt`, because a walk holds a reference. In every model of the logic their clauses ask
-- nothing and are the plain facts that follow
pub record WalkCalls {M : Type 1} {𝓤 : Ura M} (𝓛 : Logic 𝓤) (mem : Memory → SProp 𝓤) (run : Routine → Fun 𝓤) (κ1 : Lfts 1) (κ2 : Lfts 2) : Type 2 where
  pub start : (a : Args start_contract.signature κ1) (r : Res start_contract.signature κ1) (e : AtExit start_contract.ended κ1) → let c = start_contract.clauses 𝓛 mem run κ1 a in
      (c.requires tt ≡ emp 𝓤) × (c.ensures tt r e ≡ fact 𝓤 ((as_started r ≡ start_of a.0) × (as_reading r.answer ≡ reading a.0.now)))
  pub next : (a : Args next_contract.signature κ2) (r : Res next_contract.signature κ2) (e : AtExit next_contract.ended κ2) → let c = next_contract.clauses 𝓛 mem run κ2 a in
      (c.requires tt ≡ emp 𝓤) × (c.ensures tt r e ≡ fact 𝓤 ((as_step r ≡ next_of a.0.now) × (e.0.now ≡ moved_on a.0.now)))

-- what every entry point gives, whatever is lent, and for however long
pub record Answers : Type 3 where
  pub entry_points : (κ0 : Lfts 0) (κ1 : Lfts 1) (κ2 : Lfts 2) (κ3 : Lfts 3) → EntryPoints κ0 κ1 κ2 κ3
  pub walk_calls : {M : Type 1} {𝓤 : Ura M} (𝓛 : Logic 𝓤) (mem : Memory → SProp 𝓤) (run : Routine → Fun 𝓤) (κ1 : Lfts 1) (κ2 : Lfts 2)
      → WalkCalls 𝓛 mem run κ1 κ2
