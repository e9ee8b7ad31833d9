-- The contracts of inner functions allow one answer only, where what they ask is met (`Unique` has the entry points, and says what
-- `Learnt` is). Document 01, "What each contract has to exclude".
use mathlib.Core.Path.{◌≡◌, refl, sym, ap, ap₂, ◌∙◌}
use mathlib.Core.List.{List}
use Prim.Native.Nat.{ℕ}
use native.Mathlib.Omega.{arith}
use contract.Lifetimes.{Lfts}
use Rattle.bits.proofs.bit.Reads as bits·bit
use Rattle.bits.proofs.put_bit.Reads as bits·put-bit
use Rattle.bits.proofs.U8BigEndian.get.Reads as bits·get8
use Rattle.bits.proofs.U16BigEndian.get.Reads as bits·get16
use Rattle.bits.proofs.U32BigEndian.get.Reads as bits·get32
use Rattle.bits.proofs.U64BigEndian.get.Reads as bits·get64
use Rattle.bits.proofs.U8BigEndian.put.Reads as bits·put8
use Rattle.bits.proofs.U16BigEndian.put.Reads as bits·put16
use Rattle.bits.proofs.U32BigEndian.put.Reads as bits·put32
use Rattle.bits.proofs.U64BigEndian.put.Reads as bits·put64
use Rattle.bits.proofs.OnesIterator.next.Reads as bits·ones
use Rattle.bits.specs.Words.{LowestOf}
use Rattle.bits.proofs.copy_front.Reads as bits·copy-front
use Rattle.bits.proofs.put_text.Reads as bits·put-text
use Rattle.bits.proofs.put_decimal.Reads as bits·put-decimal
use Rattle.rules.proofs.EffectState.of_code.Reads as rules·of-code
use Rattle.rules.proofs.States.{code_injective}
use Rattle.settings.proofs.numbers.RefusalFromRefused.from.Reads as settings·from
use Rattle.block.proofs.RefusalFromRunRefused.from.Reads as block·from
use Rattle.rerun.proofs.RefusedFromStopped.from.Reads as rerun·from
use Rattle.rerun.proofs.ReplayedFromResultCountsRefused.from.Reads as rerun·told
use Rattle.season.proofs.RefusalFromNotAdded.from.Reads as season·from
use Rattle.effects.proofs.Records.{one_event}
use Rattle.effects.proofs.event_at.Reads as effects·event-at
use Rattle.effects.proofs.put_record.Reads as effects·put-record
use Rattle.layout.proofs.row_at.Reads as layout·row-at
use Rattle.layout.proofs.words_at.Reads as layout·words-at
use Rattle.layout.proofs.effect_at.Reads as layout·effect-at
use Rattle.layout.proofs.effects_at.Reads as layout·effects-at
use Rattle.layout.proofs.entries_of.Reads as layout·entries-of
use Rattle.layout.proofs.width_of.Reads as layout·width-of
use Rattle.layout.proofs.refusal_of.Reads as layout·refusal-of
use Rattle.layout.proofs.count_ok.Reads as layout·count-ok
use Rattle.layout.proofs.check_entry.Reads as layout·check-entry
use Rattle.pieces.proofs.rows_section.Reads as pieces·rows-section
use Rattle.pieces.proofs.put_opening.Reads as pieces·put-opening
use Rattle.pieces.proofs.put_row.Reads as pieces·put-row
use Rattle.exactness.proofs.each_is_a_byte.Reads as exactness·each-is-a-byte
use Rattle.planes.proofs.planes_after.Reads as planes·planes-after
use Rattle.planes.proofs.changed.Reads as planes·changed
use Rattle.planes.proofs.code_at.Reads as planes·code-at
use Rattle.planes.proofs.planes_of.Reads as planes·planes-of
use Rattle.planes.proofs.slot_of.Reads as planes·slot-of
use Rattle.cells.proofs.due_by.Reads as cells·due-by
use Rattle.cells.proofs.low_timer.Reads as cells·low-timer
use Rattle.cells.proofs.tick.Reads as cells·tick
use Rattle.cells.proofs.settle.Reads as cells·settle
use Rattle.cells.proofs.timers_later.Reads as cells·timers-later
use Rattle.cells.proofs.watching.Reads as cells·watching
use Rattle.cells.proofs.load.Reads as cells·load
use Rattle.cells.proofs.slots_of.Reads as cells·slots-of
use Rattle.engine.proofs.begin.Reads as engine·begin
use Rattle.engine.proofs.stroke.Reads as engine·stroke
use Rattle.plans.proofs.wire.Reads as plans·wire
use Rattle.plans.proofs.plan_of.Reads as plans·plan-of
use Rattle.wiring.proofs.stroke.Reads as wiring·stroke
use Rattle.slots.proofs.slots_ok.Reads as slots·slots-ok
use Rattle.settings.specs.declared.Settings.{Settings}
use Rattle.engine.specs.declared.Mark.{Mark}
use Rattle.block.specs.declared.State.{State}
use Rattle.block.specs.State.{fresh}
use Rattle.block.specs.Run.{LoadedAs}
use Rattle.block.proofs.load.Reads as block·load
use Rattle.block.proofs.load_fresh.Reads as block·load-fresh
use Rattle.block.proofs.exercised_scans.Reads as block·exercised-scans
use Rattle.block.proofs.run_right.Reads as block·run-right
use Rattle.block.proofs.run_kept.Reads as block·run-kept
use Rattle.rerun.proofs.check_holds.Reads as rerun·check-holds
use Rattle.rerun.proofs.run_of.Reads as rerun·run-of
use Rattle.rerun.proofs.answer_of.Reads as rerun·answer-of
use Rattle.rerun.proofs.counted.Reads as rerun·counted
use Rattle.rerun.proofs.begin.Reads as rerun·begin
use Rattle.rerun.proofs.row.Reads as rerun·row
use Rattle.rerun.proofs.go.Reads as rerun·go
use Rattle.listing.proofs.row.Reads as listing·row
use Rattle.numbers.proofs.put_check.Reads as numbers·put-check
use Rattle.numbers.proofs.or_ten.Reads as numbers·or-ten
use Rattle.numbers.proofs.put_numbers.Reads as numbers·put-numbers
use Rattle.numbers.proofs.put_counted.Reads as numbers·put-counted
use Rattle.sums.proofs.in_range.Reads as sums·in-range
use Rattle.sums.proofs.add_all.Reads as sums·add-all
use Rattle.tally.proofs.Shown.{shown_injective}
use Rattle.tally.proofs.Count.close_all.Reads as tally·close-all
use Rattle.tally.proofs.Count.count_events.Reads as tally·count-events
use Rattle.tally.proofs.Count.empty.Reads as tally·empty
use Rattle.season_table.proofs.Table.empty.Reads as season-table·empty
use Rattle.season_table.specs.Files.{with_file}
use Rattle.season_table.proofs.Theorems.{an_answer, an_answer_stands}
use Rattle.season_table.proofs.Table.with_file.Reads as season-table·with-file
use Rattle.season_table.proofs.put_table.Reads as season-table·put-table
use Rattle.season_bytes.proofs.report_at.Reads as season-bytes·report-at
use Rattle.season_bytes.proofs.put_report.Reads as season-bytes·put-report
use Rattle.season_bytes.proofs.add.Reads as season-bytes·add
use Rattle.text.proofs.put_header.Reads as text·put-header
use Rattle.text.proofs.put_lines.Reads as text·put-lines
use Rattle.text.proofs.put_last.Reads as text·put-last
use Rattle.text.proofs.put_refusal.Reads as text·put-refusal
use denote.RattleType.{RattleType}
use denote.Param.Laws.{Laws}
use mir.Syntax.{Dict}
use Rattle.text.specs.declared.Field.{Ghosts}
use Rattle.text.proofs.ToldFromRefused.from.Reads as text·from
use Rattle.text.proofs.put_field.Reads as text·put-field
use Rattle.wording.proofs.put_named.Reads as wording·put-named
use Rattle.text.proofs.put_end.Reads as text·put-end
use Rattle.reasons.proofs.sight_of.Reads as reasons·sight-of
use Rattle.reasons.proofs.reason_by.Reads as reasons·reason-by
use Rattle.reasons.proofs.signs_of.Reads as reasons·signs-of
use Rattle.reasons.proofs.reason_in.Reads as reasons·reason-in
use Rattle.wording.proofs.put_reason.Reads as wording·put-reason
use Rattle.reason_bytes.proofs.put_numbers.Reads as reason-bytes·put-numbers
use Rattle.reasoned.proofs.sight_at.Reads as reasoned·sight-at
use Rattle.standing.proofs.reason_now.Reads as standing·reason-now
use Rattle.now_table.proofs.show.Reads as now-table·show
use Rattle.now_table.proofs.Once.{shown_once}
use Rattle.why_bytes.proofs.put_reasons.Reads as why-bytes·put-reasons
use Rattle.why_bytes.proofs.put_now.Reads as why-bytes·put-now
use Rattle.room.proofs.check_records.Reads as room·check-records
use Rattle.text.proofs.put_total.Reads as text·put-total
use Rattle.findings.proofs.explain.Reads as findings·explain
use Rattle.sentences.proofs.put_finding.Reads as sentences·put-finding
use Rattle.reports.proofs.put_heading.Reads as reports·put-heading
use Rattle.reports.proofs.put_check.Reads as reports·put-check
use Rattle.reports.proofs.put_explained.Reads as reports·put-explained
use Rattle.summaries.proofs.put_summary.Reads as summaries·put-summary
use Rattle.summaries.proofs.put_summary_header.Reads as summaries·put-summary-header
use Rattle.wiring.specs.Wiring.{Stroked}
use Rattle.rerun.specs.Turn.{Totals}
use Rattle.std.proofs.Common.{Ok, Option, None, Some}
use Rattle.settings.specs.Refusals.{number_of, number_in}
use Rattle.settings.proofs.Once.{refusal_once, check_once}
use Rattle.block.specs.Answer.{as_held}
use Rattle.block.proofs.Once.{run_once, held_once}
use Rattle.rerun.specs.Answer.{as_stop, as_replayed}
use Rattle.rerun.proofs.Once.{turn_once, end_once, stop_once, replayed_once}
use Rattle.listing.specs.Printed.{printed_of}
use Rattle.listing.proofs.Placing.{printed_once}
use Rattle.findings.specs.Answer.{as_explained}
use Rattle.findings.proofs.Once.{explained_once}
use Rattle.settings.proofs.Right.{hold_some}
use Rattle.block.proofs.Answers.{row_right}
use Rattle.demands.specs.OneAnswer.{Unique, UniqueWhereAsked, none, both}
use Rattle.demands.proofs.Unique.{by_equations, by_equation, by_equations_as, by_equation_as}
use Rattle.demands.proofs.Determined.{same_array, same_mark, same_end, same-plan, same_wired, same-run, going_run, going_array, lent, struck_by, same_turn, same_printed, same_exercised}

-- ## Bits, numbers and text (`bits`)

pub bits_bit : (κs : Lfts 0) → Unique (bits·bit.Learnt κs) none
bits_bit κs = by_equation (bits·bit.Learnt κs) _ (λ a r e h. h)

pub bits_put_bit : (κs : Lfts 0) → Unique (bits·put-bit.Learnt κs) none
bits_put_bit κs = by_equation (bits·put-bit.Learnt κs) _ (λ a r e h. h)

pub bits_get8 : (κs : Lfts 1) → Unique (bits·get8.Learnt κs) none
bits_get8 κs = by_equation (bits·get8.Learnt κs) _ (λ a r e h. h)

pub bits_get16 : (κs : Lfts 1) → Unique (bits·get16.Learnt κs) none
bits_get16 κs = by_equation (bits·get16.Learnt κs) _ (λ a r e h. h)

pub bits_get32 : (κs : Lfts 1) → Unique (bits·get32.Learnt κs) none
bits_get32 κs = by_equation (bits·get32.Learnt κs) _ (λ a r e h. h)

pub bits_get64 : (κs : Lfts 1) → Unique (bits·get64.Learnt κs) none
bits_get64 κs = by_equation (bits·get64.Learnt κs) _ (λ a r e h. h)

pub bits_put8 : (κs : Lfts 1) → Unique (bits·put8.Learnt κs) (λ e. e.0.now)
bits_put8 κs = by_equations (bits·put8.Learnt κs) (λ e. e.0.now) (λ a. tt) _ (λ a r e h. (refl, h))

pub bits_put16 : (κs : Lfts 1) → Unique (bits·put16.Learnt κs) (λ e. e.0.now)
bits_put16 κs = by_equations (bits·put16.Learnt κs) (λ e. e.0.now) (λ a. tt) _ (λ a r e h. (refl, h))

pub bits_put32 : (κs : Lfts 1) → Unique (bits·put32.Learnt κs) (λ e. e.0.now)
bits_put32 κs = by_equations (bits·put32.Learnt κs) (λ e. e.0.now) (λ a. tt) _ (λ a r e h. (refl, h))

pub bits_put64 : (κs : Lfts 1) → Unique (bits·put64.Learnt κs) (λ e. e.0.now)
bits_put64 κs = by_equations (bits·put64.Learnt κs) (λ e. e.0.now) (λ a. tt) _ (λ a r e h. (refl, h))

lowest_once : (w : ℕ) (r q : Option ℕ) (l m : ℕ) → LowestOf w r l → LowestOf w q m → (r ≡ q) × (l ≡ m)
lowest_once w None None l m h k = (refl, h.1 ∙ sym k.1)
lowest_once w None (Some j) l m h k = absurd (omega (arith, h.0, k.0))
lowest_once w (Some i) None l m h k = absurd (omega (arith, h.0, k.0))
lowest_once w (Some i) (Some j) l m h k = (ap Some (h.1 ∙ sym k.1), h.3 ∙ sym k.3)

pub bits_ones : (κs : Lfts 1) → Unique (bits·ones.Learnt κs) (λ e. e.0.now.0)
bits_ones κs a r q e f h k = lowest_once a.0.now.0 r q e.0.now.0 f.0.now.0 h.0 k.0

pub bits_copy_front : (κs : Lfts 2) → Unique (bits·copy-front.Learnt κs) (λ e. e.1.1.0.now)
bits_copy_front κs = by_equations (bits·copy-front.Learnt κs) (λ e. e.1.1.0.now) (λ a. tt) _ (λ a r e h. (refl, h))

pub bits_put_text : (κs : Lfts 2) → Unique (bits·put-text.Learnt κs) (λ e. e.0.now)
bits_put_text κs = by_equations (bits·put-text.Learnt κs) (λ e. e.0.now) _ _ (λ a r e h. h)

pub bits_put_decimal : (κs : Lfts 1) → Unique (bits·put-decimal.Learnt κs) (λ e. e.0.now)
bits_put_decimal κs = by_equations (bits·put-decimal.Learnt κs) (λ e. e.0.now) _ _ (λ a r e h. h)

-- ## What a refusal carries is left out (`settings`, `block`, `rerun`, `season`)

pub settings_from : (κs : Lfts 0) → Unique (settings·from.Learnt κs) none
settings_from κs = by_equation (settings·from.Learnt κs) _ (λ a r e h. h)

pub block_from : (κs : Lfts 0) → Unique (block·from.Learnt κs) none
block_from κs = by_equation (block·from.Learnt κs) _ (λ a r e h. h)

pub rerun_from : (κs : Lfts 0) → Unique (rerun·from.Learnt κs) none
rerun_from κs = by_equation (rerun·from.Learnt κs) _ (λ a r e h. h)

pub rerun_told : (κs : Lfts 0) → Unique (rerun·told.Learnt κs) none
rerun_told κs = by_equation (rerun·told.Learnt κs) _ (λ a r e h. h)

pub season_from : (κs : Lfts 0) → Unique (season·from.Learnt κs) none
season_from κs = by_equation (season·from.Learnt κs) _ (λ a r e h. h)

-- A refusal is told by its number (`text`)

pub text_from : (κs : Lfts 0) → Unique (text·from.Learnt κs) none
text_from κs = by_equation (text·from.Learnt κs) _ (λ a r e h. h)

-- ## Event records (`effects`)

pub rules_of_code : (κs : Lfts 0) → Unique (rules·of-code.Learnt κs) none
rules_of_code κs = λ a r q e f h k. (code_injective r q (h ∙ sym k), refl)

pub effects_event_at : (κs : Lfts 1) → Unique (effects·event-at.Learnt κs) none
effects_event_at κs = λ a r q e f h k. (one_event a.0.now a.1.0 r q h k, refl)

pub effects_put_record : (κs : Lfts 1) → Unique (effects·put-record.Learnt κs) (λ e. e.0.now)
effects_put_record κs = by_equations (effects·put-record.Learnt κs) (λ e. e.0.now) (λ a. tt) _ (λ a r e h. (refl, h))

-- ## What stands at a known place, and the table of sections (`layout`)

pub layout_row_at : (κs : Lfts 1) → Unique (layout·row-at.Learnt κs) none
layout_row_at κs = by_equation (layout·row-at.Learnt κs) _ (λ a r e h. h)

pub layout_words_at : (κs : Lfts 1) → Unique (layout·words-at.Learnt κs) none
layout_words_at κs = by_equation (layout·words-at.Learnt κs) _ (λ a r e h. h)

pub layout_effect_at : (κs : Lfts 1) → Unique (layout·effect-at.Learnt κs) none
layout_effect_at κs = by_equation (layout·effect-at.Learnt κs) _ (λ a r e h. h)

pub layout_effects_at : (κs : Lfts 1) → Unique (layout·effects-at.Learnt κs) none
layout_effects_at κs = by_equation (layout·effects-at.Learnt κs) _ (λ a r e h. h)

pub layout_entries_of : (κs : Lfts 0) → Unique (layout·entries-of.Learnt κs) none
layout_entries_of κs = by_equation (layout·entries-of.Learnt κs) _ (λ a r e h. h)

pub layout_width_of : (κs : Lfts 0) → Unique (layout·width-of.Learnt κs) none
layout_width_of κs = by_equation (layout·width-of.Learnt κs) _ (λ a r e h. h)

pub layout_refusal_of : (κs : Lfts 0) → Unique (layout·refusal-of.Learnt κs) none
layout_refusal_of κs = by_equation_as (layout·refusal-of.Learnt κs) number_of _ refusal_once (λ a r e h. h)

pub layout_count_ok : (κs : Lfts 0) → Unique (layout·count-ok.Learnt κs) none
layout_count_ok κs = by_equation (layout·count-ok.Learnt κs) _ (λ a r e h. h)

pub layout_check_entry : (κs : Lfts 1) → Unique (layout·check-entry.Learnt κs) none
layout_check_entry κs = by_equation_as (layout·check-entry.Learnt κs) number_in _ check_once (λ a r e h. h)

-- ## The pieces of a recording (`pieces`)

pub pieces_rows_section : (κs : Lfts 0) → Unique (pieces·rows-section.Learnt κs) none
pieces_rows_section κs = by_equation (pieces·rows-section.Learnt κs) _ (λ a r e h. h)

pub pieces_put_opening : (κs : Lfts 1) → Unique (pieces·put-opening.Learnt κs) (λ e. e.0.now)
pieces_put_opening κs = by_equations (pieces·put-opening.Learnt κs) (λ e. e.0.now) (λ a. tt) _ (λ a r e h. (refl, h.0))

pub pieces_put_row : (κs : Lfts 1) → Unique (pieces·put-row.Learnt κs) (λ e. e.0.now)
pieces_put_row κs = by_equations (pieces·put-row.Learnt κs) (λ e. e.0.now) (λ a. tt) _ (λ a r e h. (refl, h))

-- ## Laws of recordings (`exactness`)

pub exactness_each_is_a_byte : (κs : Lfts 1) → Unique (exactness·each-is-a-byte.Learnt κs) none
exactness_each_is_a_byte κs = by_equation (exactness·each-is-a-byte.Learnt κs) (λ a. tt) (λ a r e h. refl)

-- ## The words of effects (`planes`)

pub planes_planes_after : (κs : Lfts 0) → Unique (planes·planes-after.Learnt κs) none
planes_planes_after κs = by_equation (planes·planes-after.Learnt κs) _ (λ a r e h. h)

pub planes_changed : (κs : Lfts 0) → Unique (planes·changed.Learnt κs) none
planes_changed κs = by_equation (planes·changed.Learnt κs) _ (λ a r e h. h)

pub planes_code_at : (κs : Lfts 0) → Unique (planes·code-at.Learnt κs) none
planes_code_at κs = by_equation (planes·code-at.Learnt κs) _ (λ a r e h. h)

pub planes_planes_of : (κs : Lfts 0) → Unique (planes·planes-of.Learnt κs) none
planes_planes_of κs = by_equation (planes·planes-of.Learnt κs) _ (λ a r e h. h)

pub planes_slot_of : (κs : Lfts 0) → Unique (planes·slot-of.Learnt κs) none
planes_slot_of κs = by_equation (planes·slot-of.Learnt κs) _ (λ a r e h. h)

-- ## A stroke, and its array (`engine`)

pub cells_due_by : (κs : Lfts 1) → Unique (cells·due-by.Learnt κs) none
cells_due_by κs = by_equation (cells·due-by.Learnt κs) _ (λ a r e h. h)

pub cells_low_timer : (κs : Lfts 1) → Unique (cells·low-timer.Learnt κs) none
cells_low_timer κs = by_equation (cells·low-timer.Learnt κs) _ (λ a r e h. h)

pub cells_tick : (κs : Lfts 1) → Unique (cells·tick.Learnt κs) (λ e. e.0.now)
cells_tick κs = by_equations (cells·tick.Learnt κs) (λ e. e.0.now) _ _ (λ a r e h. h)

pub cells_settle : (κs : Lfts 1) → Unique (cells·settle.Learnt κs) (λ e. e.0.now)
cells_settle κs = by_equations (cells·settle.Learnt κs) (λ e. e.0.now) (λ a. tt) _ (λ a r e h. (refl, h))

pub cells_timers_later : (κs : Lfts 1) → Unique (cells·timers-later.Learnt κs) (λ e. e.1.0.now)
cells_timers_later κs = by_equations (cells·timers-later.Learnt κs) (λ e. e.1.0.now) (λ a. tt) _ (λ a r e h. (refl, h))

pub cells_watching : (κs : Lfts 1) → Unique (cells·watching.Learnt κs) none
cells_watching κs = by_equation (cells·watching.Learnt κs) _ (λ a r e h. h)

pub cells_load : (κs : Lfts 1) → Unique (cells·load.Learnt κs) (λ e. e.0.now)
cells_load κs = by_equations (cells·load.Learnt κs) (λ e. e.0.now) _ _ (λ a r e h. h)

pub cells_slots_of : (κs : Lfts 1) → Unique (cells·slots-of.Learnt κs) none
cells_slots_of κs = by_equation (cells·slots-of.Learnt κs) _ (λ a r e h. h)

pub engine_begin : (κs : Lfts 0) → Unique (engine·begin.Learnt κs) none
engine_begin κs = by_equation (engine·begin.Learnt κs) _ (λ a r e h. h)

-- two things are lent: the array, and then the buffer
pub engine_stroke : (κs : Lfts 2) → Unique (engine·stroke.Learnt κs) (both (λ e. e.1.0.now) (λ e. e.0.now))
engine_stroke κs a r q e f h k =
    let shown = h.board ∙ sym k.board in (
      same_mark e.1.0.now f.1.0.now shown,
      lent (same_array h.same.long k.same.long shown (h.same.associations ∙ sym k.same.associations) (h.same.delays ∙ sym k.same.delays))
          (h.laid ∙ sym k.laid),
    )

-- ## What the settings give to the words of effects (`plans`)

pub plans_wire : (κs : Lfts 1) → Unique (plans·wire.Learnt κs) (λ e. e.0.now)
plans_wire κs = by_equations (plans·wire.Learnt κs) (λ e. e.0.now) (λ a. tt) _ (λ a r e h. (refl, h))

pub plans_plan_of : (κs : Lfts 0) → Unique (plans·plan-of.Learnt κs) none
plans_plan_of κs = by_equation (plans·plan-of.Learnt κs) _ (λ a r e h. h)

-- ## What a row gives to the words of effects (`wiring`)

-- the contract speaks of any settings with which the row can run, and there are some
pub wiring_stroke : (κs : Lfts 2) → UniqueWhereAsked (wiring·stroke.Asked κs) (wiring·stroke.Learnt κs) (both (λ e. e.1.0.now) (λ e. e.0.now))
wiring_stroke κs a r q e f asked h k =
    let x = h asked.st asked.runs in
    let y = k asked.st asked.runs in
    let shown = x.stroked ∙ sym y.stroked in
    let board = ap (λ (s : Stroked). s.board) shown in
    let mark : r.mark ≡ q.mark = same_mark e.1.0.now f.1.0.now board in (
      ap₂ struck_by mark shown,
      lent (same_wired x.wired y.wired board) (x.laid ∙ sym y.laid),
    )

-- ## The slots of a state (`slots`)

pub slots_slots_ok : (κs : Lfts 0) → Unique (slots·slots-ok.Learnt κs) none
slots_slots_ok κs = by_equation (slots·slots-ok.Learnt κs) _ (λ a r e h. h)

-- ## A held run without its checks (`block`)

one_load : (st : Settings) (x : State) (r q : Mark) (b c : List ℕ) → LoadedAs st x (record { mark = r; board = b }) → LoadedAs st x (record { mark = q; board = c }) → (r ≡ q) × (b ≡ c)
one_load st x r q b c h k =
    let shown = h.board_is ∙ sym k.board_is in
    (same_mark b c shown, same_array h.long k.long shown (h.associations_are ∙ sym k.associations_are) (h.delays_are ∙ sym k.delays_are))

pub block_load : (κs : Lfts 1) → Unique (block·load.Learnt κs) (λ e. e.0.now)
block_load κs a r q e f h k = one_load a.1.0 a.1.1.0 r q e.0.now f.0.now h k

pub block_load_fresh : (κs : Lfts 1) → Unique (block·load-fresh.Learnt κs) (λ e. e.0.now)
block_load_fresh κs a r q e f h k = one_load a.1.0 fresh r q e.0.now f.0.now h k

pub block_exercised_scans : (κs : Lfts 0) → Unique (block·exercised-scans.Learnt κs) none
block_exercised_scans κs = by_equation (block·exercised-scans.Learnt κs) _ (λ a r e h. h)

pub block_run_right : (κs : Lfts 1) → Unique (block·run-right.Learnt κs) (λ e. e.0.now)
block_run_right κs = by_equations_as (block·run-right.Learnt κs) (λ r. as_held (Ok r)) (λ e. e.0.now) _ _ (λ r q e. run_once r q (held_once (Ok r) (Ok q) e)) (λ a r e h. h)

pub block_run_kept : (κs : Lfts 2) → UniqueWhereAsked (block·run-kept.Asked κs) (block·run-kept.Learnt κs) (both (λ e. e.1.0.now) (λ e. e.0.now))
block_run_kept κs a r q e f asked h k =
    let x = h asked.st asked.runs in
    let y = k asked.st asked.runs in
    let board = x.board ∙ sym y.board in
    let mark : r.mark ≡ q.mark = same_end e.1.0.now f.1.0.now board (x.records ∙ sym y.records) (x.live ∙ sym y.live) in
    let effect : r.effect ≡ q.effect = x.effect ∙ sym y.effect in
    let latent : r.latent ≡ q.latent = x.latent ∙ sym y.latent in
    let exercised : r.exercised ≡ q.exercised = same_exercised r.exercised q.exercised (hold_some _ _ (row_right _ _ _ _ refl asked.runs.input)) (x.exercised ∙ sym y.exercised) in (
      (λ j. record { mark = mark j; effect = effect j; latent = latent j; exercised = exercised j }),
      lent (same_wired x.wired y.wired board) (x.laid ∙ sym y.laid),
    )

-- ## A replay row by row (`rerun`)

pub rerun_begin : (κs : Lfts 1) → Unique (rerun·begin.Learnt κs) (λ e. e.1.0.now)
rerun_begin κs a r q e f h k =
    let shown = h.totals ∙ sym k.totals in (
      same-run e.1.0.now f.1.0.now shown (same-plan h.wired k.wired) (h.wide ∙ sym k.wide) (h.many ∙ sym k.many),
      same_wired h.wired k.wired (ap (λ (t : Totals). t.board) shown),
    )

pub rerun_row : (κs : Lfts 3) → Unique (rerun·row.Learnt κs) (both (λ e. e.1.1.0.now) (λ e. e.1.1.1.0.now))
rerun_row κs a r q e f h k =
    let rows = h.rows_are ∙ sym k.rows_are in (
      turn_once r q (same_turn (h.number_is ∙ sym k.number_is) (h.records_are ∙ sym k.records_are) (going_run h.going k.going rows)),
      lent (going_array h.going k.going rows) (h.laid ∙ sym k.laid),
    )

pub rerun_go : (κs : Lfts 3) → Unique (rerun·go.Learnt κs) (both (λ e. e.1.1.1.0.now) (λ e. e.1.1.1.1.0.now))
rerun_go κs a r q e f h k =
    let rows = h.rows_are ∙ sym k.rows_are in (
      end_once r q (same_turn (h.number_is ∙ sym k.number_is) (h.records_are ∙ sym k.records_are) (going_run h.going k.going rows)),
      lent (going_array h.going k.going rows) (h.laid ∙ sym k.laid),
    )

pub rerun_check_holds : (κs : Lfts 1) → Unique (rerun·check-holds.Learnt κs) none
rerun_check_holds κs = by_equation_as (rerun·check-holds.Learnt κs) as_stop _ stop_once (λ a r e h. h)

pub rerun_answer_of : (κs : Lfts 0) → Unique (rerun·answer-of.Learnt κs) none
rerun_answer_of κs = by_equation (rerun·answer-of.Learnt κs) _ (λ a r e h. h)

pub rerun_counted : (κs : Lfts 0) → Unique (rerun·counted.Learnt κs) none
rerun_counted κs = by_equation_as (rerun·counted.Learnt κs) as_replayed _ replayed_once (λ a r e h. h)

pub rerun_run_of : (κs : Lfts 0) → Unique (rerun·run-of.Learnt κs) none
rerun_run_of κs = by_equation (rerun·run-of.Learnt κs) _ (λ a r e h. h)

-- ## The lines of a row (`listing`)

pub listing_row : (κs : Lfts 3) → Unique (listing·row.Learnt κs) (both (λ e. e.1.1.0.now) (λ e. e.1.1.1.0.now))
listing_row κs a r q e f h k =
    let rows = h.rows_are ∙ sym k.rows_are in
    let run = a.1.0 in
    let at = a.1.1.1.1.0 in
    let turn : (printed_of run at r).turn ≡ (printed_of run at q).turn = same_turn (h.number_is ∙ sym k.number_is) (h.records_are ∙ sym k.records_are) (going_run h.going k.going rows) in (
      printed_once run at r q (same_printed (h.full_is ∙ sym k.full_is) (h.at-is ∙ sym k.at-is) turn),
      lent (going_array h.going k.going rows) (h.text ∙ sym k.text),
    )

-- ## The numbers that cross (`numbers`)

pub numbers_put_check : (κs : Lfts 1) → Unique (numbers·put-check.Learnt κs) (λ e. e.0.now)
numbers_put_check κs = by_equations (numbers·put-check.Learnt κs) (λ e. e.0.now) _ _ (λ a r e h. h)

pub numbers_or_ten : (κs : Lfts 0) → Unique (numbers·or-ten.Learnt κs) none
numbers_or_ten κs = by_equation (numbers·or-ten.Learnt κs) _ (λ a r e h. h)

pub numbers_put_numbers : (κs : Lfts 2) → Unique (numbers·put-numbers.Learnt κs) (λ e. e.0.now)
numbers_put_numbers κs = by_equations (numbers·put-numbers.Learnt κs) (λ e. e.0.now) (λ a. tt) _ (λ a r e h. (refl, h))

pub numbers_put_counted : (κs : Lfts 1) → Unique (numbers·put-counted.Learnt κs) (λ e. e.0.now)
numbers_put_counted κs = by_equations (numbers·put-counted.Learnt κs) (λ e. e.0.now) _ _ (λ a r e h. h)

-- ## Season totals (`sums`, `tally`, `season_bytes`)

pub sums_in_range : (κs : Lfts 2) → Unique (sums·in-range.Learnt κs) none
sums_in_range κs = by_equation (sums·in-range.Learnt κs) _ (λ a r e h. h)

pub sums_add_all : (κs : Lfts 2) → Unique (sums·add-all.Learnt κs) (λ e. e.0.now)
sums_add_all κs = by_equations (sums·add-all.Learnt κs) (λ e. e.0.now) (λ a. tt) _ (λ a r e h. (refl, h))

pub tally_close_all : (κs : Lfts 1) → Unique (tally·close-all.Learnt κs) (λ e. e.0.now)
tally_close_all κs = by_equations (tally·close-all.Learnt κs) (λ e. e.0.now) (λ a. tt) _ (λ a r e h. (refl, h))

pub tally_count_events : (κs : Lfts 2) → UniqueWhereAsked (tally·count-events.Asked κs) (tally·count-events.Learnt κs) (λ e. e.0.now)
tally_count_events κs a r q e f asked h k =
    (refl, shown_injective e.0.now f.0.now (h asked.0 asked.1 asked.2 ∙ sym (k asked.0 asked.1 asked.2)))

pub tally_empty : (κs : Lfts 0) → Unique (tally·empty.Learnt κs) none
tally_empty κs a r q e f h k = (shown_injective r q (h ∙ sym k), refl)

pub season_bytes_report_at : (κs : Lfts 1) → Unique (season-bytes·report-at.Learnt κs) none
season_bytes_report_at κs = by_equation (season-bytes·report-at.Learnt κs) _ (λ a r e h. h)

pub season_bytes_put_report : (κs : Lfts 1) → Unique (season-bytes·put-report.Learnt κs) (λ e. e.0.now)
season_bytes_put_report κs = by_equations (season-bytes·put-report.Learnt κs) (λ e. e.0.now) (λ a. tt) _ (λ a r e h. (refl, h))

pub season_bytes_add : (κs : Lfts 2) → Unique (season-bytes·add.Learnt κs) (λ e. e.1.0.now)
season_bytes_add κs = by_equations (season-bytes·add.Learnt κs) (λ e. e.1.0.now) _ _ (λ a r e h. h)

-- ## The table of season totals (`season_table`)

pub season_table_empty : (κs : Lfts 0) → Unique (season-table·empty.Learnt κs) none
season_table_empty κs = by_equation (season-table·empty.Learnt κs) _ (λ a r e h. h)

pub season_table_with_file : (κs : Lfts 0) → Unique (season-table·with-file.Learnt κs) none
season_table_with_file κs =
    by_equation (season-table·with-file.Learnt κs) (λ (t, (added, _)). with_file t (an_answer added)) (λ (t, (added, _)) r e h. h (an_answer added) (an_answer_stands added))

pub season_table_put_table : (κs : Lfts 1) → Unique (season-table·put-table.Learnt κs) (λ e. e.0.now)
season_table_put_table κs = by_equations (season-table·put-table.Learnt κs) (λ e. e.0.now) _ _ (λ a r e h. h.0)

-- ## Lines of text (`text`)

pub text_put_header : (κs : Lfts 1) → Unique (text·put-header.Learnt κs) (λ e. e.0.now)
text_put_header κs = by_equations (text·put-header.Learnt κs) (λ e. e.0.now) _ _ (λ a r e h. h.0)

pub text_put_lines : (κs : Lfts 3) → UniqueWhereAsked (text·put-lines.Asked κs) (text·put-lines.Learnt κs) (λ e. e.0.now)
text_put_lines κs = λ a r q e f asked h k.
    let g = asked.1 in
    let x = h.0 g.0 g.1 g.2 in
    let y = k.0 g.0 g.1 g.2 in
    (x.0 ∙ sym y.0, x.1 ∙ sym y.1)

pub text_put_last : (κs : Lfts 1) → Unique (text·put-last.Learnt κs) (λ e. e.0.now)
text_put_last κs = by_equations (text·put-last.Learnt κs) (λ e. e.0.now) _ _ (λ a r e h. h.0)

pub text_put_refusal : (κs : Lfts 1) → Unique (text·put-refusal.Learnt κs) (λ e. e.0.now)
text_put_refusal κs = by_equations (text·put-refusal.Learnt κs) (λ e. e.0.now) _ _ (λ a r e h. h.0)

pub text_put_field : (F : RattleType) (l : Laws F) (G : Ghosts F.Denot) (d : Dict) (κs : Lfts 2) → Unique (text·put-field.Learnt F l G d κs) (λ e. e.0.now)
text_put_field F l G d κs a r q e f h k = (h.0 ∙ sym k.0, h.1 ∙ sym k.1)

pub text_put_total : (κs : Lfts 2) → Unique (text·put-total.Learnt κs) (λ e. e.0.now)
text_put_total κs = by_equations (text·put-total.Learnt κs) (λ e. e.0.now) _ _ (λ a r e h. h)

-- ## Why a file is refused (`findings`, `sentences`)

pub findings_explain : (κs : Lfts 1) → Unique (findings·explain.Learnt κs) none
findings_explain κs = by_equation_as (findings·explain.Learnt κs) as_explained _ explained_once (λ a r e h. h)

pub sentences_put_finding : (κs : Lfts 1) → Unique (sentences·put-finding.Learnt κs) (λ e. e.0.now)
sentences_put_finding κs = by_equations (sentences·put-finding.Learnt κs) (λ e. e.0.now) _ _ (λ a r e h. h.0)

-- ## Lines about a recording with its name (`reports`, `summaries`)

pub reports_put_heading : (κs : Lfts 2) → Unique (reports·put-heading.Learnt κs) (λ e. e.0.now)
reports_put_heading κs = by_equations (reports·put-heading.Learnt κs) (λ e. e.0.now) _ _ (λ a r e h. h.0)

pub reports_put_check : (κs : Lfts 2) → Unique (reports·put-check.Learnt κs) (λ e. e.0.now)
reports_put_check κs = by_equations (reports·put-check.Learnt κs) (λ e. e.0.now) _ _ (λ a r e h. h.0)

pub reports_put_explained : (κs : Lfts 2) → Unique (reports·put-explained.Learnt κs) (λ e. e.0.now)
reports_put_explained κs = by_equations (reports·put-explained.Learnt κs) (λ e. e.0.now) _ _ (λ a r e h. h.0)

pub summaries_put_summary : (κs : Lfts 2) → Unique (summaries·put-summary.Learnt κs) (λ e. e.0.now)
summaries_put_summary κs = by_equations (summaries·put-summary.Learnt κs) (λ e. e.0.now) _ _ (λ a r e h. h.0)

pub summaries_put_summary_header : (κs : Lfts 1) → Unique (summaries·put-summary-header.Learnt κs) (λ e. e.0.now)
summaries_put_summary_header κs = by_equations (summaries·put-summary-header.Learnt κs) (λ e. e.0.now) _ _ (λ a r e h. h.0)

-- ## Reasons (`reasons`, `wording`, `reason_bytes`, `reasoned`, `standing`, `now_table`, `why_bytes`), their lines (`text`), and room (`room`)

pub reasons_sight_of : (κs : Lfts 0) → Unique (reasons·sight-of.Learnt κs) none
reasons_sight_of κs = by_equation (reasons·sight-of.Learnt κs) _ (λ a r e h. h)

pub reasons_reason_by : (κs : Lfts 0) → Unique (reasons·reason-by.Learnt κs) none
reasons_reason_by κs = by_equation (reasons·reason-by.Learnt κs) _ (λ a r e h. h)

pub reasons_signs_of : (κs : Lfts 0) → Unique (reasons·signs-of.Learnt κs) none
reasons_signs_of κs = by_equation (reasons·signs-of.Learnt κs) _ (λ a r e h. h)

pub reasons_reason_in : (κs : Lfts 1) → Unique (reasons·reason-in.Learnt κs) none
reasons_reason_in κs = by_equation (reasons·reason-in.Learnt κs) _ (λ a r e h. h)

pub wording_put_reason : (κs : Lfts 1) → Unique (wording·put-reason.Learnt κs) (λ e. e.0.now)
wording_put_reason κs = by_equations (wording·put-reason.Learnt κs) (λ e. e.0.now) _ _ (λ a r e h. h)

pub wording_put_named : (κs : Lfts 2) → Unique (wording·put-named.Learnt κs) (λ e. e.0.now)
wording_put_named κs = by_equations (wording·put-named.Learnt κs) (λ e. e.0.now) _ _ (λ a r e h. h)

pub reason_bytes_put_numbers : (κs : Lfts 1) → Unique (reason-bytes·put-numbers.Learnt κs) (λ e. e.0.now)
reason_bytes_put_numbers κs = by_equations (reason-bytes·put-numbers.Learnt κs) (λ e. e.0.now) (λ a. tt) _ (λ a r e h. (refl, h))

pub reasoned_sight_at : (κs : Lfts 1) → Unique (reasoned·sight-at.Learnt κs) none
reasoned_sight_at κs = by_equation (reasoned·sight-at.Learnt κs) _ (λ a r e h. h)

pub standing_reason_now : (κs : Lfts 0) → Unique (standing·reason-now.Learnt κs) none
standing_reason_now κs = by_equation (standing·reason-now.Learnt κs) _ (λ a r e h. h)

pub now_table_show : (κs : Lfts 2) → Unique (now-table·show.Learnt κs) (λ e. e.0.now)
now_table_show κs a r q e f h k = (shown_once r q (h.number_is ∙ sym k.number_is) (h.size_is ∙ sym k.size_is), h.text ∙ sym k.text)

pub why_bytes_put_reasons : (κs : Lfts 2) → Unique (why-bytes·put-reasons.Learnt κs) (λ e. e.1.0.now)
why_bytes_put_reasons κs = by_equations (why-bytes·put-reasons.Learnt κs) (λ e. e.1.0.now) _ _ (λ a r e h. h)

pub why_bytes_put_now : (κs : Lfts 2) → Unique (why-bytes·put-now.Learnt κs) (λ e. e.1.0.now)
why_bytes_put_now κs = by_equations (why-bytes·put-now.Learnt κs) (λ e. e.1.0.now) _ _ (λ a r e h. h)

pub text_put_end : (κs : Lfts 1) → Unique (text·put-end.Learnt κs) (λ e. e.0.now)
text_put_end κs = by_equations (text·put-end.Learnt κs) (λ e. e.0.now) _ _ (λ a r e h. h)

pub room_check_records : (κs : Lfts 2) → Unique (room·check-records.Learnt κs) none
room_check_records κs = by_equation_as (room·check-records.Learnt κs) number_in _ check_once (λ a r e h. h)
