-- A query's answers: of a scan whose records have room, whatever they are, comes the refusal number or the state after, and of the states
-- before and after comes the reason.
use mathlib.Core.Path.{◌≡◌, refl, ap, sym, ◌∙◌}
use Prim.Native.Nat.{ℕ, ◌-◌, ◌*◌, ◌≤◌, ◌<◌}
use native.Mathlib.Omega.{arith}
use borrow.Author.Tests.{leb-true}
use lib.Dec.{leb}
use lib.ListN.{length}
use Rattle.bits.proofs.Lists.{and_left, and_right, length-tabulate, get_or-tabulate}
use Rattle.rules.specs.Signals.{Signals}
use Rattle.rules.specs.declared.Slot.{Slot}
use Rattle.rules.specs.Rules.{no_slot, no_signals, next}
use Rattle.effects.specs.Records.{record_length, most_row_bytes}
use Rattle.effects.proofs.Laws.{step-at}
use Rattle.settings.specs.declared.Settings.{Settings}
use Rattle.settings.specs.declared.Words.{Words}
use Rattle.settings.specs.Refusals.{or_else, granted}
use Rattle.settings.specs.Signals.{signals, signals_of}
use Rattle.settings.proofs.Refusals.{granted_none, granted_refused, granted_number, unless_none, room_enough, or_else_none, or_else_alone}
use Rattle.block.specs.declared.State.{State}
use Rattle.block.specs.Answer.{Scanned}
use Rattle.block.specs.Scan.{input_number, once, after, events, scan_number, granted_scan, refused_scan, scan_of}
use Rattle.block.specs.Held.{run}
use Rattle.block.proofs.Answers.{few}
use Rattle.block.proofs.Runs.{due_bytes}
use Rattle.reasons.specs.declared.Reason.{Reason}
use Rattle.reasons.specs.Given.{signs_of}
use Rattle.reasons.specs.Reasons.{reason_by, reason_of}
use Rattle.queries.specs.Reply.{Reply}
use Rattle.queries.specs.Reply.{Because, Refused}
use Rattle.queries.specs.Queries.{present_number, query_number, reply_of}
use Rattle.queries.specs.Across.{slot_at, reason_across}

-- ## The scan

module _ (st : Settings) (w : Words) (x : State) where
  -- the records of a scan that nothing else refuses have room
  records_fit : input_number st x (once w) ≡ 0 → record_length * length (events st w x) ≤ most_row_bytes
  unfolding run
  records_fit z = due_bytes st (once w) x z

  -- so refusal number 10 does not occur
  no_ten : scan_number st w x most_row_bytes ≡ input_number st x (once w)
  unfolding scan_number
  no_ten = or_else_alone _ _ (λ z. room_enough _ most_row_bytes (records_fit z))

  module _ (r : Scanned) (is : r ≡ scan_of st w x most_row_bytes) where
    scanned_number : r.number ≡ input_number st x (once w)
    unfolding scan_of
    scanned_number =
        ap (λ (a : Scanned). a.number) is
        ∙ granted_number (granted_scan st w x) (refused_scan x) (λ (a : Scanned). a.number) (scan_number st w x most_row_bytes) (λ z. refl) (λ k. refl)
        ∙ no_ten

    scanned_state : input_number st x (once w) ≡ 0 → r.state ≡ after st w x
    unfolding scan_of
    scanned_state z =
        ap (λ (a : Scanned). a.state) (is ∙ granted_none (granted_scan st w x) (refused_scan x) (scan_number st w x most_row_bytes) (no_ten ∙ z))

-- ## The effect

module _ (st : Settings) (w : Words) (x : State) (effect : ℕ) (none : query_number st w x effect ≡ 0) where
  parts : (input_number st x (once w) ≡ 0) × (present_number st.count effect ≡ 0)
  unfolding query_number
  parts = or_else_none (input_number st x (once w)) (present_number st.count effect) none

  from_one : 1 ≤ effect
  from_one = leb-true 1 effect (and_left (leb 1 effect) _ (unless_none _ 2 parts.1))

  to_count : effect ≤ st.count
  to_count = leb-true effect st.count (and_right (leb 1 effect) _ (unless_none _ 2 parts.1))

  in_sixteen : effect - 1 < 16
  in_sixteen = omega (arith, from_one, to_count, few st (once w) x _ refl parts.0)

  module _ (long : length x.slots ≡ 16) where
    -- effects do not read each other: the slot after the scan comes of the effect's own slot and signals
    slot-after : slot_at (after st w x) (effect - 1) ≡ next (signals_of st w (effect - 1)) (slot_at x (effect - 1))
    unfolding after
    slot-after =
        let h : effect - 1 < st.count = omega (arith, from_one, to_count) in
        step-at (signals st w) x.slots (effect - 1) no_signals no_slot (rw length-tabulate h) (omega (arith, long, in_sixteen))
        ∙ ap (λ (s : Signals). next s (slot_at x (effect - 1))) (get_or-tabulate (signals_of st w) st.count (effect - 1) no_signals h)

    reason_after : reason_across st w x (after st w x) (effect - 1) ≡ reason_of (signals_of st w (effect - 1)) (slot_at x (effect - 1))
    unfolding reason_across
    reason_after =
        ap (λ (y : Slot). reason_by (signs_of (signals_of st w (effect - 1))) (slot_at x (effect - 1)).state y.state y.timer) slot-after

-- ## The answer

-- what the code has before it answers: what the scan answers, and the refusal number n of the query
pub record Found (st : Settings) (w : Words) (x : State) (effect : ℕ) (r : Scanned) (n : ℕ) : Type 0 where
  pub scanned : r ≡ scan_of st w x most_row_bytes
  pub number : n ≡ or_else r.number (present_number st.count effect)

module _ {st : Settings} {w : Words} {x : State} {effect : ℕ} {r : Scanned} {n : ℕ} (found : Found st w x effect r n) where
  number_is : n ≡ query_number st w x effect
  unfolding query_number
  number_is = found.number ∙ ap (λ (k : ℕ). or_else k (present_number st.count effect)) (scanned_number st w x r found.scanned)

  abbrev because : Reply
  because = Because (reason_of (signals_of st w (effect - 1)) (slot_at x (effect - 1)))

  abbrev refused : ℕ → Reply
  refused k = Refused k 0

  pub refused_is : (n ≡ 0 → ⊥) → Refused n 0 ≡ reply_of st w x effect
  unfolding reply_of
  refused_is h = sym (ap (λ (k : ℕ). granted k because refused) (sym number_is) ∙ granted_refused because refused n h)

  module _ (z : n ≡ 0) where
    none : query_number st w x effect ≡ 0
    none = sym number_is ∙ z

    pub numbered_from_one : 1 ≤ effect
    numbered_from_one = from_one st w x effect none

    pub has_a_slot : effect - 1 < 16
    has_a_slot = in_sixteen st w x effect none

    pub because_is : length x.slots ≡ 16 → (q : Reason) → q ≡ reason_across st w x r.state (effect - 1) → Because q ≡ reply_of st w x effect
    unfolding reply_of
    because_is long q e =
        ap Because (e
        ∙ ap (λ (y : State). reason_across st w x y (effect - 1)) (scanned_state st w x r found.scanned (parts st w x effect none).0)
        ∙ reason_after st w x effect none long)
        ∙ sym (granted_none because refused (query_number st w x effect) none)
