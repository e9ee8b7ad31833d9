-- The demands hold: each field of their records follows from the law that says it.
use mathlib.Core.Path.{◌≡◌, refl, sym, ap, ◌∙◌}
use mathlib.Core.Bool.{Bool, true, false}
use mathlib.Core.List.{List}
use mathlib.Core.Logic.{⊎_elim}
use Prim.Native.Nat.{ℕ, ◌+◌, ◌*◌, ◌≤◌, ◌<◌}
use native.Mathlib.Nat.{mul-one, mul-zero}
use native.Mathlib.Numerals.{add-one}
use native.Mathlib.Omega.{arith}
use borrow.Author.Tests.{le-leb}
use denote.Ref.{Bor}
use lib.ListN.{length}
use lib.Seq.{sets}
use Rattle.bits.specs.Words.{one}
use Rattle.bits.proofs.Words.{bit_word_of, word_of_lt}
use Rattle.rules.specs.declared.Slot.{Slot}
use Rattle.rules.specs.Rules.{next, is_on}
use Rattle.effects.specs.Records.{bytes}
use Rattle.effects.specs.Scan.{any_exercised}
use Rattle.settings.specs.declared.Row.{Row}
use Rattle.settings.specs.declared.Settings.{Settings}
use Rattle.settings.specs.declared.Words.{Words}
use Rattle.settings.specs.Right.{known_of, row_number}
use Rattle.settings.specs.Signals.{signals, signals_of}
use Rattle.settings.proofs.Right.{count_few}
use Rattle.settings.specs.Refusals.{granted}
use Rattle.settings.proofs.Refusals.{granted_refused}
use Rattle.block.specs.declared.State.{State}
use Rattle.block.specs.Answer.{Scanned}
use Rattle.block.specs.Answer.{Held}
use Rattle.block.specs.State.{state_ok, state_number}
use Rattle.block.specs.Scan.{at_front, after, events, granted_scan, refused_scan, scan_of, scan_into}
use Rattle.block.specs.Held.{words_at, start, single, stepped, run, granted_held, refused_held, held_of, held_into}
use Rattle.block.proofs.Theorems as block
use Rattle.block.proofs.Stepping.{Ready, ready_at}
use Rattle.recording.specs.Answer.{Reading}
use Rattle.recording.specs.Reader.{reading}
use Rattle.recording.specs.Answers.{number, row_count_of, ended}
use Rattle.recording.specs.Steps.{step_at, row_place, rows_of}
use Rattle.layout.specs.Entries.{put_row}
use Rattle.recording.specs.Encode.{opening}
use Rattle.exactness.proofs.Theorems as recording
use Rattle.writing.specs.Writer.{opening_number, row_piece_number}
use Rattle.writing.proofs.Theorems.{written-number, written_piece}
use Rattle.walk.specs.Walks.{start_of, next_of, moved_on, walked}
use Rattle.walk.proofs.Theorems as walk
use Rattle.rerun.specs.declared.Replayed.{Replayed}
use Rattle.rerun.specs.Replay.{Outcome, counts, refusal as no_counts, replay}
use Rattle.rerun.proofs.Theorems as rerun
use Rattle.numbers.specs.Numbers.{numbers, fitted, crossing}
use Rattle.pohandira.specs.Crossing.{checked, replay_number, totals_or_refusal}
use Rattle.numbers.proofs.Stores.{length-numbers, fits, stays}
use Rattle.pohandira.proofs.Theorems as pohandira
use Rattle.demands.specs.Order.{InOrder, held_cases, scan_cases}
use Rattle.demands.specs.Library.{CheckInOrder, ReplayInOrder, CountAsReplayed}
use Rattle.demands.specs.Demands.{Demand1, RightInput, slot, ByTheRules, Demand2, Equals, OneScanMore, Demand3, SeasonTotals, ReasonsOfStates}
use Rattle.demands.proofs.Order as order
use Rattle.demands.proofs.Order.{granted_in_order, piece_in_order}
use Rattle.demands.proofs.Back.{same_bytes}
use Rattle.demands.proofs.Scans.{scan_granted, row_accepted, slot-after, slot_past, latent_bit, latent_inside, one_more, exercised_yes, exercised_no, scan_more}
use Rattle.demands.proofs.Unique.{answers}
use Rattle.reasons.proofs.Exactly.{reason_fits}
use Rattle.reasoned.proofs.Theorems.{the_replay's_events}
use Rattle.demands.proofs.Season as season
use Rattle.demands.proofs.Reasons as reasons
use Rattle.season.proofs.Theorems.{six_totals_are_the_holds}
use Rattle.worked.proofs.Reported.{the_session_is_added}

-- ## Demand 1

scan_in_order : (st : Settings) (w : Words) (x : State) (out : List ℕ) → let a = scan_of st w x (length out) in
    InOrder (scan_cases st w x (length out)) a.number ((a ≡ refused_scan x a.number) × (scan_into st w x out ≡ out))
unfolding scan_of scan_into
scan_in_order st w x out =
    granted_in_order (λ (a : Scanned). a.number) (granted_scan st w x) (refused_scan x) (at_front (events st w x) out) out refl (λ k. refl) _ _ (order.scan_in_order st w x (length out))

held_in_order : (st : Settings) (row : Row) (x : State) (out : List ℕ) → let a = held_of st row x (length out) in
    InOrder (held_cases st row x (length out)) a.number ((a ≡ refused_held x a.number) × (held_into st row x out ≡ out))
unfolding held_of held_into
held_in_order st row x out =
    granted_in_order (λ (a : Held). a.number) (granted_held st row x) (refused_held x) (at_front (run st row x).events out) out refl (λ k. refl) _ _ (order.held_in_order st row x (length out))

check_in_order : (s answer : List ℕ) → CheckInOrder s answer
check_in_order s answer =
    let a = (reading s).answer in
    let n = length-numbers (checked a) in
    record {
      the_readers = λ h. let e = recording.refused_as_said s h in (pohandira.check_ten_is_last s (length answer) h, e.1, ap (λ (r : Reading). row_count_of r.answer) e.0);
      ten = pohandira.check_without_room s (length answer);
      right = λ z h. pohandira.check_with_room s (length answer) h ∙ z;
      in_room = λ h. sym (fits (numbers (checked a)) answer (omega (arith, n, h)));
      left = λ h. sym (stays (numbers (checked a)) answer (omega (arith, n, h)));
    }

replay_in_order : (s records totals : List ℕ) → ReplayInOrder s records totals (replay_number s (length records) (length totals))
replay_in_order s records totals =
    let n = replay_number s (length records) (length totals) in
    let first = pohandira.ten_is_last s (length records) (length totals) in
    let refused = no_counts (replay s).place in
    let given = totals_or_refusal s (length records) (length totals) in
    record {
      the_readers = λ h.
          let e = rerun.a_refused_file_is_not_run s h in
          let is : (replay s).number ≡ number (reading s).answer = ap (λ (o : Outcome). o.number) e in
          (first (λ z. h (sym is ∙ z)) ∙ is, ap (λ (o : Outcome). o.place) e, (recording.refused_as_said s h).1);
      nine = λ a k. ⊎_elim (λ w. absurd (k w.0)) (λ w. (first k ∙ w.0, w.1, w.2, w.3)) (rerun.whole_or_stopped s a);
      ten = λ z h.
          (⊎_elim (pohandira.ten_for_the_records s (length records) (length totals) z) (pohandira.ten_for_the_totals s (length records) (length totals) z) h, pohandira.no_place_for_ten s z);
      whole = pohandira.nothing_refused s (length records) (length totals);
      no_record = pohandira.refused_untouched s records (length totals);
      in_room = λ k h.
          ap (λ (r : Replayed). fitted (numbers (crossing r)) totals) (granted_refused (counts (replay s).replay) refused n k)
          ∙ sym (fits (numbers (crossing (refused n))) totals (omega (arith, length-numbers (crossing (refused n)), h)));
      left = λ h. sym (stays (numbers (crossing given)) totals (omega (arith, length-numbers (crossing given), h)));
      all_records = λ z. ap (λ (m : ℕ). granted m (sets records 0 (bytes (replay s).replay.events)) (λ k. records)) z;
      all_totals = λ z room.
          ap (λ (m : ℕ). fitted (numbers (crossing (granted m (counts (replay s).replay) refused))) totals) z
          ∙ sym (fits (numbers (crossing (counts (replay s).replay))) totals (omega (arith, length-numbers (crossing (counts (replay s).replay)), room)));
    }

count_as_replayed : (s records totals : List ℕ) → CountAsReplayed s records totals
count_as_replayed s records totals =
    let n = length totals in
    record {
      number = λ h. sym (pohandira.a_replay_answers_as_counted s (length records) n h);
      totals_are = λ h. sym (pohandira.a_replay_totals_as_counted s totals (length records) h);
      enough = λ z h. pohandira.counted_room_suffices s n (length records) n z h (pohandira.counted_totals_fit s n z);
      too_few = pohandira.less_than_counted_does_not s n (length records) n;
    }

pub demand_1 : Demand1
demand_1 =
    record {
      answers = answers;
      scan_refuses_in_order = scan_in_order;
      held_refuses_in_order = held_in_order;
      reader_refuses_in_order = λ s. (recording.refused_as_said s, recording.said_is_refused s);
      opening_refused_in_order = λ st rows out. piece_in_order (opening_number st rows) (opening st rows) out _ (order.opening_in_order st rows (length out));
      row_refused_in_order = λ st row out. piece_in_order (row_piece_number st row) (put_row row) out _ (order.row_piece_in_order st row (length out));
      settings_checked_in_order = λ st. (order.settings_in_order st).first;
      words_checked_in_order = λ k w. (order.words_in_order k w).first;
      row_checked_in_order = λ k row. (order.row_in_order k row).first;
      walk_has_ended = λ w h.
          let e : ended (next_of w) ≡ true = ⊎_elim (walk.walk_on_refused_has_ended w) (walk.walk_elsewhere_has_ended w) h in
          (e, walk.ended_stays w e);
      start_has_ended = λ s h. let e = walk.start_on_refused s h in (e.0, e.1, walk.walk_on_refused_has_ended (start_of s).walk h);
      row_step_has_ended = recording.ended_elsewhere;
      full_buffer_is_left = λ out at text h. rw h (refl, refl);
      replay_refuses_in_order = λ s. (
        rerun.a_refused_file_is_not_run s,
        rerun.whole_or_stopped s,
        granted_refused (counts (replay s).replay) (no_counts (replay s).place) (replay s).number,
      );
      check_refuses_in_order = check_in_order;
      crossing_refuses_in_order = replay_in_order;
      count_refuses_as_the_replay = count_as_replayed;
    }

-- ## Demand 2

-- a valid state is not refused
state_right : (st : Settings) (x : State) → state_ok st x ≡ true → state_number st x ≡ 0
unfolding state_number
state_right st x h = rw h

-- after as many steps as the recording has rows, a walk has ended
ends : (s : Bor (List ℕ)) → let n = row_count_of (reading s.now).answer in let w = walked n (start_of s).walk in
    (ended (step_at s.now (row_place s.now n)) ≡ true) × (ended (next_of w) ≡ true) × (moved_on w ≡ w)
ends s =
    let n = row_count_of (reading s.now).answer in
    let w = walked n (start_of s).walk in
    let e : ended (next_of w) ≡ true = (walk.walk_gives_the_rows s n).1 ∙ le-leb n n (omega arith) in
    (ap ended (walk.nth_of_the_walk s n) ∙ e, e, walk.ended_stays w e)

by_the_rules : (st : Settings) (w : Words) (x : State) (out : List ℕ) → RightInput st x w 1 → 12 * length (events st w x) ≤ length out → length x.slots ≡ 16
    → ByTheRules st w x out (scan_of st w x (length out)) (scan_into st w x out)
by_the_rules st w x out right fits sixteen =
    let answer = scan_granted st w x out right.settings (state_right st x right.state) right.words right.ends fits in
    let few = count_few st right.settings in
    let kept : (i : ℕ) → i < st.count → slot (after st w x) i ≡ next (signals_of st w i) (slot x i) = λ i h. slot-after st w x i h (omega (arith, sixteen, few, h)) in
    rw (answer.0, answer.1)
    (record {
      accepted = (refl, refl);
      state-of = λ i h. ap (λ (y : Slot). y.state) (kept i h);
      timer_of = λ i h. rw (kept i h);
      first_out_of = λ i h. rw (kept i h);
      slots_past = slot_past st w x;
      effect-word = λ i h. bit_word_of (λ j. is_on (slot (after st w x) j).state) st.count i h;
      latent-word = latent_bit st w;
      no_other_bit = (word_of_lt (λ j. is_on (slot (after st w x) j).state) st.count, latent_inside st w);
      records = (refl, refl);
      scans-done = unfold after in refl;
      sequence = unfold after in refl;
    })

pub demand_2 : Demand2
demand_2 =
    record {
      slices_hold_bytes = λ κ s e. (tt, λ h. h);
      accepts_exactly = λ s b. (
        λ h. let e = recording.accepted_is_encoding s b h in ((reading s).settings, rows_of s, e.0, e.1),
        λ r. rw r.3 at (recording.encoding_is_accepted r.0 r.1 r.2).0,
      );
      reads_what_is_there = recording.encoding_is_accepted;
      gives_its_rows = recording.row_at_its_place;
      walk_gives_its_rows = walk.walk_gives_all_rows;
      ends_after_the_last = ends;
      opening_is_written = λ st rows out h.
          written_piece (opening_number st rows) (opening st rows) out (written-number (opening_number st rows) (opening st rows) (length out) ∙ (order.opening_in_order st rows (length out)).first ∙ h);
      row_is_written = λ st row out h.
          written_piece (row_piece_number st row) (put_row row) out (written-number (row_piece_number st row) (put_row row) (length out) ∙ (order.row_piece_in_order st row (length out)).first ∙ h);
      same_bytes_again = same_bytes;
      one_scan = by_the_rules;
    }

-- ## Demand 3

module _ (st : Settings) (x : State) (w : Words) (hold : ℕ) (right : RightInput st x w hold) where
  abbrev row : Row
  row = record { hold = hold; words = w }

  row_right : row_number (known_of st) row ≡ 0
  row_right = row_accepted (known_of st) w hold right.words right.some right.most

  stroke : (out : List ℕ) → 12 * length (stepped st w hold (start x)).events ≤ length out → Equals (held_of st row x (length out)) out (held_into st row x out) (stepped st w hold (start x))
  unfolding run
  stroke out fits =
      let e = block.one_stroke_is_single_scans st row x right.settings (state_right st x right.state) row_right right.ends out fits in
      rw (e.0, e.1) (record { accepted = (refl, refl); state = refl; words = (refl, refl); records = (refl, refl); counts = (refl, refl) })

  scan_by_scan : (k : ℕ) → k < hold → let y = stepped st w k (start x) in OneScanMore st (words_at k w) y (single st (words_at k w) y.state) (stepped st w (k + 1) (start x))
  scan_by_scan k h =
      let y = stepped st w k (start x) in
      let ready : Ready st right.settings w (k + 1) x = record { words = right.words; state = state_right st x right.state; scans = omega (arith, right.ends) } in
      let here = ready_at st right.settings k 1 w (start x) ready in
      rw (add-one, one_more st k w (start x)) (scan_more st (words_at k w) y right.settings here.state here.words here.scans)

  exercised_by : (b : Bool) → any_exercised (signals st w) ≡ b → (stepped st w hold (start x)).exercised ≡ hold * one b
  unfolding run
  exercised_by b e = block.exercised_is_the_hold_or_nothing st row x right.settings (state_right st x right.state) row_right right.ends ∙ ap (λ (b : Bool). hold * one b) e

  few : (stepped st w hold (start x)).live ≤ 2 * st.count
  unfolding run
  few = block.live_at_most_twice_the_effects st row x right.settings (state_right st x right.state) row_right right.ends

pub demand_3 : Demand3
demand_3 st x w hold right =
    record {
      equals = stroke st x w hold right;
      at_first = refl;
      singly = scan_by_scan st x w hold right;
      exercised = λ i h some. exercised_by st x w hold right true (exercised_yes st w i h some) ∙ mul-one hold;
      not_exercised = λ none. exercised_by st x w hold right false (exercised_no st w none) ∙ mul-zero hold;
      few_live = few st x w hold right;
    }

-- ## Requests that came later

pub season_totals : SeasonTotals
season_totals =
    record {
      counts_single_scans = season.counts_single_scans;
      adds_in_order = season.adds_in_order;
      six_add_up = six_totals_are_the_holds;
      the_session = the_session_is_added;
      crosses_in_order = season.season_in_order;
    }

pub reasons_of_states : ReasonsOfStates
reasons_of_states =
    record {
      exactly_one_fits = reasons.exactly-one;
      same_reason_leads_alike = reasons.leads_alike;
      query_refuses_in_order = reasons.refuses_in_order;
      query_answers_what_fits = reasons.answers_what_fits;
      what_is_found_fits = reason_fits;
      events_are_the_replay's = the_replay's_events;
    }
