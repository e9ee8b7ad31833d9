-- What the user demanded, in the user's words and order: one record of propositions for each demand, and one for each request that came
-- later. They are about the definitions that the contracts of the entry points cite; that the contracts say so is `Answers`. `demand_1`,
-- `demand_2`, `demand_3`, `season_totals` and `reasons_of_states` (proofs/Demands) prove them, so a reader who believes the definitions need read no proof:
-- docs/PROMISES.md lists them, "What has to be believed".
mod Names
use Rattle.std.specs.Borrow.{Bor}
use Names.*

-- ## Demand 1
-- Any bytes, settings, state or row get an answer and nothing undefined happens. Bad input is refused by a fixed number from document
-- 01's list, in document 01's order; a refusal gives back the state it was given and touches no lent byte.

pub record Demand1 : Type 3 where
  -- any bytes, settings, state or row get an answer. That nothing undefined happens, and that every call ends, is part of every proof of a function
  pub answers : Answers
  -- one scan (`State::scan`), of any settings, words, state and lent bytes
  pub scan_refuses_in_order : (st : Settings) (w : Words) (x : State) (out : List ℕ) → let a = scan_of st w x (length out) in
      InOrder (scan_cases st w x (length out)) a.number
      ((a ≡ record { number = a.number; place = 0; state = x; effect = 0; latent = 0; records = 0 }) × (scan_into st w x out ≡ out))
  -- a held run (`State::held`), of any settings, row, state and lent bytes
  pub held_refuses_in_order : (st : Settings) (row : Row) (x : State) (out : List ℕ) → let a = held_of st row x (length out) in
      InOrder (held_cases st row x (length out)) a.number
      ((a ≡ record { number = a.number; place = 0; state = x; effect = 0; latent = 0; records = 0; live = 0; exercised = 0 }) × (held_into st row x out ≡ out))
  -- the reader (`read`), of any bytes: a refusal has the refusal number and the place that `Refused` says of the bytes, and zeros; and
  -- each case of `Refused` is refused so
  pub reader_refuses_in_order : (s : List ℕ) → let n = number (reading s).answer in let p = place (reading s).answer in
      ((n ≡ 0 → ⊥) → (reading s ≡ refusal n p) × Refused s n p) × ((m q : ℕ) → Refused s m q → (n ≡ m) × (p ≡ q))
  -- the writer (`write_opening`, `write_row`): a refusal has place 0, and touches no byte
  pub opening_refused_in_order : (st : Settings) (rows : ℕ) (out : List ℕ) → let a = opening_written st rows (length out) in
      InOrder (opening_cases st rows (length out)) (written_number a) ((written_place a ≡ 0) × (written_length a ≡ 0) × (opening_after st rows out ≡ out))
  pub row_refused_in_order : (st : Settings) (row : Row) (out : List ℕ) → let a = row_written st row (length out) in
      InOrder (row_piece_cases st row (length out)) (written_number a) ((written_place a ≡ 0) × (written_length a ≡ 0) × (row_after st row out ≡ out))
  -- the functions that only check (`settings_number`, `words_number`, `row_number`), of any settings and anything known of them
  pub settings_checked_in_order : (st : Settings) → settings_number st ≡ first_of (settings_cases st)
  pub words_checked_in_order : (k : Known) (w : Words) → words_number k w ≡ first_of (words_cases k w)
  pub row_checked_in_order : (k : Known) (row : Row) → row_number k row ≡ first_of (row_cases k row)
  -- a walk, however it was made (`Walk::next`): where the reader refuses its bytes, or its place is no row's first byte, it has ended
  -- and stays as it is
  pub walk_has_ended : (w : Walk) → let s = w.bytes.now in
      (Accepted s → ⊥) ⊎ ((i : ℕ) → i < row_count_of (reading s).answer → w.place ≡ row_place s i → ⊥) → (ended (next_of w) ≡ true) × (moved_on w ≡ w)
  -- a walk that is started on refused bytes (`start`): the reader's refusal, and a walk that has ended
  pub start_has_ended : (s : Bor (List ℕ)) → (Accepted s.now → ⊥) → let a = (reading s.now).answer in
      ((start_of s).answer ≡ a) × Refused s.now (number a) (place a) × (ended (next_of (start_of s).walk) ≡ true)
  -- the row at a place (`row_step`), of any bytes and any place: where no row begins, it has ended
  pub row_step_has_ended : (s : List ℕ) (at : ℕ) → ((i : ℕ) → i < row_count_of (reading s).answer → at ≡ row_place s i → ⊥) → ended (step_at s at) ≡ true
  -- a piece of a listing (`opening`, `closing`) in a buffer without room for any piece: the buffer is full, and no byte is touched
  pub full_buffer_is_left : (out : List ℕ) (at : ℕ) (text : List ℕ) → has_room (length out) at ≡ false
      → (written (length out) at text ≡ record { full = true; at = at }) × (placed out at text ≡ out)
  -- a whole file (`replay`): a refused one gives the reader's refusal number and place, and nothing has run; an accepted one is replayed
  -- whole, or stops by refusal number 9 at the first byte of the row whose scans cannot be counted. Either refusal is answered with zeros:
  -- what the rows before refusal number 9 have given stands in the listing alone
  pub replay_refuses_in_order : (s : List ℕ) → let o = replay s in let r = (replay s).replay in let a = (reading s).answer in
      ((Accepted s → ⊥) → o ≡ refused_at (place a) started (number a))
      × (Accepted s
      → ((o.number ≡ 0) × (o.place ≡ 0) × (r.rows ≡ row_count_of a))
      ⊎ ((o.number ≡ 9) × (o.place ≡ row_place s r.rows) × (r.rows < row_count_of a) × (1000000000 < r.state.scans_done + (row_of s r.rows).hold)))
      × ((o.number ≡ 0 → ⊥) → answered o ≡ record { number = o.number; place = o.place; records = 0; rows = 0; scans = 0; live = 0; exercised = 0 })
  -- the static library (`pohandira_check`, `pohandira_replay`, `pohandira_count`)
  pub check_refuses_in_order : (s answer : List ℕ) → CheckInOrder s answer
  pub crossing_refuses_in_order : (s records totals : List ℕ) → ReplayInOrder s records totals (replay_number s (length records) (length totals))
  pub count_refuses_as_the_replay : (s records totals : List ℕ) → CountAsReplayed s records totals

-- ## Demand 2
-- The reader accepts exactly document 01's recordings, and writing what was read gives the same bytes. One scan gives exactly the
-- states, timers, first-outs, output words and event records of document 01's rules.

-- accepted settings, state and row, and a hold of 1 to 1,000,000 scans ending at or before scan 1,000,000,000
pub record RightInput (st : Settings) (x : State) (w : Words) (hold : ℕ) : Type 0 where
  pub settings : settings_number st ≡ 0
  pub state : state_ok st x ≡ true
  pub words : words_number (known_of st) w ≡ 0
  pub some : 1 ≤ hold
  pub most : hold ≤ 1000000
  pub ends : x.scans_done + hold ≤ 1000000000

-- what a state keeps of an effect, counted from 0
abbrev pub slot : State → ℕ → Slot
slot x i = get_or x.slots i no_slot

-- what one scan of the state x gives by the rules: a is its answer, and `after` the lent bytes `out` after it
pub record ByTheRules (st : Settings) (w : Words) (x : State) (out : List ℕ) (a : Scanned) (after : List ℕ) : Type 0 where
  pub accepted : (a.number ≡ 0) × (a.place ≡ 0)
  -- the states, timers and first-outs: each effect by its own signals and its own slot; the slots past the effects stay
  pub state-of : (i : ℕ) → i < st.count → (slot a.state i).state ≡ rules.after (signals_of st w i) (slot x i)
  pub timer_of : (i : ℕ) → i < st.count → (slot a.state i).timer ≡ rules.timer_at (signals_of st w i) (slot x i) (slot a.state i).state
  pub first_out_of : (i : ℕ) → i < st.count → (slot a.state i).first_out ≡ rules.first_at (signals_of st w i) (slot x i) (slot a.state i).state
  pub slots_past : (i : ℕ) → st.count ≤ i → slot a.state i ≡ slot x i
  -- the output words: a bit for each effect, and no other
  pub effect-word : (i : ℕ) → i < st.count → bit_of a.effect i ≡ is_on (slot a.state i).state
  pub latent-word : (i : ℕ) → i < st.count → bit_of a.latent i ≡ is_latent (signals_of st w i)
  pub no_other_bit : (a.effect < 2 ^ st.count) × (a.latent < 2 ^ st.count)
  -- the event records, and the bytes past the last record as they were
  pub records : (a.records ≡ length (events st w x)) × (after ≡ bytes (events st w x) ++ drop (12 * length (events st w x)) out)
  -- the scans done, and the sequence number: one higher for each record, and after 65,535 comes 0
  pub scans-done : a.state.scans_done ≡ x.scans_done + 1
  pub sequence : a.state.next ≡ seq_after x.next (signals st w) x.slots

pub record Demand2 : Type 0 where
  -- `Bytes` holds of every slice of bytes, each number below 256: a function that is lent a slice, and does nothing, learns it
  pub slices_hold_bytes : (κ : Lfts 1) (s : Bor (List ℕ)) (e : _) → each-is-a-byte.Asked κ (s, tt) × (each-is-a-byte.Learnt κ (s, tt) tt e → Bytes s.now)
  -- bytes are accepted if and only if they are a recording
  pub accepts_exactly : (s : List ℕ) → Bytes s → Accepted s ↔ Recording s
  -- the answer to a recording is the settings and the rows of which it is made
  pub reads_what_is_there : (st : Settings) (rows : List Row) → Right st rows → AnswersOf (encode st rows) st rows
  -- row by row: the step at a row's place gives the row and the next place (`row_step`), and so do the steps of a walk (`start`, `next`)
  pub gives_its_rows : (s : List ℕ) (i : ℕ) → i < row_count_of (reading s).answer → let x = step_at s (row_place s i) in
      (ended x ≡ false) × (step_row x ≡ row_of s i) × (next_place x ≡ row_place s (suc i))
  pub walk_gives_its_rows : (s : Bor (List ℕ)) → given (row_count_of (reading s.now).answer) (start_of s).walk ≡ rows_of s.now
  -- after the last row a walk has ended, and stays so
  pub ends_after_the_last : (s : Bor (List ℕ)) → let n = row_count_of (reading s.now).answer in let w = walked n (start_of s).walk in
      (ended (step_at s.now (row_place s.now n)) ≡ true) × (ended (next_of w) ≡ true) × (moved_on w ≡ w)
  -- the writer gives the opening piece and each row: a piece that is not refused stands at the front of the lent bytes; those past it stay
  pub opening_is_written : (st : Settings) (rows : ℕ) (out : List ℕ) → first_of (opening_cases st rows (length out)) ≡ 0
      → (written_length (opening_written st rows (length out)) ≡ length (opening st rows)) × (opening_after st rows out ≡ opening st rows ++ drop (length (opening st rows)) out)
  pub row_is_written : (st : Settings) (row : Row) (out : List ℕ) → first_of (row_piece_cases st row (length out)) ≡ 0
      → (written_length (row_written st row (length out)) ≡ length (put_row row)) × (row_after st row out ≡ put_row row ++ drop (length (put_row row)) out)
  -- writing what was read gives the same bytes, whatever the lent buffers held
  pub same_bytes_again : (lent : ℕ → List ℕ) → ((n : ℕ) → length (lent n) ≡ n) → (s : List ℕ) → Bytes s → Accepted s → written_back lent s ≡ s
  -- one scan of every accepted setting, state and row, with room for its records (a state has sixteen slots, as the array has)
  pub one_scan : (st : Settings) (w : Words) (x : State) (out : List ℕ) → RightInput st x w 1 → 12 * length (events st w x) ≤ length out → length x.slots ≡ 16
      → ByTheRules st w x out (scan_of st w x (length out)) (scan_into st w x out)

-- ## Demand 3
-- For every accepted setting, state and row, and every hold of 1 to 1,000,000 scans ending at or before scan 1,000,000,000 with room for
-- its records, the one_stroke answer equals stepping those scans singly by the rules of demand 2, the reset word as given in the first
-- and zero after: state, words, records in order, and counts. The scans in which an effect changes state never outnumber twice the effects.

-- the one_stroke answer a, which leaves the lent bytes `out` as `after`, equals what stepping singly gives, r
pub record Equals (a : Held) (out after : List ℕ) (r : Stepped) : Type 0 where
  pub accepted : (a.number ≡ 0) × (a.place ≡ 0)
  pub state : a.state ≡ r.state
  pub words : (a.effect ≡ r.effect) × (a.latent ≡ r.latent)
  pub records : (a.records ≡ length r.events) × (after ≡ bytes r.events ++ drop (12 * length r.events) out)
  pub counts : (a.live ≡ r.live) × (a.exercised ≡ r.exercised)

-- stepping singly goes from y to z by one scan, of words w, whose answer is a
pub record OneScanMore (st : Settings) (w : Words) (y : Stepped) (a : Scanned) (z : Stepped) : Type 0 where
  -- the scan is of the state that the scans before it left, and nothing refuses it: its state and words
  pub accepted : a.number ≡ 0
  pub state : z.state ≡ a.state
  pub words : (z.effect ≡ a.effect) × (z.latent ≡ a.latent)
  -- the records are those that the scan leaves in a buffer just as long as they are, behind the records before
  pub records : (out : List ℕ) → length out ≡ 12 * a.records → bytes z.events ≡ bytes y.events ++ scan_into st w y.state out
  -- the scan is live exactly if some effect's state in its answer differs from before
  pub live : (i : ℕ) → i < st.count → ((slot a.state i).state ≡ (slot y.state i).state → ⊥) → z.live ≡ y.live + 1
  pub not_live : ((i : ℕ) → i < st.count → (slot a.state i).state ≡ (slot y.state i).state) → z.live ≡ y.live

-- the demand, for a hold of the words w from the state x
pub record OneStroke (st : Settings) (x : State) (w : Words) (hold : ℕ) : Type 0 where
  -- with room for its records, the one_stroke answer equals stepping those scans singly
  pub equals : let r = stepped st w hold (start x) in let row : Row = record { hold = hold; words = w } in
      (out : List ℕ) → 12 * length r.events ≤ length out → Equals (held_of st row x (length out)) out (held_into st row x out) r
  -- singly means by the rules of demand 2, the reset word as given in the first scan and zero after (`words_at`): from x, then scan k + 1
  pub at_first : stepped st w 0 (start x) ≡ start x
  pub singly : (k : ℕ) → k < hold → let y = stepped st w k (start x) in
      OneScanMore st (words_at k w) y (single st (words_at k w) y.state) (stepped st w (k + 1) (start x))
  -- the exercised scans are the hold if any effect counts for them, otherwise 0
  pub exercised : (i : ℕ) → i < st.count → is_exercised (signals_of st w i) ≡ true → (stepped st w hold (start x)).exercised ≡ hold
  pub not_exercised : ((i : ℕ) → i < st.count → is_exercised (signals_of st w i) ≡ false) → (stepped st w hold (start x)).exercised ≡ 0
  -- the scans in which an effect changes state never outnumber twice the effects
  pub few_live : (stepped st w hold (start x)).live ≤ 2 * st.count

-- for every accepted setting, state and row, and every hold that the demand names
abbrev pub Demand3 : Type 0
Demand3 = (st : Settings) (x : State) (w : Words) (hold : ℕ) → RightInput st x w hold → OneStroke st x w hold

-- ## Requests that came later

-- Document 02, L1. A report in 64-bit sums over recordings, each from a fresh state: per effect, the scans after which it stood in each
-- state and the changes into Tripped; for all, the exercised scans. In a report grown from an empty one, an effect's six state totals add up
-- to the holds of the recordings that have it. Totals are those of single steps. Refusals: 11, a total would pass 64 bits, after 9; on any
-- refusal the report comes back unchanged.
pub record SeasonTotals : Type 0 where
  -- totals are those of single steps
  pub counts_single_scans : (s : List ℕ) → CountsSingleScans s
  -- any report is accepted to start from (it has 113 sums, as the array has), and any bytes; the refusals stand in order
  pub adds_in_order : (r : Report) (s : List ℕ) → length r.sums ≡ 113 → AddsInOrder r s (added_to r s)
  -- in a report grown from an empty one by any recordings, the six state totals of an effect (from 0) are the holds of those that have it
  pub six_add_up : (i : ℕ) → i < 16 → (ss : List (List ℕ)) → six_of (over_all empty ss) i ≡ holds_of empty i ss
  -- document 01's session, added to an empty report
  pub the_session : added_to empty session ≡ record { number = 0; place = 0; effects = 2; report = session_report }
  -- the same of a report in lent bytes (`pohandira_season`)
  pub crosses_in_order : (s bytes : List ℕ) → SeasonInOrder s bytes (into_number s bytes) (season_into s bytes)

-- Document 02, L4. The reason for an effect's state after a scan. Exactly one fits; under equal settings, rows that give the same reason from
-- the same state lead to the same state and timer. Refusals: a scan's except 10, then 3 for an absent effect. Effects count from 0 here, but
-- for the effect number of a query.
pub record ReasonsOfStates : Type 0 where
  -- which reason fits is `fits`, in document 02's words; it does not say how a reason is found
  pub exactly_one_fits : (st : Settings) (w : Words) (x : State) (i : ℕ) → ExactlyOneFits st w x i
  pub same_reason_leads_alike : (st : Settings) (v w : Words) (x : State) (i : ℕ) (r : Reason) → SameReasonLeadsAlike st v w x i r
  -- a query (`queries::why`), of any settings, words, state and effect number: a refusal has place 0, and the reason that it answers fits
  pub query_refuses_in_order : (st : Settings) (w : Words) (x : State) (e : ℕ) → let a = reply_of st w x e in
      InOrder (query_cases st w x e) (reply_number a) (reply_place a ≡ 0)
  pub query_answers_what_fits : (st : Settings) (w : Words) (x : State) (e : ℕ) (r : Reason) → reply_of st w x e ≡ Because r → FitsAt st w x (e - 1) r
  -- the reason that is found (`reason_of`), of which those of a recording are made (`reasoned`, `reasons_now`), fits, of any signals and slot
  pub what_is_found_fits : (s : Signals) (x : Slot) → fits s x (reason_of s x) ≡ true
  -- the events with reasons are those of the replay, in their order
  pub events_are_the_replay's : (s : List ℕ) → Accepted s → map (λ (t : Reasoned). t.event) (reasoned s) ≡ (replay s).replay.events
