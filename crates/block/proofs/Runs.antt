-- A held run that nothing refuses: the one stroke gives what single scans give, and its records fit the space that they are laid in.
use mathlib.Core.Path.{◌≡◌, refl, ap, sym, ◌∙◌, subst}
use mathlib.Core.List.{List}
use Prim.Native.Nat.{ℕ, zero, suc, ◌+◌, ◌*◌, ◌/◌, ◌≤◌}
use native.Mathlib.Nat.{zero-add, not-suc-le-zero}
use native.Mathlib.Omega.{arith}
use lib.ListN.{length}
use lib.Seq.{sets}
use Rattle.bits.specs.Words.{one}
use Rattle.bits.proofs.Lists.{length-tabulate}
use Rattle.rules.specs.declared.Slot.{Slot}
use Rattle.effects.specs.Records.{record_length, bytes, most_row_bytes}
use Rattle.effects.specs.Scan.{effect_word, latent_word, any_exercised}
use Rattle.rounds.specs.Steps.{Run, held}
use Rattle.rounds.proofs.Held.{live_at_most, due_at_most, length-slots as held-slots}
use Rattle.engine.specs.declared.Mark.{Mark}
use Rattle.cells.specs.declared.Plan.{Plan}
use Rattle.cells.specs.Array.{firsts_in}
use Rattle.boards.specs.Table.{Table, Narrow, Settled}
use Rattle.boards.specs.Board.{Board}
use Rattle.engine.specs.Marks.{board_at}
use Rattle.boards.proofs.Slots.{length-slots}
use Rattle.boards.proofs.Turn.{fresh}
use Rattle.wiring.specs.declared.Struck.{Struck}
use Rattle.wiring.specs.Wiring.{Stroked, stroked_at, stroked_by, held_of as stroke_of, Runs as Strokes, Ran as Stroke-ran}
use Rattle.wiring.proofs.Held.{count_of}
use Rattle.settings.specs.declared.Settings.{Settings}
use Rattle.settings.specs.declared.Row.{Row}
use Rattle.settings.specs.Right.{known_of, settings_number}
use Rattle.settings.specs.Signals.{signals, signals_of}
use Rattle.settings.proofs.Right.{row_words, hold_some}
use Rattle.block.specs.declared.State.{State}
use Rattle.block.specs.Answer.{Held}
use Rattle.block.specs.Scan.{input_number}
use Rattle.block.specs.Held.{start, run, granted_held}
use Rattle.block.specs.State.{state_number}
use Rattle.block.specs.Run.{start_of, reached_by, run_of, kept_state, Runs, Ran}
use Rattle.block.proofs.Answers.{settings_right, state_right, row_right, few, countable}
use Rattle.block.proofs.Boards.{shows, settled}
use Rattle.block.proofs.Stepping.{Ready, ready_at, stepped_runs, stepped_done, stepped_effect, stepped_latent, stepped_exercised}

abbrev pub state : ℕ → ℕ → List Slot → State
state d q xs = record { scans_done = d; next = q; slots = xs }

module _ (st : Settings) (row : Row) (x : State) (input : input_number st x row ≡ 0) where
  right : settings_number st ≡ 0
  right = settings_right st row x _ refl input

  ready : Ready st right row.words row.hold x
  ready =
      record {
        words = row_words (known_of st) row (row_right st row x _ refl input);
        state = state_right st row x _ refl input;
        scans = countable st row x _ refl input;
      }

  -- single scans give what the run over lists gives
  pub run_is : run_of (run st row x) ≡ held (signals st row.words) row.hold (start_of x)
  unfolding run
  run_is = stepped_runs st right row.hold row.words (start x) ready

  -- a held run gives at most two records an effect
  pub due_few : length (run st row x).events ≤ 2 * st.count
  due_few =
      let e = ap (λ (r : Run). length r.events) run_is in
      omega (arith, e, due_at_most (signals st row.words) row.hold (start_of x), length-tabulate (signals_of st row.words) st.count)

  -- the scans in which an effect changes state never outnumber twice the effects
  pub live_few : (run st row x).live ≤ 2 * st.count
  live_few =
      let e = ap (λ (r : Run). r.live) run_is in
      omega (arith, e, live_at_most (signals st row.words) row.hold (start_of x), length-tabulate (signals_of st row.words) st.count)

  pub due_bytes : record_length * length (run st row x).events ≤ most_row_bytes
  due_bytes = omega (arith, due_few, few st row x _ refl input)

  -- the scans done grow by the hold
  pub done_is : (run st row x).state.scans_done ≡ x.scans_done + row.hold
  unfolding run
  done_is = stepped_done st right row.hold row.words (start x) ready

  -- the words of the last scan and the exercised scans, where the hold is at least 1
  from_hold : (m : ℕ) → 1 ≤ m → row.hold ≡ m → ((run st row x).effect ≡ effect_word st.count (run st row x).state.slots) × ((run st row x).latent ≡ latent_word (signals st row.words))
  unfolding run
  from_hold zero h e = absurd (not-suc-le-zero h)
  from_hold (suc m) h e =
      let r : Ready st right row.words (suc m) x = record { words = ready.words; state = ready.state; scans = omega (arith, e, ready.scans) } in
      rw e (stepped_effect st right m row.words (start x) r, stepped_latent st right m row.words (start x) r)

  words_are : ((run st row x).effect ≡ effect_word st.count (run st row x).state.slots) × ((run st row x).latent ≡ latent_word (signals st row.words))
  words_are = from_hold row.hold (hold_some (known_of st) row (row_right st row x _ refl input)) refl

  -- the exercised scans are the hold if some effect is exercised, else 0
  pub exercised_is : (run st row x).exercised ≡ row.hold * one (any_exercised (signals st row.words))
  unfolding run
  exercised_is = stepped_exercised st row.hold row.words (start x) ∙ zero-add _

  -- a held run of a valid state gives a valid state
  pub keeps_right : state_number st (run st row x).state ≡ 0
  unfolding run
  keeps_right =
      let r : Ready st right row.words (row.hold + 0) x = record { words = ready.words; state = ready.state; scans = omega (arith, ready.scans) } in
      (ready_at st right row.hold 0 row.words (start x) r).state

  -- a held run keeps the number of slots
  pub slots_stay : length (run st row x).state.slots ≡ length x.slots
  slots_stay = ap (λ (r : Run). length r.slots) run_is ∙ held-slots (signals st row.words) row.hold (start_of x)

-- ## Where the state is kept as words

-- single scans from the state that the words show
module _ {st : Settings} {plan : Plan} {row : Row} {x : Mark} {array : List ℕ} {room : ℕ} (runs : Runs st plan row x array room) where
  abbrev at : State
  at = kept_state st x array

  abbrev sets-right : settings_number st ≡ 0
  sets-right = settings_right st row at _ refl runs.input

  -- there are always sixteen slots
  long : length at.slots ≡ 16
  long = length-slots st.count (few st row at _ refl runs.input) (board_at x array).table

  stroke_is : stroke_of st row x array ≡ run_of (run st row at)
  stroke_is = sym (run_is st row at runs.input)

  -- the stroke of `wiring` can run
  pub strokes : Strokes st plan row x array room
  strokes =
      record {
        settings = sets-right;
        wired = runs.wired;
        row_right = row_right st row at _ refl runs.input;
        countable = countable st row at _ refl runs.input;
        shown = record {
          slots = runs.shown;
          settled = subst (λ (b : Table). Settled st.count b) (sym runs.shown) (settled st at (state_right st row at _ refl runs.input) long sets-right);
        };
        fits = omega (arith, runs.fits, ap (λ (r : Run). length r.events) stroke_is);
      }

  module _ {buf array' buf' : List ℕ} {r : Struck} (ran : Stroke-ran st plan row x array buf r array' buf') where
    abbrev end : State
    end = (run st row at).state

    comes_to : stroked_at r array' ≡ stroked_by st row.words (run_of (run st row at))
    comes_to = ran.stroked ∙ ap (stroked_by st row.words) stroke_is

    pub laid : buf' ≡ sets buf 0 (bytes (run st row at).events)
    laid = ran.laid ∙ ap (λ (q : Run). sets buf 0 (bytes q.events)) stroke_is

    exercised : row.hold * one r.exercised ≡ (run st row at).exercised
    exercised = ap (λ (q : Stroked). row.hold * one q.exercised) comes_to ∙ sym (exercised_is st row at runs.input)

    abbrev words : ((run st row at).effect ≡ effect_word st.count end.slots) × ((run st row at).latent ≡ latent_word (signals st row.words))
    words = words_are st row at runs.input

    effect : r.effect ≡ (run st row at).effect
    effect = ap (λ (q : Stroked). q.effect) comes_to ∙ sym words.0

    latent : r.latent ≡ (run st row at).latent
    latent = ap (λ (q : Stroked). q.latent) comes_to ∙ sym words.1

    pub kept : Ran st plan row x array buf r array' buf'
    kept =
        record {
          board = ap (λ (q : Stroked). fresh q.board) comes_to;
          records = ap (λ (q : Stroked). q.board.at) comes_to;
          live = ap (λ (q : Stroked). q.board.live) comes_to;
          exercised = exercised;
          effect = effect;
          latent = latent;
          laid = laid;
          wired = ran.wired;
        }

    -- ## What the code holds

    long_after : length end.slots ≡ 16
    long_after = slots_stay st row at runs.input ∙ long

    -- first-outs still have 16 bits after the run
    pub narrow_after : Narrow (firsts_in array')
    narrow_after =
        subst (λ (b : Board). Narrow b.table.firsts) (sym (ap (λ (q : Stroked). q.board) comes_to))
        (settled st end (keeps_right st row at runs.input) long_after sets-right).narrow

    pub answers : (s : State) (v : ℕ) → s ≡ reached_by plan.count (board_at r.mark array') → v ≡ row.hold * one r.exercised
        → ◌≡◌ {A = Held} (record { number = 0; place = 0; state = s; effect = r.effect; latent = r.latent; records = r.mark.at / record_length; live = r.mark.live; exercised = v }) (granted_held st row at)
    answers s v es ev =
        let gs = es ∙ ap (λ (n : ℕ). reached_by n (board_at r.mark array')) (count_of st plan runs.wired.plan-is) ∙ ap (λ (q : Stroked). reached_by st.count q.board) comes_to
        ∙ ap (state end.scans_done end.next) (shows st end (keeps_right st row at runs.input) long_after sets-right) in
        let gn : r.mark.at / record_length ≡ length (run st row at).events = omega (arith, ap (λ (q : Stroked). q.board.at) comes_to) in
        let gi = ap (λ (q : Stroked). q.board.live) comes_to in
        let gv = ev ∙ exercised in
        λ i. record { number = 0; place = 0; state = gs i; effect = effect i; latent = latent i; records = gn i; live = gi i; exercised = gv i }
