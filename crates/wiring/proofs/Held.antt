-- The stroke by the words of settings and a row is the held run of what the effects see.
use mathlib.Core.Path.{◌≡◌, ap, ◌∙◌}
use mathlib.Core.Bool.{Bool, not}
use mathlib.Core.List.{List}
use Prim.Native.Nat.{ℕ, ◌≤◌}
use native.Mathlib.Omega.{arith}
use lib.Bits.{bit_and, bit_or}
use lib.Dec.{eqb}
use lib.Seq.{sets}
use Rattle.rules.specs.declared.Seen.{Seen}
use Rattle.rules.specs.Signals.{Signals}
use Rattle.rules.specs.Rules.{asks}
use Rattle.effects.specs.Records.{bytes}
use Rattle.effects.specs.Scan.{latent_word}
use Rattle.rounds.specs.Steps.{Run}
use Rattle.planes.specs.declared.Asked.{Asked}
use Rattle.engine.specs.declared.Mark.{Mark}
use Rattle.cells.specs.declared.Plan.{Plan}
use Rattle.engine.specs.declared.Task.{Task}
use Rattle.cells.specs.Array.{associations_in, delays_in}
use Rattle.planes.specs.Planes.{asked_of}
use Rattle.boards.specs.Board.{Board, board_of, signals_by}
use Rattle.engine.specs.Marks.{board_at}
use Rattle.engine.specs.Stroke.{seen_by, held_by, StrokeReady, StrokeDone}
use Rattle.settings.specs.declared.Row.{Row}
use Rattle.settings.specs.declared.Settings.{Settings}
use Rattle.settings.specs.declared.Words.{Words}
use Rattle.settings.specs.Right.{known_of, words_number}
use Rattle.settings.specs.Signals.{signals}
use Rattle.settings.proofs.Right.{row_words, count_few, period_some, period_most, hold_most}
use Rattle.wiring.specs.declared.Struck.{Struck}
use Rattle.plans.specs.Plans.{plan_of}
use Rattle.wiring.specs.Wiring.{Stroked, stroked_at, watched_of, task_of, held_of, Runs, Ran}
use Rattle.wiring.proofs.Signals.{signals_are, asked_right, effect_is, latent_is, exercised_is}

abbrev stroked : Board → ℕ → ℕ → Bool → Stroked
stroked b e l x = record { board = b; effect = e; latent = l; exercised = x }

stroked_path : {b b' : Board} {e e' l l' : ℕ} {x x' : Bool} → b ≡ b' → e ≡ e' → l ≡ l' → x ≡ x' → stroked b e l x ≡ stroked b' e' l' x'
stroked_path p q r s = λ i. stroked (p i) (q i) (r i) (s i)

-- the plan has the count and the period of the settings
pub count_of : (st : Settings) (plan : Plan) → plan ≡ plan_of st → plan.count ≡ st.count
unfolding plan_of
count_of st plan e = ap (λ (y : Plan). y.count) e

period_of : (st : Settings) (plan : Plan) → plan ≡ plan_of st → plan.period ≡ st.period
unfolding plan_of
period_of st plan e = ap (λ (y : Plan). y.period) e

module _ {st : Settings} {plan : Plan} {row : Row} {x : Mark} {array : List ℕ} {room : ℕ} (runs : Runs st plan row x array room) where
  abbrev w : Words
  w = row.words

  words : words_number (known_of st) w ≡ 0
  words = row_words (known_of st) row runs.row_right

  ep : plan ≡ plan_of st
  ep = runs.wired.plan-is

  en : plan.count ≡ st.count
  en = count_of st plan ep

  pub few : plan.count ≤ 16
  few = omega (arith, en, count_few st runs.settings)

  module _ {task : Task} (et : task ≡ task_of plan (associations_in array) row) where
    abbrev s : ℕ → Signals
    s = signals_by (associations_in array) (delays_in array) plan.period task.seen task.asked

    seen_are : seen_by plan task array ≡ signals st w
    unfolding plan_of
    seen_are = rw (et, runs.wired.associations_are, runs.wired.delays_are, ep) (signals_are st runs.settings w words)

    asked_is : task.asked ≡ asked_of plan.count (λ i. asks (s i))
    unfolding plan_of
    asked_is = rw (et, runs.wired.associations_are, runs.wired.delays_are, ep) (asked_right st runs.settings w words)

    seen-is : task.seen ≡ watched_of (plan_of st) w
    seen-is = ap (λ (y : Task). y.seen) et ∙ ap (λ (y : Plan). watched_of y w) ep

    hold_is : task.hold ≡ row.hold
    hold_is = ap (λ (y : Task). y.hold) et

    held-is : held_by plan task x array ≡ held_of st row x array
    held-is = rw (seen_are, hold_is, en)

    pub ready : StrokeReady plan task x array room
    ready =
        let p = period_of st plan ep in
        record {
          few = few;
          long = runs.wired.long;
          short = omega (arith, hold_is, hold_most (known_of st) row runs.row_right);
          some = omega (arith, p, period_some st runs.settings);
          quick = omega (arith, p, period_most st runs.settings);
          countable = omega (arith, hold_is, runs.countable);
          right = record { asked = asked_is; table = rw en runs.shown };
          fits = rw held-is runs.fits;
        }

    module _ {buf array' buf' : List ℕ} {y : Mark} (done : StrokeDone plan task x array buf y array' buf') where
      abbrev run : Run
      run = held_of st row x array

      comes_to : board_at y array' ≡ board_of st.count run
      comes_to = done.board ∙ rw (held-is, en)

      -- the code's answer is the result of the run of slots
      pub ran : {r : Struck} → stroked_at r array' ≡ stroked (board_at y array') (bit_or y.planes.normal y.planes.delayed) (bit_and task.asked.force_normal (bit_or task.asked.active task.asked.bad_trip)) (not (eqb (bit_or task.seen.tripped task.seen.bad) 0))
          → Ran st plan row x array buf r array' buf'
      ran e =
          record {
            stroked = e ∙ stroked_path comes_to
                (ap (λ (b : Board). bit_or b.table.planes.normal b.table.planes.delayed) comes_to ∙ effect_is st.count run.slots)
                (ap (λ (a : Asked). bit_and a.force_normal (bit_or a.active a.bad_trip)) asked_is ∙ latent_is plan.count s ∙ ap latent_word seen_are)
                (ap (λ (v : Seen). not (eqb (bit_or v.tripped v.bad) 0)) seen-is ∙ exercised_is st w);
            laid = done.laid ∙ ap (λ (q : Run). sets buf 0 (bytes q.events)) held-is;
            wired = record {
              plan-is = ep;
              associations_are = done.same.associations ∙ runs.wired.associations_are;
              delays_are = done.same.delays ∙ runs.wired.delays_are;
              long = done.same.long;
            };
          }
