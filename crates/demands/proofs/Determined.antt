-- What the views of a run determine: a mark and the array beside it, by the board that they show and what the settings gave to the
-- array; and a run of rows, by its file and the number of its rows.
use mathlib.Core.Path.{◌≡◌, refl, sym, ap, ap₂, ◌∙◌}
use mathlib.Core.Bool.{Bool, true, false}
use mathlib.Core.List.{List, ◌++◌}
use Prim.Native.Nat.{ℕ, ◌+◌, ◌*◌, ◌≤◌}
use native.Mathlib.Omega.{arith}
use lib.ListN.{drop, length, length-drop, take-append-drop}
use lib.Seq.{drop-drop, take_all}
use Rattle.bits.specs.Words.{one}
use Rattle.boards.specs.Board.{Board}
use Rattle.engine.specs.declared.Mark.{Mark}
use Rattle.cells.specs.declared.Plan.{Plan}
use Rattle.cells.specs.Array.{part, part_length, array_length, associations_at, delays_at, timers_at, firsts_at, associations_in, delays_in, timers_in, firsts_in}
use Rattle.engine.specs.Marks.{board_at, begun}
use Rattle.settings.specs.declared.Settings.{Settings}
use Rattle.wiring.specs.declared.Struck.{Struck}
use Rattle.plans.specs.Plans.{Wired}
use Rattle.wiring.specs.Wiring.{Stroked}
use Rattle.rerun.specs.declared.Run.{Run}
use Rattle.rerun.specs.Answer.{Turn}
use Rattle.listing.specs.Printed.{PrintedPiece}
use Rattle.rerun.specs.Replay.{first_rows}
use Rattle.rerun.specs.Turn.{Totals, totals_in, totals_of, Going}

-- ## In general

ap₃ : {A B C D : Type 0} (g : A → B → C → D) {a a' : A} {b b' : B} {c c' : C} → a ≡ a' → b ≡ b' → c ≡ c' → g a b c ≡ g a' b' c'
ap₃ {A} {B} {C} g {a} {a'} {b} {b'} {c} {c'} x y z = ap₂ (λ (p : B) (q : C). g a p q) y z ∙ ap (λ (p : A). g p b' c') x

-- two things that are lent are equal if each is
pub lent : {xs ys us vs : List ℕ} → xs ≡ ys → us ≡ vs → ◌≡◌ {A = List ℕ × List ℕ} (xs, us) (ys, vs)
lent h k = ap₂ (λ (x u : List ℕ). (x, u)) h k

-- ## An array is its parts

-- what stands from a place on is the part there, and then what stands after the part
part_then : (at : ℕ) (xs : List ℕ) → drop at xs ≡ part at xs ++ drop (at + part_length) xs
unfolding part
part_then at xs = sym (take-append-drop part_length (drop at xs)) ∙ ap (λ (l : List ℕ). part at xs ++ l) (drop-drop part_length at xs)

pub parts_joined : (xs : List ℕ) → length xs ≡ array_length → xs ≡ associations_in xs ++ (delays_in xs ++ (timers_in xs ++ firsts_in xs))
parts_joined xs long =
    let last : drop firsts_at xs ≡ firsts_in xs = unfold part in sym (take_all part_length (drop firsts_at xs) (omega (arith, long, length-drop firsts_at xs))) in
    part_then associations_at xs
    ∙ ap (λ (l : List ℕ). associations_in xs ++ l) (
    part_then delays_at xs ∙ ap (λ (l : List ℕ). delays_in xs ++ l) (part_then timers_at xs ∙ ap (λ (l : List ℕ). timers_in xs ++ l) last)
    )

-- two arrays whose parts are equal are equal
module _ {xs ys : List ℕ} (long : length xs ≡ array_length) (long' : length ys ≡ array_length) where
  same_parts : associations_in xs ≡ associations_in ys → delays_in xs ≡ delays_in ys → timers_in xs ≡ timers_in ys → firsts_in xs ≡ firsts_in ys → xs ≡ ys
  same_parts a d t f =
      parts_joined xs long
      ∙ ap₂ (λ (l m : List ℕ). l ++ m) a (ap₂ (λ (l m : List ℕ). l ++ m) d (ap₂ (λ (l m : List ℕ). l ++ m) t f))
      ∙ sym (parts_joined ys long')

  -- ## A mark and its array

  -- a mark's array is determined by the board, which has its timers and first-outs, and by what the settings gave
  pub same_array : {x y : Mark} → board_at x xs ≡ board_at y ys → associations_in xs ≡ associations_in ys → delays_in xs ≡ delays_in ys → xs ≡ ys
  same_array e a d = same_parts a d (ap (λ (b : Board). b.table.timers) e) (ap (λ (b : Board). b.table.firsts) e)

-- a mark is determined by its board
mark_of : Board → Mark
mark_of b = record { scans_done = b.scans_done; next = b.next; at = b.at; live = b.live; planes = b.table.planes }

pub same_mark : {x y : Mark} (xs ys : List ℕ) → board_at x xs ≡ board_at y ys → x ≡ y
unfolding mark_of
same_mark xs ys e = ap mark_of e

-- a mark is determined by the board of the run that starts there, and by its records and live scans
ended_by : Mark → (at live : ℕ) → Mark
ended_by x at live = record { scans_done = x.scans_done; next = x.next; at = at; live = live; planes = x.planes }

pub same_end : {x y : Mark} (xs ys : List ℕ) → board_at (begun x) xs ≡ board_at (begun y) ys → x.at ≡ y.at → x.live ≡ y.live → x ≡ y
unfolding ended_by
same_end xs ys e at live = ap₃ ended_by (same_mark xs ys e) at live

-- ## What the settings determine

module _ {st : Settings} {plan plan' : Plan} {xs ys : List ℕ} (h : Wired st plan xs) (k : Wired st plan' ys) where
  pub same-plan : plan ≡ plan'
  same-plan = h.plan-is ∙ sym k.plan-is

  pub same_wired : {x y : Mark} → board_at x xs ≡ board_at y ys → xs ≡ ys
  same_wired e = same_array h.long k.long e (h.associations_are ∙ sym k.associations_are) (h.delays_are ∙ sym k.delays_are)

-- ## A run of rows

-- a run of rows is what the totals show, and three things beside
run_by : Totals → Plan → (width many : ℕ) → Run
run_by t plan width many =
    record {
      plan = plan;
      mark = mark_of t.board;
      width = width;
      row_count = many;
      place = t.place;
      rows = t.rows;
      records = t.records;
      live = t.live;
      exercised = t.exercised;
    }

pub same-run : {run run' : Run} (xs ys : List ℕ) → totals_in run xs ≡ totals_in run' ys → run.plan ≡ run'.plan → run.width ≡ run'.width
    → run.row_count ≡ run'.row_count → run ≡ run'
unfolding mark_of run_by
same-run {run} {run'} xs ys t p w m =
    ap (λ (v : Totals). run_by v run.plan run.width run.row_count) t
    ∙ ap (λ (v : Plan). run_by (totals_in run' ys) v run.width run.row_count) p
    ∙ ap₂ (λ (v n : ℕ). run_by (totals_in run' ys) run'.plan v n) w m

-- two runs that have done equally many rows of one file are equal
module _ {s : List ℕ} {run run' : Run} {xs ys : List ℕ} (h : Going s run xs) (k : Going s run' ys) (rows : run.rows ≡ run'.rows) where
  totals : totals_in run xs ≡ totals_in run' ys
  totals = h.totals ∙ ap (λ (n : ℕ). totals_of s (first_rows s n).replay) rows ∙ sym k.totals

  pub going_run : run ≡ run'
  going_run = same-run xs ys totals (same-plan h.wired k.wired) (h.wide ∙ sym k.wide) (h.many ∙ sym k.many)

  pub going_array : xs ≡ ys
  going_array = same_wired h.wired k.wired (ap (λ (t : Totals). t.board) totals)

-- ## Results by their fields

abbrev pub struck_by : Mark → Stroked → Struck
struck_by mark s = record { mark = mark; effect = s.effect; latent = s.latent; exercised = s.exercised }

abbrev turn_by : ℕ → ℕ → Run → Turn
turn_by number records run = record { number = number; records = records; run = run }

pub same_turn : {x y : Turn} → x.number ≡ y.number → x.records ≡ y.records → x.run ≡ y.run → x ≡ y
same_turn n k r = ap₃ turn_by n k r

abbrev printed_by : Bool → ℕ → Turn → PrintedPiece
printed_by full at turn = record { full = full; at = at; turn = turn }

pub same_printed : {x y : PrintedPiece} → x.full ≡ y.full → x.at ≡ y.at → x.turn ≡ y.turn → x ≡ y
same_printed f p t = ap₃ printed_by f p t

-- the exercised scans of a hold tell whether it exercises an effect
pub same_exercised : {hold : ℕ} (b c : Bool) → 1 ≤ hold → hold * one b ≡ hold * one c → b ≡ c
same_exercised true true h e = refl
same_exercised false false h e = refl
same_exercised true false h e = absurd (omega (arith, h, e))
same_exercised false true h e = absurd (omega (arith, h, e))
