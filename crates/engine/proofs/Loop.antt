-- The stroke's loop over a mark and the array that is lent beside it: what holds at its head, what its calls ask for, and that a turn
-- keeps it.
use Rattle.std.proofs.Common.{◌≡◌, ℕ, ◌+◌, ◌-◌, ◌*◌, ◌^◌, ◌<◌, ◌≤◌, Bool, eqb, List, length, sym, refl, ap, ◌∙◌, arith, eqb-true}
use lib.Seq.{sets}
use Rattle.rules.specs.Limits.{most_hold, most_scans}
use Rattle.effects.specs.Records.{record_length}
use Rattle.planes.specs.declared.Asked.{Asked}
use Rattle.engine.specs.declared.Mark.{Mark}
use Rattle.cells.specs.declared.Plan.{Plan}
use Rattle.engine.specs.declared.Task.{Task}
use Rattle.cells.specs.Array.{associations_in, delays_in, timers_in, Same}
use Rattle.cells.specs.Changed.{fallen}
use Rattle.boards.specs.Table.{blamed, Still, Within, quiets_by, joined}
use Rattle.boards.specs.Board.{Board, entries_of, scanned, unset}
use Rattle.engine.specs.Marks.{board_at, begun}
use Rattle.engine.specs.Stroke.{Calm, held_by, ScanReady, ScanDone, StrokeReady, StrokeDone}
use Rattle.engine.proofs.Marks.{settled_there, within_there, skipped_is, skipped_same}
use Rattle.cells.proofs.Parts.{same_then}
use Rattle.boards.proofs.Turn.{Kept, fresh, starts, turned, within, within_then, steady, calm_scanned, settled_scanned, fits, ended, done_fits, live_fits}

-- what holds at the loop's head. x₀: the mark that the loop begins with
pub record Head (plan : Plan) (task : Task) (array₀ buf₀ : List ℕ) (x₀ : Mark) (w : Asked) (x : Mark) (array buf : List ℕ) (left fuel : ℕ) : Type 0 where
  pub kept :
      Kept plan.count (associations_in array₀) (delays_in array₀) plan.period task.seen task.hold task.asked (fresh (board_at x₀ array₀)) buf₀
      w (board_at x array) buf left fuel
  pub same : Same array₀ array
  pub room : record_length * length (held_by plan task x₀ array₀).events ≤ length buf₀

-- what holds at the head holds at the start
pub begins : {plan : Plan} {task : Task} {from x₀ : Mark} {array buf : List ℕ} {fuel : ℕ} → StrokeReady plan task from array (length buf)
    → blamed task.seen < 2 ^ 16 → from.next < 2 ^ 16 → 2 * plan.count < fuel → x₀ ≡ begun from
    → Head plan task array buf x₀ task.asked x₀ array buf task.hold fuel
begins {plan} {task} {from} {x₀} {array} {buf} {fuel} h causes small f e =
    rw e
    (record {
      kept =
          starts plan.count (associations_in array) (delays_in array) plan.period task.seen task.hold task.asked (board_at from array) buf fuel
          h.few h.some h.quick causes h.right small h.short h.countable f;
      same = record { associations = refl; delays = refl; long = h.long };
      room = h.fits;
    })

module _ {plan : Plan} {task : Task} {array₀ buf₀ : List ℕ} {x₀ : Mark} {w : Asked} {x : Mark} {array buf : List ℕ} {left fuel : ℕ}
    (h : Head plan task array₀ buf₀ x₀ w x array buf left fuel) where
  abbrev n : ℕ
  n = plan.count

  module _ (more : 0 < left) where
    pub scan_ready : ScanReady plan task.seen w x array (length buf)
    scan_ready =
        record {
          few = h.kept.few;
          long = h.same.long;
          countable = omega (arith, done_fits h.kept);
          short = omega (arith, live_fits h.kept);
          settled = h.kept.settled;
          within = within h.kept;
          within_then = rw (h.same.associations, h.same.delays) (within_then h.kept);
          steady = rw (h.same.associations, h.same.delays) (steady h.kept);
          fits = rw (h.same.associations, h.same.delays) (fits h.kept more h.room);
        }

    -- what holds after the scan
    module _ {y : Mark} {mid buf' : List ℕ} (d : ScanDone plan task.seen w x array buf y mid buf') where
      board_then : board_at y mid ≡ scanned n (associations_in array₀) (delays_in array₀) plan.period task.seen w (board_at x array)
      board_then = rw (h.same.associations, h.same.delays) at d.board

      laid_then : buf' ≡ sets buf x.at (joined (entries_of n (associations_in array₀) (delays_in array₀) plan.period task.seen w (board_at x array)))
      laid_then = rw (h.same.associations, h.same.delays) at d.laid

      pub within_scanned : Within n y.planes
      within_scanned = within_there n y mid board_then (within_then h.kept)

      pub still_scanned : Still n y.planes.delayed (timers_in mid)
      still_scanned = (settled_there y mid board_then (settled_scanned h.kept)).still

      -- after a scan that was not live the next one changes no state, where nothing is due
      pub calm_then : {v : Asked} {still : Bool} → v ≡ unset w → still ≡ eqb y.live x.live → Calm v y.planes still
      calm_then ev es e =
          let same = sym (ap (λ (b : Board). b.live) board_then) ∙ eqb-true _ _ (sym es ∙ e) in
          rw (ev, ap (λ (b : Board). b.table.planes) board_then) (calm_scanned h.kept same)

      pub left-fits : left - 1 ≤ most_hold
      left-fits = omega (arith, live_fits h.kept)

      pub scanned_fits : y.scans_done + (left - 1) ≤ most_scans
      unfolding scanned
      scanned_fits = omega (arith, ap (λ (b : Board). b.scans_done) board_then, done_fits h.kept)

      -- after the scans that are skipped, what holds at the head holds again
      pub goes_on : {v : Asked} {z : Mark} {k : ℕ} {end : List ℕ} → v ≡ unset w → k ≡ quiets_by (left - 1) n plan.period v y.planes (timers_in mid)
          → end ≡ fallen n (k * plan.period) mid
          → z ≡ (record { scans_done = y.scans_done + k; next = y.next; at = y.at; live = y.live; planes = y.planes })
          → Head plan task array₀ buf₀ x₀ v z end buf' (left - 1 - k) (fuel - 1)
      goes_on {v} {z} {k} ev ek t e =
          let l = d.same.long in
          record {
            kept = turned h.kept more board_then laid_then ev ek (skipped_is k n plan.period mid h.kept.few l t y e);
            same = same_then h.same (same_then d.same (skipped_same k n plan.period mid h.kept.few l t));
            room = h.room;
          }

  -- at the end, the stroke has given what it promises
  pub ends : {from : Mark} → x₀ ≡ begun from → left ≡ 0 → StrokeDone plan task from array₀ buf₀ x array buf
  ends e z =
      let f = rw e at (ended h.kept z) in
      record { board = f.0; laid = f.1; same = h.same }
