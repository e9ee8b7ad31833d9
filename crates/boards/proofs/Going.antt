-- The loop over rounds, on lists of signals and slots: what holds at its head, that it holds at the start, and that a turn keeps it.
use mathlib.Core.Path.{◌≡◌, refl, ap, ◌∙◌}
use mathlib.Core.List.{List, map, flat_map}
use Prim.Native.Nat.{ℕ, ◌+◌, ◌-◌, ◌*◌, ◌≤◌, ◌<◌}
use native.Mathlib.Nat.{zero-add}
use native.Mathlib.Omega.{arith}
use lib.ListN.{length, length-append}
use lib.Seq.{sets, length-sets}
use Rattle.bits.proofs.Numbers.{sets-append}
use Rattle.bits.proofs.Words.{one-lt}
use Rattle.rules.specs.Limits.{most_hold, most_scans}
use Rattle.rules.specs.Signals.{Signals}
use Rattle.rules.specs.declared.Slot.{Slot}
use Rattle.effects.specs.Scan.{steps, any_moved}
use Rattle.effects.specs.Records.{record_length, bytes}
use Rattle.effects.proofs.Records.{bytes_append, length-bytes}
use Rattle.rounds.specs.Steps.{Run, start, scan, clear, held}
use Rattle.rounds.specs.Stroke.{quiets, skip}
use Rattle.rounds.proofs.Effects.{Timed, ranks, timed_clear, quiets_le}
use Rattle.rounds.proofs.Held.{due, ranks_first, grows, round_turn, round_falls}

-- at the loop's head: the rest of the run gives what the whole gives, `fuel` is above the moves left, and the records so
-- far lie at the front of the buffer
pub record Going (whole : Run) (buf₀ : List ℕ) (ss : List Signals) (r : Run) (buf : List ℕ) (left fuel : ℕ) : Type 0 where
  pub timed : Timed ss
  pub few : r.live + left ≤ most_hold
  pub room : r.scans_done + left ≤ most_scans
  pub gives : held ss left r ≡ whole
  pub fuelled : 0 < left → ranks ss (steps ss r.slots) < fuel
  pub laid : buf ≡ sets buf₀ 0 (bytes r.events)

module _ {whole : Run} {buf₀ : List ℕ} {ss : List Signals} {r : Run} {buf : List ℕ} {left fuel : ℕ} (g : Going whole buf₀ ss r buf left fuel) (w : 0 < left) where
  -- the signals of the scans after this one
  abbrev cs : List Signals
  cs = map clear ss

  -- how many of the scans after this one are skipped
  abbrev k : ℕ
  k = quiets (left - 1) cs (steps ss r.slots)

  -- the run after the turn
  abbrev later : Run
  later = skip k cs (scan ss r)

  -- the scans that are left after the turn give what the whole gives
  round : held cs (left - 1 - k) later ≡ whole
  round = round_turn ss g.timed r left w ∙ g.gives

  -- the records of the scan fit where the records of the whole fit
  pub fit : record_length * length whole.events ≤ length buf₀
      → record_length * length r.events + record_length * length (due ss r) ≤ length buf
  fit v =
      let e = ap (λ (r : Run). length r.events) round in
      omega (arith, e, grows cs (left - 1 - k) later, v, length-append r.events (due ss r), ap length g.laid, length-sets buf₀ 0 (bytes r.events))

  -- what holds at the head holds at the next head
  pub turn : Going whole buf₀ cs later (sets buf (record_length * length r.events) (bytes (due ss r))) (left - 1 - k) (fuel - 1)
  turn =
      let f = g.fuelled w in
      let b = quiets_le (left - 1) cs (steps ss r.slots) in
      record {
        timed = timed_clear ss g.timed;
        few = omega (arith, g.few, one-lt (any_moved ss r.slots), b);
        room = omega (arith, g.room, b);
        gives = round;
        fuelled = λ v. omega (arith, f, round_falls ss g.timed r (left - 1) v);
        laid = rw (g.laid, bytes_append r.events (due ss r), sets-append, length-bytes, zero-add);
      }

-- at the end the run is the whole
pub ends : {whole : Run} {buf₀ : List ℕ} {ss : List Signals} {r : Run} {buf : List ℕ} {left fuel : ℕ} → Going whole buf₀ ss r buf left fuel → left ≡ 0 → r ≡ whole
ends g e = rw e at g.gives

-- what holds at the head holds at the start, where `fuel` is above twice the effects
pub begins : (hold : ℕ) (ss : List Signals) (done next : ℕ) (slots : List Slot) (buf : List ℕ) (fuel : ℕ)
    → Timed ss → hold ≤ most_hold → done + hold ≤ most_scans → 2 * length ss < fuel
    → Going (held ss hold (start done next slots)) buf ss (start done next slots) buf hold fuel
unfolding flat_map
begins hold ss done next slots buf fuel t h r f =
    record {
      timed = t;
      few = omega arith;
      room = r;
      gives = refl;
      fuelled = λ v. omega (arith, ranks_first ss slots);
      laid = refl;
    }
