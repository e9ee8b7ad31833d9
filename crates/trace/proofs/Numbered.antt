-- Every event is one of the effects that exist, so that an absent effect has none.
use mathlib.Core.Path.{◌≡◌, refl, ap₂}
use mathlib.Core.Bool.{Bool, true, false, cond}
use mathlib.Core.List.{List, [], ◌∷◌, ◌++◌}
use Prim.Native.Nat.{ℕ, zero, suc, ◌+◌, ◌≤◌}
use native.Mathlib.Omega.{arith}
use borrow.Author.Tests.{ne_eqb}
use lib.ListN.{length, drop}
use Rattle.bits.proofs.Lists.{length-tabulate}
use Rattle.rules.specs.Signals.{Signals}
use Rattle.rules.specs.declared.Slot.{Slot}
use Rattle.rules.specs.Rules.{moved}
use Rattle.effects.specs.declared.Event.{Event}
use Rattle.effects.specs.Records.{Numbered}
use Rattle.effects.specs.Scan.{events_from, only, event, wrapped}
use Rattle.settings.specs.declared.Settings.{Settings}
use Rattle.settings.specs.declared.Words.{Words}
use Rattle.settings.specs.declared.Row.{Row}
use Rattle.settings.specs.Signals.{signals, signals_of}
use Rattle.block.specs.declared.State.{State}
use Rattle.block.specs.Scan.{events}
use Rattle.block.specs.Held.{later, Stepped, start, step, stepped, run}
use Rattle.recording.specs.Answers.{row_count_of}
use Rattle.recording.specs.Reader.{reading}
use Rattle.recording.specs.Accepted.{Accepted}
use Rattle.rerun.specs.Replay.{replay, first_rows, row_run}
use Rattle.rerun.proofs.Files.{by_rows, all_the_rows}
use Rattle.trace.specs.Effect.{Change, only_if, change_of, own}

pub numbered_append : (n : ℕ) (es fs : List Event) → Numbered n es → Numbered n fs → Numbered n (es ++ fs)
numbered_append n [] fs h k = k
numbered_append n (e ∷ es) fs h k = (h.0, h.1, numbered_append n es fs h.2 k)

pub numbered_drop : (n k : ℕ) (es : List Event) → Numbered n es → Numbered n (drop k es)
numbered_drop n zero es h = h
numbered_drop n (suc k) [] h = tt
numbered_drop n (suc k) (e ∷ es) h = numbered_drop n k es h.2

pub numbered_more : (n m : ℕ) (es : List Event) → n ≤ m → Numbered n es → Numbered m es
numbered_more n m [] l h = tt
numbered_more n m (e ∷ es) l h = (h.0, omega (arith, h.1), numbered_more n m es l h.2)

-- the events of one scan
numbered_only : (n : ℕ) (b : Bool) (e : Event) → 1 ≤ e.effect → e.effect ≤ n → Numbered n (only b e)
numbered_only n true e h k = (h, k, tt)
numbered_only n false e h k = tt

numbered_from : (n q c i : ℕ) (ss : List Signals) (xs : List Slot) → 1 ≤ i → i + length ss ≤ n + 1 → Numbered n (events_from q c i ss xs)
numbered_from n q c i [] xs h k = tt
numbered_from n q c i (s ∷ ss) [] h k = tt
numbered_from n q c i (s ∷ ss) (x ∷ xs) h k =
    numbered_append n (only (moved s x) (event q c i s x)) (events_from (cond (moved s x) (wrapped q) q) c (suc i) ss xs)
    (numbered_only n (moved s x) (event q c i s x) h (omega arith))
    (numbered_from n (cond (moved s x) (wrapped q) q) c (suc i) ss xs (omega arith) (omega arith))

module _ (st : Settings) where
  numbered_scan : (w : Words) (x : State) → Numbered st.count (events st w x)
  unfolding events
  numbered_scan w x = numbered_from st.count x.next (x.scans_done + 1) 1 (signals st w) x.slots (omega arith) (omega (arith, length-tabulate (signals_of st w) st.count))

  -- of a hold
  numbered_stepped : (n : ℕ) (w : Words) (r : Stepped) → Numbered st.count r.events → Numbered st.count (stepped st w n r).events
  numbered_stepped zero w r h = h
  numbered_stepped (suc n) w r h = numbered_stepped n (later w) (step st w r) (numbered_append st.count r.events (events st w r.state) h (numbered_scan w r.state))

  pub numbered_run : (row : Row) (x : State) → Numbered st.count (run st row x).events
  unfolding run
  numbered_run row x = numbered_stepped row.hold row.words (start x) tt

-- of a recording
module _ (s : List ℕ) where
  abbrev n : ℕ
  n = (reading s).settings.count

  pub numbered_row : (i : ℕ) → Numbered n (row_run s i).events
  unfolding row_run
  numbered_row i = numbered_run (reading s).settings _ _

  pub numbered_first : (i : ℕ) → i ≤ row_count_of (reading s).answer → Numbered n (first_rows s i).replay.events
  numbered_first =
      by_rows s (λ o. Numbered n o.replay.events) tt
      (λ i b z. numbered_append n (first_rows s i).replay.events (row_run s i).events b.3 (numbered_row i))
      (λ i b h. b.3)

  pub numbered_replay : Accepted s → Numbered n (replay s).replay.events
  numbered_replay a = rw (all_the_rows s a) (numbered_first (row_count_of (reading s).answer) (omega arith))

-- an absent effect has none
pub absent : (n i : ℕ) (es : List Event) → Numbered n es → n ≤ i → own (1 + i) es ≡ []
absent n i [] h k = refl
absent n i (e ∷ es) h k =
    ap₂ (λ (b : Bool) (l : List Change). only_if b (change_of e) ++ l) (ne_eqb e.effect (1 + i) (λ q. omega (arith, q, h.1, k))) (absent n i es h.2 k)
