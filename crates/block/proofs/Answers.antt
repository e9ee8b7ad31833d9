-- What a run that is granted leaves of the lent bytes, and what follows from input that is not refused.
use mathlib.Core.Path.{◌≡◌, sym, ◌∙◌}
use mathlib.Core.List.{List, ◌++◌}
use Prim.Native.Nat.{ℕ, ◌+◌, ◌*◌, ◌≤◌}
use borrow.Author.Tests.{leb-true}
use lib.ListN.{length, take, drop}
use lib.Seq.{sets}
use Rattle.effects.specs.declared.Event.{Event}
use Rattle.effects.specs.Records.{record_length, bytes}
use Rattle.effects.proofs.Records.{front_bytes}
use Rattle.settings.specs.declared.Settings.{Settings}
use Rattle.settings.specs.declared.Row.{Row}
use Rattle.rules.specs.Limits.{most_scans}
use Rattle.settings.specs.Right.{known_of, settings_number, row_number}
use Rattle.settings.proofs.Refusals.{or_else_none, unless_none}
use Rattle.settings.proofs.Right.{count_few}
use Rattle.block.specs.declared.State.{State}
use Rattle.block.specs.State.{state_number}
use Rattle.block.specs.Scan.{scans_number, input_number, at_front}

-- records that were laid in a space of their own are copied to the front of the lent bytes
pub copied : (es : List Event) (at : ℕ) (space space' out buf : List ℕ) → at ≡ record_length * length es → record_length * length es ≤ length space
    → space' ≡ sets space 0 (bytes es) → buf ≡ take at space' ++ drop at out → buf ≡ at_front es out
copied es at space space' out buf e v l f = f ∙ rw (e, l, front_bytes es space v)

-- ## What follows from input that is not refused

module _ (st : Settings) (row : Row) (x : State) (n : ℕ) (is : n ≡ input_number st x row) (z : n ≡ 0) where
  parts : (settings_number st ≡ 0) × (state_number st x ≡ 0) × (row_number (known_of st) row ≡ 0) × (scans_number x.scans_done row.hold ≡ 0)
  unfolding input_number
  parts =
      let a = or_else_none (settings_number st) _ (sym is ∙ z) in
      let b = or_else_none (state_number st x) _ a.1 in
      let c = or_else_none (row_number (known_of st) row) _ b.1 in
      (a.0, b.0, c.0, c.1)

  pub settings_right : settings_number st ≡ 0
  settings_right = parts.0

  pub state_right : state_number st x ≡ 0
  state_right = parts.1

  pub row_right : row_number (known_of st) row ≡ 0
  row_right = parts.2

  pub few : st.count ≤ 16
  few = count_few st settings_right

  pub countable : x.scans_done + row.hold ≤ most_scans
  countable = leb-true (x.scans_done + row.hold) most_scans (unless_none _ 8 parts.3)
