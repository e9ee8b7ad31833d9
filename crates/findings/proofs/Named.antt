-- The test that a fault names does fail, at an entry that is refused.
use mathlib.Core.Path.{◌≡◌, refl, sym, ap, ◌∙◌}
use mathlib.Core.Bool.{Bool, true, false, ◌&&◌}
use mathlib.Core.List.{List}
use Prim.Native.Nat.{ℕ, suc, ◌^◌}
use native.Mathlib.Omega.{arith}
use lib.Dec.{leb, ltb}
use Rattle.rules.specs.Limits.{between, most_causes, most_period}
use Rattle.settings.specs.declared.Known.{Known}
use Rattle.settings.specs.declared.Words.{Words}
use Rattle.settings.specs.Refusals.{unless}
use Rattle.settings.specs.Right.{block_ok, effect_ok}
use Rattle.layout.specs.declared.Kind.TheVariants.{Block, Effects, Rows}
use Rattle.layout.specs.Entries.{block_at, effect_at, row_at}
use Rattle.layout.specs.Sections.{width_of, test_of}
use Rattle.findings.specs.declared.Fault.{Fault}
use Rattle.findings.specs.declared.Fault.TheVariants.{CauseCount, Options, Period, NoCause, AbsentCause, Delay, Hold, Word, BothForces, SeveralForced, LastScan}
use Rattle.findings.specs.declared.RowWord.TheVariants.{Values, Bad, Mask, RequireReset, ResetPermit, StartPermit, Reset, ForcePermit, ForceTrip, ForceNormal}
use Rattle.findings.specs.Faults.{or_next, block_fault, effect_fault, together_fault, forces_fault, resets_fault, inputs_fault, row_fault, causes_in, effects_in, options_in, fault_at, fault_test}

-- ## Chains

-- if a chain stops at a test, this is the one that is named; else a later one
named : (test : Fault → Bool) (fault next : Fault) → test next ≡ false → (ok : Bool) → test fault ≡ ok → test (or_next ok fault next) ≡ false
named test fault next h true e = h
named test fault next h false e = e

refused : (ok : Bool) (n k : ℕ) → unless ok n ≡ suc k → ok ≡ false
refused true n k e = absurd (omega (arith, e))
refused false n k e = refl

-- three tests, the last of which is made where the others hold
in_three : (test : Fault → Bool) (f g h : Fault) (a b : Bool) → test f ≡ a → test g ≡ b → (a && b && test h) ≡ false → test (or_next a f (or_next b g h)) ≡ false
in_three test f g h true true ea eb e = e
in_three test f g h true false ea eb e = eb
in_three test f g h false b ea eb e = ea

and_assoc : (a b c : Bool) → (a && b && c) ≡ (a && (b && c))
and_assoc true b c = refl
and_assoc false b c = refl

-- ## The three kinds of entry

module _ (s : List ℕ) (at k : ℕ) where
  pub block_named : (known : Known) → test_of Block known s at ≡ suc k → fault_test s at (fault_at Block s at) ≡ false
  unfolding block_fault
  block_named known e =
      let x = block_at s at in
      let a = between 1 most_causes x.causes in
      let b = ltb x.options 8 in
      in_three (fault_test s at) CauseCount Options Period a b refl refl
      (sym (and_assoc (a && b) (leb 1 x.period) (leb x.period most_period)) ∙ refused (block_ok x.causes x.options x.period) 2 k e)

  pub effect_named : (known : Known) → known.causes ≡ causes_in s → test_of Effects known s at ≡ suc k → fault_test s at (fault_at Effects s at) ≡ false
  unfolding effect_fault
  effect_named known c e =
      let x = effect_at s at in
      in_three (fault_test s at) NoCause AbsentCause Delay (leb 1 x.association) (ltb x.association (2 ^ causes_in s)) refl refl
      (ap (λ (n : ℕ). effect_ok n x) (sym c) ∙ refused (effect_ok known.causes x) 3 k e)

module _ (s : List ℕ) (at : ℕ) where
  abbrev test : Fault → Bool
  test = fault_test s at

  abbrev w : Words
  w = (row_at (width_of Rows) s at).words

  together_named : test (together_fault (options_in s) w) ≡ false
  unfolding together_fault
  together_named = named test BothForces _ (named test SeveralForced LastScan refl _ refl) _ refl

  forces_named : test (forces_fault (effects_in s) (options_in s) w) ≡ false
  unfolding forces_fault
  forces_named =
      named test (Word ForcePermit) _
      (named test (Word ForceTrip) _
      (named test (Word ForceNormal) _ together_named _ refl)
      _ refl)
      _ refl

  resets_named : test (resets_fault (effects_in s) (options_in s) w) ≡ false
  unfolding resets_fault
  resets_named =
      named test (Word RequireReset) _
      (named test (Word ResetPermit) _
      (named test (Word StartPermit) _
      (named test (Word Reset) _ forces_named _ refl)
      _ refl)
      _ refl)
      _ refl

  inputs_named : test (inputs_fault (causes_in s) (effects_in s) (options_in s) w) ≡ false
  unfolding inputs_fault
  inputs_named =
      named test (Word Values) _
      (named test (Word Bad) _
      (named test (Word Mask) _ resets_named _ refl)
      _ refl)
      _ refl

  pub row_named : test (fault_at Rows s at) ≡ false
  unfolding row_fault
  row_named = named test Hold _ inputs_named _ refl
