-- The refusal number of the fault that is named is the one that refuses the entry; of a row that nothing refuses it is 9.
use mathlib.Core.Path.{◌≡◌, refl, sym, ap, ◌∙◌}
use mathlib.Core.Bool.{Bool, true, false, ◌&&◌}
use mathlib.Core.List.{List}
use Prim.Native.Nat.{ℕ, zero, suc, ◌^◌}
use native.Mathlib.Omega.{arith}
use lib.Dec.{leb, ltb}
use Rattle.rules.specs.Limits.{between, most_causes, most_hold}
use Rattle.settings.specs.declared.Known.{Known}
use Rattle.settings.specs.declared.Row.{Row}
use Rattle.settings.specs.declared.Words.{Words}
use Rattle.settings.specs.Refusals.{unless, or_else}
use Rattle.settings.specs.Right.{known_of, block_ok, effect_ok, apart, fields_number, apart_number, several_number, words_number, hold_number, row_number}
use Rattle.layout.specs.declared.Kind.TheVariants.{Block, Effects, Rows}
use Rattle.layout.specs.Entries.{block_at, effect_at, row_at}
use Rattle.layout.specs.Sections.{width_of, test_of}
use Rattle.recording.specs.Reader.{settings_at}
use Rattle.findings.specs.declared.Fault.{Fault}
use Rattle.findings.specs.declared.Fault.TheVariants.{CauseCount, Options, Period, NoCause, AbsentCause, Delay, Hold, Word, BothForces, SeveralForced, LastScan}
use Rattle.findings.specs.declared.RowWord.TheVariants.{Values, Bad, Mask, RequireReset, ResetPermit, StartPermit, Reset, ForcePermit, ForceTrip, ForceNormal}
use Rattle.findings.specs.Faults.{or_next, block_fault, effect_fault, permitted, together_fault, forces_fault, resets_fault, inputs_fault, row_fault, causes_in, effects_in, options_in, fault_at, fault_number}

-- ## Chains

-- a test of a chain, by its refusal number
link : (ok : Bool) (fault next : Fault) (k n : ℕ) → fault_number fault ≡ suc k → fault_number next ≡ n
    → fault_number (or_next ok fault next) ≡ or_else (unless ok (suc k)) n
link true fault next k n e h = h
link false fault next k n e h = e

or_else_assoc : (a b c : ℕ) → or_else (or_else a b) c ≡ or_else a (or_else b c)
or_else_assoc zero b c = refl
or_else_assoc (suc a) b c = refl

-- the tests of the ten words, one by one
abbrev Four : Bool → ℕ → ℕ
Four ok n = or_else (unless ok 4) n

one_by_one : (a b c d e f g h i j : Bool) (n : ℕ) → Four (a && b && c && d && e && f && g && h && i && j) n ≡ Four a (Four b (Four c (Four d (Four e (Four f (Four g (Four h (Four i (Four j n)))))))))
one_by_one false b c d e f g h i j n = refl
one_by_one true false c d e f g h i j n = refl
one_by_one true true false d e f g h i j n = refl
one_by_one true true true false e f g h i j n = refl
one_by_one true true true true false f g h i j n = refl
one_by_one true true true true true false g h i j n = refl
one_by_one true true true true true true false h i j n = refl
one_by_one true true true true true true true false i j n = refl
one_by_one true true true true true true true true false j n = refl
one_by_one true true true true true true true true true j n = refl

-- ## Rows

module _ (causes count options : ℕ) (w : Words) where
  abbrev last : ℕ
  last = or_else (apart_number w) (or_else (unless (permitted options w) 6) 9)

  together_number : fault_number (together_fault options w) ≡ last
  unfolding together_fault
  together_number = link (apart w) BothForces _ 4 _ refl (link (permitted options w) SeveralForced LastScan 5 9 refl refl)

  abbrev of_forces : ℕ
  of_forces = Four (leb w.force_permit 1) (Four (ltb w.force_trip (2 ^ count)) (Four (ltb w.force_normal (2 ^ count)) last))

  forces_number : fault_number (forces_fault count options w) ≡ of_forces
  unfolding forces_fault
  forces_number =
      link (leb w.force_permit 1) (Word ForcePermit) _ 3 _ refl
      (link (ltb w.force_trip (2 ^ count)) (Word ForceTrip) _ 3 _ refl
      (link (ltb w.force_normal (2 ^ count)) (Word ForceNormal) _ 3 _ refl
      together_number))

  abbrev of_resets : ℕ
  of_resets = Four (ltb w.require_reset (2 ^ count)) (Four (ltb w.reset_permit (2 ^ count)) (Four (ltb w.start_permit (2 ^ count)) (Four (ltb w.reset (2 ^ count)) of_forces)))

  resets_number : fault_number (resets_fault count options w) ≡ of_resets
  unfolding resets_fault
  resets_number =
      link (ltb w.require_reset (2 ^ count)) (Word RequireReset) _ 3 _ refl
      (link (ltb w.reset_permit (2 ^ count)) (Word ResetPermit) _ 3 _ refl
      (link (ltb w.start_permit (2 ^ count)) (Word StartPermit) _ 3 _ refl
      (link (ltb w.reset (2 ^ count)) (Word Reset) _ 3 _ refl
      forces_number)))

  abbrev of_inputs : ℕ
  of_inputs = Four (ltb w.values (2 ^ causes)) (Four (ltb w.bad (2 ^ causes)) (Four (ltb w.mask (2 ^ causes)) of_resets))

  inputs_number : fault_number (inputs_fault causes count options w) ≡ of_inputs
  unfolding inputs_fault
  inputs_number =
      link (ltb w.values (2 ^ causes)) (Word Values) _ 3 _ refl
      (link (ltb w.bad (2 ^ causes)) (Word Bad) _ 3 _ refl
      (link (ltb w.mask (2 ^ causes)) (Word Mask) _ 3 _ refl
      resets_number))

  abbrev known : Known
  known = record { causes = causes; count = count; options = options }

  words-number : or_else (words_number known w) 9 ≡ of_inputs
  unfolding words_number
  words-number =
      or_else_assoc (fields_number known w) (or_else (apart_number w) (several_number known w)) 9
      ∙ ap (or_else (fields_number known w)) (or_else_assoc (apart_number w) (several_number known w) 9)
      ∙ one_by_one (ltb w.values (2 ^ causes)) (ltb w.bad (2 ^ causes)) (ltb w.mask (2 ^ causes))
      (ltb w.require_reset (2 ^ count)) (ltb w.reset_permit (2 ^ count)) (ltb w.start_permit (2 ^ count)) (ltb w.reset (2 ^ count))
      (leb w.force_permit 1) (ltb w.force_trip (2 ^ count)) (ltb w.force_normal (2 ^ count)) last

pub row_fault_number : (causes count options : ℕ) (r : Row)
    → fault_number (row_fault causes count options r) ≡ or_else (row_number (record { causes = causes; count = count; options = options }) r) 9
unfolding row_fault row_number
row_fault_number causes count options r =
    let k : Known = record { causes = causes; count = count; options = options } in
    link (between 1 most_hold r.hold) Hold _ 3 _ refl (inputs_number causes count options r.words ∙ sym (words-number causes count options r.words))
    ∙ sym (or_else_assoc (hold_number r.hold) (words_number k r.words) 9)

-- ## The block and the effects

two : (a b : Bool) → fault_number (or_next a CauseCount (or_next b Options Period)) ≡ 2
two true true = refl
two true false = refl
two false b = refl

three : (a b : Bool) → fault_number (or_next a NoCause (or_next b AbsentCause Delay)) ≡ 3
three true true = refl
three true false = refl
three false b = refl

-- a test with one refusal number gives no other
only : (ok : Bool) (k n : ℕ) → unless ok n ≡ suc k → n ≡ suc k
only true k n e = absurd (omega (arith, e))
only false k n e = e

-- ## The entry at a place that is refused

module _ (s : List ℕ) (at k : ℕ) where
  pub block-number : (known : Known) → test_of Block known s at ≡ suc k → fault_number (fault_at Block s at) ≡ suc k
  unfolding block_fault
  block-number known e =
      let x = block_at s at in
      two (between 1 most_causes x.causes) (ltb x.options 8) ∙ only (block_ok x.causes x.options x.period) k 2 e

  pub effect-number : (known : Known) → known.causes ≡ causes_in s → test_of Effects known s at ≡ suc k → fault_number (fault_at Effects s at) ≡ suc k
  unfolding effect_fault
  effect-number known c e =
      let x = effect_at s at in
      three (leb 1 x.association) (ltb x.association (2 ^ causes_in s)) ∙ only (effect_ok known.causes x) k 3 e

  pub row-number : test_of Rows (known_of (settings_at s 6)) s at ≡ suc k → fault_number (fault_at Rows s at) ≡ suc k
  row-number e = row_fault_number (causes_in s) (effects_in s) (options_in s) (row_at (width_of Rows) s at) ∙ ap (λ (n : ℕ). or_else n 9) e

pub late_number : (s : List ℕ) (at : ℕ) → test_of Rows (known_of (settings_at s 6)) s at ≡ 0 → fault_number (fault_at Rows s at) ≡ 9
late_number s at e = row_fault_number (causes_in s) (effects_in s) (options_in s) (row_at (width_of Rows) s at) ∙ ap (λ (n : ℕ). or_else n 9) e
