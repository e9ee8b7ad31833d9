-- The array of the settings: its parts, after the associations and delays were put in.
use mathlib.Core.Path.{◌≡◌, ap, ◌∙◌}
use mathlib.Core.List.{List, ◌++◌, append-nil}
use Prim.Native.Nat.{ℕ, ◌+◌, ◌≤◌}
use native.Mathlib.Omega.{arith}
use lib.ListN.{length, drop_of_length-le}
use lib.Seq.{sets, length-sets}
use Rattle.bits.specs.Lists.{tabulate}
use Rattle.bits.proofs.Lists.{length-tabulate}
use Rattle.cells.specs.Array.{part, part_length, array_length, associations_at, delays_at, associations_in, delays_in}
use Rattle.settings.specs.declared.Settings.{Settings}
use Rattle.plans.specs.Plans.{association_at, delay_at, associations_of, delays_of, wired_into}
use Rattle.cells.proofs.Parts.{length_part, part_filled, part_before, part_after}

-- a part whose every entry is filled
part-whole : (o : ℕ) (f : ℕ → ℕ) (xs : List ℕ) → o + part_length ≤ length xs → part o (sets xs o (tabulate f part_length)) ≡ tabulate f part_length
part-whole o f xs h =
    let whole : length (part o xs) ≤ part_length = omega (arith, length_part o xs h) in
    part_filled o f part_length xs h (omega arith)
    ∙ ap (λ (l : List ℕ). tabulate f part_length ++ l) (drop_of_length-le (part o xs) whole)
    ∙ append-nil _

module _ (st : Settings) (xs : List ℕ) where
  pub wired_long : length (wired_into st xs) ≡ length xs
  unfolding wired_into
  wired_long = length-sets (sets xs associations_at (associations_of st)) delays_at (delays_of st) ∙ length-sets xs associations_at (associations_of st)

  -- the parts past the delays stay
  pub wired_past : (o : ℕ) → delays_at + part_length ≤ o → part o (wired_into st xs) ≡ part o xs
  unfolding wired_into
  wired_past o h =
      part_after o delays_at (sets xs associations_at (associations_of st)) (delays_of st) (omega (arith, length-tabulate (delay_at st) part_length))
      ∙ part_after o associations_at xs (associations_of st) (omega (arith, length-tabulate (association_at st) part_length))

  pub wired_associations : length xs ≡ array_length → associations_in (wired_into st xs) ≡ associations_of st
  unfolding wired_into
  wired_associations long =
      part_before associations_at delays_at (sets xs associations_at (associations_of st)) (delays_of st) (omega arith)
      ∙ part-whole associations_at (association_at st) xs (omega arith)

  pub wired_delays : length xs ≡ array_length → delays_in (wired_into st xs) ≡ delays_of st
  unfolding wired_into
  wired_delays long =
      part-whole delays_at (delay_at st) (sets xs associations_at (associations_of st)) (omega (arith, length-sets xs associations_at (associations_of st)))
