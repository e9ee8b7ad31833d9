-- Laws of a table's text: the pieces of its lines, and how long they are.
use mathlib.Core.Path.{◌≡◌, sym, ◌∙◌}
use mathlib.Core.List.{List, ◌++◌, append_assoc}
use Prim.Native.Nat.{ℕ, ◌+◌, ◌-◌, ◌*◌, ◌^◌, ◌≤◌, ◌<◌}
use native.Mathlib.Numerals.{add-one}
use native.Mathlib.Omega.{arith}
use lib.ListN.{length, get_or, take, drop, length-append}
use Rattle.bits.specs.Decimal.{ascii, decimal}
use Rattle.bits.proofs.Decimal.{length_of_64_bits}
use Rattle.text.specs.Pieces.{total}
use Rattle.std.proofs.lemmas.List.{length-take, length-drop, get_or-take, get_or-drop}
use Rattle.rules.specs.Limits.{most_effects}
use Rattle.tally.specs.Tally.{sums_of_effect, exercised_sum, state_sum}
use Rattle.rules.specs.declared.EffectState.TheVariants.{Tripped, WaitReset, Ready, WaitStart, Normal, Delayed}
use Rattle.season_table.specs.Lines.{scans_text, trips_text, effect_line, effect_lines, closing_line}
use Rattle.season_table.specs.Pieces.{spaced, sums_text, most_closing}

-- ## The line of an effect

-- seven fields, each behind what stands between fields, are those of a line that goes on to its end
regrouped : (first between end a b c d e f g : List ℕ)
    → first ++ (between ++ a ++ (between ++ b) ++ (between ++ c) ++ (between ++ d) ++ (between ++ e) ++ (between ++ f) ++ (between ++ g)) ++ end
    ≡ first ++ between ++ (a ++ between ++ (b ++ between ++ (c ++ between ++ (d ++ between ++ (e ++ between ++ (f ++ between ++ (g ++ end)))))))
regrouped first between end a b c d e f g = simp append_assoc

module _ (sums : List ℕ) (i : ℕ) where
  pub one_sum_more : (n : ℕ) → sums_text sums i (n + 1) ≡ sums_text sums i n ++ spaced (get_or sums (state_sum i n) 0)
  unfolding sums_text
  one_sum_more n = rw add-one

  pub line_pieces : effect_line sums i ≡ decimal (i + 1) ++ sums_text sums i sums_of_effect ++ ascii "\n"
  unfolding effect_line sums_text
  line_pieces =
      sym
      (regrouped (decimal (i + 1)) (ascii " ") (ascii "\n") (scans_text sums i Tripped) (scans_text sums i WaitReset) (scans_text sums i Ready) (scans_text sums i WaitStart) (scans_text sums i Normal) (scans_text sums i Delayed) (trips_text sums i))

-- the sums of one effect as a part of all: so many from its first on
module _ (sums : List ℕ) (i : ℕ) (long : length sums ≡ exercised_sum + 1) (few : i < most_effects) where
  abbrev own : List ℕ
  own = take (sums_of_effect * i + sums_of_effect - sums_of_effect * i) (drop (sums_of_effect * i) sums)

  pub own_many : length own ≡ sums_of_effect
  own_many = omega (arith, length-take (sums_of_effect * i + sums_of_effect - sums_of_effect * i) (drop (sums_of_effect * i) sums), length-drop (sums_of_effect * i) sums)

  pub own_sum : (j : ℕ) → j < sums_of_effect → get_or own j 0 ≡ get_or sums (state_sum i j) 0
  own_sum j h = get_or-take (sums_of_effect * i + sums_of_effect - sums_of_effect * i) (drop (sums_of_effect * i) sums) j 0 (omega arith) ∙ get_or-drop (sums_of_effect * i) sums j 0

pub one_line_more : (sums : List ℕ) (n : ℕ) → effect_lines sums (n + 1) ≡ effect_lines sums n ++ effect_line sums n
unfolding effect_lines
one_line_more sums n = rw add-one

-- ## The last line

module _ (n m x : ℕ) where
  abbrev recordings : List ℕ
  recordings = total (ascii "recordings") n 32

  abbrev refused : List ℕ
  refused = total (ascii "refused") m 32

  abbrev exercised : List ℕ
  exercised = total (ascii "exercised") x 10

  pub closing_pieces : closing_line n m x ≡ recordings ++ refused ++ exercised
  unfolding closing_line total
  closing_pieces = sym (simp append_assoc)

  -- its pieces together
  pub closing_at_most : n < 2 ^ 64 → m < 2 ^ 64 → x < 2 ^ 64 → length recordings + (length refused + length exercised) ≤ most_closing
  unfolding total
  closing_at_most hn hm hx = simp length-append (omega (arith, length_of_64_bits n hn, length_of_64_bits m hm, length_of_64_bits x hx))
