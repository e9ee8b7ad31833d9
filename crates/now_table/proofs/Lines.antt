-- Laws of the table's lines: their fields, how long they are at most, and the lines of all effects.
use mathlib.Core.Path.{◌≡◌, sym, ap, ◌∙◌}
use mathlib.Core.List.{List, ◌++◌, append_assoc}
use Prim.Native.Nat.{ℕ, ◌+◌, ◌^◌, ◌≤◌, ◌<◌}
use native.Mathlib.Numerals.{add-one}
use native.Mathlib.Omega.{arith}
use lib.ListN.{length, get_or, length-append}
use Rattle.bits.specs.Decimal.{ascii, decimal}
use Rattle.bits.proofs.Decimal.{length-decimal}
use Rattle.rules.specs.declared.EffectState.{EffectState}
use Rattle.rules.specs.declared.Slot.{Slot}
use Rattle.rules.specs.Rules.{no_slot}
use Rattle.settings.specs.declared.Settings.{Settings}
use Rattle.reasons.specs.declared.Reason.{Reason}
use Rattle.settings.specs.Signals.{no_effect}
use Rattle.reasons.specs.Given.{Narrow}
use Rattle.reasons.specs.Reasons.{mask, millis}
use Rattle.reasons.proofs.Bounds.{narrow_reason}
use Rattle.wording.specs.Text.{words_of}
use Rattle.wording.proofs.Room.{words_at_most}
use Rattle.text.specs.Text.{name}
use Rattle.text.proofs.Room.{name_at_most}
use Rattle.standing.specs.declared.Standing.{Standing}
use Rattle.standing.specs.Stands.{reason_now}
use Rattle.now_table.specs.Now.{now_line}
use Rattle.now_table.specs.Lines.{most_now_line, standing_lines}

-- ## One line

module _ (n : ℕ) (p : EffectState) (f : ℕ) (r : Reason) where
  abbrev pub number_field : List ℕ
  number_field = decimal n ++ ascii " "

  abbrev pub state_field : List ℕ
  state_field = name p ++ ascii " "

  abbrev pub first_field : List ℕ
  first_field = decimal f ++ ascii " "

  abbrev pub reason_field : List ℕ
  reason_field = words_of r ++ ascii "\n"

  pub fields : now_line n p f r ≡ number_field ++ (state_field ++ (first_field ++ reason_field))
  unfolding now_line
  fields = sym (simp append_assoc)

  pub length_fields : length (now_line n p f r) ≡ length number_field + (length state_field + (length first_field + length reason_field))
  length_fields =
      ap length fields
      ∙ length-append number_field (state_field ++ (first_field ++ reason_field))
      ∙ ap (λ (k : ℕ). length number_field + k) (length-append state_field (first_field ++ reason_field) ∙ ap (λ (k : ℕ). length state_field + k) (length-append first_field reason_field))

  pub line_at_most : n < 100 → f < 2 ^ 16 → mask r < 2 ^ 16 → millis r < 2 ^ 32 → length (now_line n p f r) ≤ most_now_line
  line_at_most hn hf hm ht =
      omega
      (arith, length_fields, length-append (decimal n) (ascii " "), length-append (name p) (ascii " "), length-append (decimal f) (ascii " "), length-append (words_of r) (ascii "\n"), length-decimal 1 n (omega (arith, hn)), name_at_most p, length-decimal 4 f (omega (arith, hf)), words_at_most r hm ht)

-- ## All lines

module _ (st : Settings) (x : Standing) where
  abbrev pub line_at : ℕ → List ℕ
  line_at i = now_line (i + 1) (get_or x.to i no_slot).state (get_or x.to i no_slot).first_out (reason_now st x i)

  pub one_more : (i : ℕ) → standing_lines st x (i + 1) ≡ standing_lines st x i ++ line_at i
  one_more i = ap (standing_lines st x) (add-one i)

  pub length_more : (i : ℕ) → length (standing_lines st x (i + 1)) ≡ length (standing_lines st x i) + length (line_at i)
  length_more i = ap length (one_more i) ∙ length-append (standing_lines st x i) (line_at i)

  pub short : (i : ℕ) → Narrow x.sight → i < 16 → (slot : Slot) → slot ≡ get_or x.to i no_slot → slot.first_out < 2 ^ 16 → slot.timer < 2 ^ 32 → length (line_at i) ≤ most_now_line
  short i narrow few slot is f t =
      let y = get_or x.to i no_slot in
      let first : y.first_out < 2 ^ 16 = rw (sym is) f in
      let timer : y.timer < 2 ^ 32 = rw (sym is) t in
      let small = narrow_reason x.sight narrow (get_or st.effects i no_effect).association i (get_or x.from i no_slot).state y.state y.timer in
      line_at_most (i + 1) y.state y.first_out (reason_now st x i) (omega (arith, few)) first small.0 (omega (arith, small.1, timer))
