-- How many bytes lines have at most.
use mathlib.Core.List.{List, [], ◌∷◌, flat_map}
use Prim.Native.Nat.{ℕ, ◌+◌, ◌-◌, ◌*◌, ◌^◌, ◌≤◌, ◌<◌}
use native.Mathlib.Omega.{arith}
use lib.Dec.{lit≤}
use lib.ListN.{length, get_or, length-append}
use Rattle.std.specs.Prelude.{Option, None, Some, IfSome}
use Rattle.bits.specs.Numbers.{Bytes}
use Rattle.bits.proofs.Decimal.{length-decimal, length_of_32_bits, length_of_64_bits}
use Rattle.bits.proofs.Numbers.{num_lt}
use Rattle.rules.specs.declared.EffectState.{EffectState}
use Rattle.rules.specs.declared.EffectState.TheVariants.{Tripped, WaitReset, Ready, WaitStart, Normal, Delayed}
use Rattle.effects.specs.declared.Event.{Event}
use Rattle.effects.specs.Records.{record_length, StandsAt, StandFrom}
use Rattle.effects.proofs.Records.{fields-of, stand_first, stand_rest}
use Rattle.reasons.specs.declared.Sight.{Sight}
use Rattle.reasons.specs.Given.{Narrow}
use Rattle.reasons.specs.Reasons.{reason_in}
use Rattle.reasons.proofs.Bounds.{narrow_reason}
use Rattle.wording.specs.Text.{words_of, most_words}
use Rattle.wording.proofs.Room.{words_at_most}
use Rattle.text.specs.Pieces.{further, column_line, column_lines}
use Rattle.text.specs.Text.{name, line_with, last_line, refusal_line}
use Rattle.text.specs.Room.{most_line, most_piece}

pub name_at_most : (p : EffectState) → length (name p) ≤ 10
unfolding name
name_at_most Tripped = lit≤ tt
name_at_most WaitReset = lit≤ tt
name_at_most Ready = lit≤ tt
name_at_most WaitStart = lit≤ tt
name_at_most Normal = lit≤ tt
name_at_most Delayed = lit≤ tt

-- an event whose numbers fit their fields
record InFields (e : Event) : Type 0 where
  pub seq : e.seq < 256 ^ 2
  pub scan : e.scan < 256 ^ 4
  pub effect : e.effect < 256 ^ 1
  pub first_out : e.first_out < 256 ^ 2

plain_at_most : (e : Event) → InFields e → length (line_with e []) ≤ most_line
unfolding line_with
plain_at_most e f =
    let q = length-decimal 4 e.seq (omega (arith, f.seq)) in
    let r = length_of_32_bits e.scan (omega (arith, f.scan)) in
    let t = length-decimal 2 e.effect (omega (arith, f.effect)) in
    let u = length-decimal 4 e.first_out (omega (arith, f.first_out)) in
    simp length-append (omega (arith, name_at_most e.from, name_at_most e.to))

told_at_most : (e : Event) (field : List ℕ) → InFields e → length field ≤ most_words → length (line_with e (field ∷ [])) ≤ most_line
unfolding line_with
told_at_most e field f w =
    let q = length-decimal 4 e.seq (omega (arith, f.seq)) in
    let r = length_of_32_bits e.scan (omega (arith, f.scan)) in
    let t = length-decimal 2 e.effect (omega (arith, f.effect)) in
    let u = length-decimal 4 e.first_out (omega (arith, f.first_out)) in
    simp length-append (omega (arith, name_at_most e.from, name_at_most e.to, w))

-- the words of a record's reason
reason_at_most : (sight : Sight) → Narrow sight → (associations : List ℕ) (e : Event) → length (words_of (reason_in sight associations e)) ≤ most_words
reason_at_most sight narrow associations e =
    let small = narrow_reason sight narrow (get_or associations (e.effect - 1) 0) (e.effect - 1) e.from e.to 0 in
    words_at_most (reason_in sight associations e) small.0 (omega (arith, small.1))

line_at_most : (c : Option Sight) → IfSome c Narrow → (associations : List ℕ) (e : Event) → InFields e → length (column_line c associations e) ≤ most_line
unfolding further
line_at_most None narrow associations e f = plain_at_most e f
line_at_most (Some sight) narrow associations e f = told_at_most e _ f (reason_at_most sight narrow associations e)

module _ (c : Option Sight) (narrow : IfSome c Narrow) (associations : List ℕ) where
  -- the line of a record that stands in a list of bytes has at most `most_line` bytes
  record_at_most : (s : List ℕ) → Bytes s → (at : ℕ) (e : Event) → StandsAt s at e → length (column_line c associations e) ≤ most_line
  record_at_most s b at e h =
      let f = fields-of s at e h in
      line_at_most c narrow associations e
      (record {
        seq = rw f.seq at (num_lt 2 s at b);
        scan = rw f.scan at (num_lt 4 s (at + 2) b);
        effect = rw f.effect at (num_lt 1 s (at + 6) b);
        first_out = rw f.first-out at (num_lt 2 s (at + 10) b);
      })

  pub lines_at_most : (s : List ℕ) → Bytes s → (at : ℕ) (es : List Event) → StandFrom s at es → length (column_lines c associations es) ≤ most_line * length es
  unfolding flat_map
  lines_at_most s b at [] h = omega arith
  lines_at_most s b at (e ∷ es) h =
      omega (arith, length-append (column_line c associations e) (column_lines c associations es), record_at_most s b at e (stand_first s at e es h), lines_at_most s b (at + record_length) es (stand_rest s at e es h))

-- the other lines have at most `most_piece` bytes
pub last_at_most : (r s l x : ℕ) → r < 2 ^ 32 → s < 2 ^ 32 → l < 2 ^ 32 → x < 2 ^ 32 → length (last_line r s l x) ≤ most_piece
unfolding last_line
last_at_most r s l x hr hs hl hx =
    simp length-append (omega (arith, length_of_32_bits r hr, length_of_32_bits s hs, length_of_32_bits l hl, length_of_32_bits x hx))

pub refusal_at_most : (n p : ℕ) → n < 256 → p < 2 ^ 64 → length (refusal_line n p) ≤ most_piece
unfolding refusal_line
refusal_at_most n p hn hp = simp length-append (omega (arith, length-decimal 2 n (omega arith), length_of_64_bits p hp))
