-- Records laid one after the other, and read back.
use mathlib.Core.Path.{◌≡◌, refl, ap, sym, subst, ◌∙◌}
use mathlib.Core.Bool.{Bool, true, false}
use mathlib.Core.List.{List, [], ◌∷◌, ◌++◌, flat_map, append_assoc}
use Prim.Native.Nat.{ℕ, zero, suc, ◌+◌, ◌*◌, ◌≤◌, ◌<◌}
use native.Mathlib.Nat.{zero-add, add-zero, le_of_suc-le-suc, not-suc-le-zero}
use native.Mathlib.Numerals.{add-one}
use native.Mathlib.Omega.{arith}
use lib.ListN.{length, take, drop, get_or, length-take, take-append-drop}
use lib.Seq.{sets, sets-eq, take_at, drop_at, drop-drop, drop-cons}
use Rattle.bits.specs.Words.{one}
use Rattle.bits.specs.Numbers.{num_at}
use Rattle.bits.proofs.Lists.{flat_map-append, length-flat_map}
use Rattle.bits.proofs.Numbers.{fields_spelled}
use Rattle.rules.specs.Rules.{code}
use Rattle.rules.proofs.States.{code_injective}
use Rattle.rules.specs.declared.EffectState.{EffectState}
use Rattle.rules.specs.declared.EffectState.TheVariants.{Tripped}
use Rattle.effects.specs.declared.Event.{Event}
use Rattle.effects.specs.Records.{record_length, record_layout, encode, bytes, StandsAt, StandFrom, Numbered}
use Rattle.effects.specs.Scan.{only}

pub length-encode : (e : Event) → length (encode e) ≡ record_length
unfolding encode
length-encode e = refl

pub length-bytes : (es : List Event) → length (bytes es) ≡ record_length * length es
length-bytes = length-flat_map encode record_length length-encode

pub bytes_append : (us vs : List Event) → bytes (us ++ vs) ≡ bytes us ++ bytes vs
bytes_append = flat_map-append encode

pub length-only : (m : Bool) (e : Event) (rest : List Event) → length (only m e ++ rest) ≡ one m + length rest
length-only true e rest = omega arith
length-only false e rest = omega arith

-- after a write of records to the front of a buffer, its front is these records
pub front_bytes : (es : List Event) (l : List ℕ) → record_length * length es ≤ length l → take (record_length * length es) (sets l 0 (bytes es)) ≡ bytes es
front_bytes es l h =
    rw (sets-eq (bytes es) l 0 (omega (arith, length-bytes es))) (take_at (bytes es) (drop (0 + length (bytes es)) l) (record_length * length es) (length-bytes es))

-- ## Records that are read back

-- what stands in a record, field by field
pub record Fields (s : List ℕ) (at : ℕ) (e : Event) : Type 0 where
  pub seq : num_at 2 s at ≡ e.seq
  pub scan : num_at 4 s (at + 2) ≡ e.scan
  pub effect : num_at 1 s (at + 6) ≡ e.effect
  pub from : num_at 1 s (at + 7) ≡ code e.from
  pub to : num_at 1 s (at + 8) ≡ code e.to
  pub first-out : num_at 2 s (at + 10) ≡ e.first_out

fields_encoded : (e : Event) (p q : List ℕ) (at : ℕ) → at ≡ length p → Fields (p ++ (encode e ++ q)) at e
unfolding encode
fields_encoded e p q at h =
    let vs = e.seq ∷ e.scan ∷ e.effect ∷ code e.from ∷ code e.to ∷ 0 ∷ e.first_out ∷ [] in
    let f =
    fields_spelled record_layout vs p q at 0 (omega arith)
    ((λ z. omega arith), ((λ z. omega arith), ((λ z. omega arith), ((λ z. omega arith), ((λ z. omega arith), ((λ z. refl), ((λ z. omega arith), tt)))))))
    in
    record {
      seq = rw add-zero at (ap (λ (l : List ℕ). get_or l 0 0) f);
      scan = ap (λ (l : List ℕ). get_or l 1 0) f;
      effect = ap (λ (l : List ℕ). get_or l 2 0) f;
      from = ap (λ (l : List ℕ). get_or l 3 0) f;
      to = ap (λ (l : List ℕ). get_or l 4 0) f;
      first-out = ap (λ (l : List ℕ). get_or l 6 0) f;
    }

pub fields-of : (s : List ℕ) (at : ℕ) (e : Event) → StandsAt s at e → Fields s at e
fields-of s at e h =
    let rest = drop record_length (drop at s) in
    let here : drop at s ≡ encode e ++ rest = sym (take-append-drop record_length (drop at s)) ∙ ap (λ (l : List ℕ). l ++ rest) h.1 in
    let whole : s ≡ take at s ++ (encode e ++ rest) = sym (take-append-drop at s) ∙ ap (λ (l : List ℕ). take at s ++ l) here in
    let n : at ≡ length (take at s) = simp length-take (omega arith) in
    subst (λ (l : List ℕ). Fields l at e) (sym whole) (fields_encoded e (take at s) rest at n)

abbrev made : (seq scan effect : ℕ) → (from to : EffectState) → (first : ℕ) → Event
made a b c p q f = record { seq = a; scan = b; effect = c; from = p; to = q; first_out = f }

same-made : (a b c a' b' c' : ℕ) (p q p' q' : EffectState) (f f' : ℕ) → a ≡ a' → b ≡ b' → c ≡ c' → p ≡ p' → q ≡ q' → f ≡ f' → made a b c p q f ≡ made a' b' c' p' q' f'
same-made a b c a' b' c' p q p' q' f f' h₁ h₂ h₃ h₄ h₅ h₆ = rw (h₁, h₂, h₃, h₄, h₅, h₆)

-- two events whose fields are equal are equal
pub same_event : (r e : Event) → r.seq ≡ e.seq → r.scan ≡ e.scan → r.effect ≡ e.effect → code r.from ≡ code e.from
    → code r.to ≡ code e.to → r.first_out ≡ e.first_out → r ≡ e
same_event r e a b c p q f =
    same-made r.seq r.scan r.effect e.seq e.scan e.effect r.from r.to e.from e.to r.first_out e.first_out a b c (code_injective r.from e.from p) (code_injective r.to e.to q) f

-- an event with the fields of the record at a place is the event of that record
pub read_as : (s : List ℕ) (at : ℕ) (e r : Event) → StandsAt s at e → r.seq ≡ num_at 2 s at → r.scan ≡ num_at 4 s (at + 2) → r.effect ≡ num_at 1 s (at + 6)
    → code r.from ≡ num_at 1 s (at + 7) → code r.to ≡ num_at 1 s (at + 8) → r.first_out ≡ num_at 2 s (at + 10) → StandsAt s at r
read_as s at e r h a b c p q f =
    let x = fields-of s at e h in
    rw (same_event r e (a ∙ x.seq) (b ∙ x.scan) (c ∙ x.effect) (p ∙ x.from) (q ∙ x.to) (f ∙ x.first-out)) h

-- at most one event has its record at a place
pub one_event : (s : List ℕ) (at : ℕ) (r e : Event) → StandsAt s at r → StandsAt s at e → r ≡ e
one_event s at r e h k =
    let x = fields-of s at r h in
    let y = fields-of s at e k in
    same_event r e (sym x.seq ∙ y.seq) (sym x.scan ∙ y.scan) (sym x.effect ∙ y.effect) (sym x.from ∙ y.from) (sym x.to ∙ y.to) (sym x.first-out ∙ y.first-out)

-- records that stand one after the other: the first record, and the rest
module _ (s : List ℕ) (at : ℕ) (e : Event) (es : List Event) (h : StandFrom s at (e ∷ es)) where
  split-first : drop at s ≡ encode e ++ (bytes es ++ drop (record_length * length (e ∷ es)) (drop at s))
  unfolding flat_map
  split-first =
      let n = record_length * length (e ∷ es) in
      sym (take-append-drop n (drop at s)) ∙ ap (λ (l : List ℕ). l ++ drop n (drop at s)) h.1 ∙ append_assoc (encode e) (bytes es) (drop n (drop at s))

  pub stand_first : StandsAt s at e
  stand_first = (omega (arith, h.0), ap (take record_length) split-first ∙ take_at (encode e) _ record_length (length-encode e))

  pub stand_rest : StandFrom s (at + record_length) es
  stand_rest = (
    omega (arith, h.0),
    ap (take (record_length * length es)) (sym (drop-drop record_length at s) ∙ ap (drop record_length) split-first ∙ drop_at (encode e) _ record_length (length-encode e))
        ∙ take_at (bytes es) _ (record_length * length es) (length-bytes es),
  )

-- of records that stand one after the other, record i stands i records further on
pub stand_nth : (s : List ℕ) (at : ℕ) (es : List Event) → StandFrom s at es → (i : ℕ) (d : Event) → i < length es → StandsAt s (at + record_length * i) (get_or es i d)
stand_nth s at [] h i d l = absurd (omega arith)
stand_nth s at (e ∷ es) h zero d l = rw add-zero (stand_first s at e es h)
stand_nth s at (e ∷ es) h (suc i) d l =
    let place : at + record_length * suc i ≡ at + record_length + record_length * i = omega arith in
    rw place (stand_nth s (at + record_length) es (stand_rest s at e es h) i d (omega arith))

-- ## A loop over records

-- no event: what `get_or` gives past the end
abbrev pub no_event : Event
no_event = record { seq = 0; scan = 0; effect = 0; from = Tripped; to = Tripped; first_out = 0 }

-- of the events that are left from number i on, the first
pub left_first : (es : List Event) (i : ℕ) → i < length es → drop i es ≡ get_or es i no_event ∷ drop (i + 1) es
left_first es i more = rw (add-one, drop-cons es i no_event)

-- its record stands i records from the front
pub nth : (records : List ℕ) (es : List Event) (n i : ℕ) → length es ≡ n → StandFrom records 0 es → i < n → StandsAt records (record_length * i) (get_or es i no_event)
nth records es n i e h l = rw zero-add at (stand_nth records 0 es h i no_event (omega (arith, e)))

-- ## Events of effects

-- each of them has its number
pub numbered_at : (n : ℕ) (es : List Event) (i : ℕ) (d : Event) → Numbered n es → i < length es → (1 ≤ (get_or es i d).effect) × ((get_or es i d).effect ≤ n)
numbered_at n [] i d h l = absurd (not-suc-le-zero l)
numbered_at n (e ∷ es) zero d h l = (h.0, h.1)
numbered_at n (e ∷ es) (suc i) d h l = numbered_at n es i d h.2 (le_of_suc-le-suc l)
