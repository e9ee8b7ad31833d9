-- The finding that is found at the place of a refusal has its refusal number and place: section by section, as `Refused` has them
-- (recording, specs/Refused).
use mathlib.Core.Path.{◌≡◌, refl, sym, ap, ◌∙◌}
use mathlib.Core.Bool.{false}
use mathlib.Core.List.{List}
use Prim.Native.Nat.{ℕ, suc, ◌+◌, ◌-◌, ◌*◌, ◌/◌, ◌≤◌, ◌<◌}
use native.Mathlib.Omega.{arith}
use borrow.Author.Tests.{lt-ltb, le-ltb, le-leb, lt-leb}
use lib.Dec.{leb}
use lib.ListN.{length}
use Rattle.bits.specs.Numbers.{num_at}
use Rattle.settings.specs.declared.Known.{Known}
use Rattle.settings.specs.Right.{known_of}
use Rattle.layout.specs.declared.Kind.{Kind}
use Rattle.layout.specs.declared.Kind.TheVariants.{Block, Effects, Rows}
use Rattle.layout.specs.Sections.{width_of, count_ok, test_of}
use Rattle.recording.specs.Reader.{nothing_known, known_of_block, settings_at}
use Rattle.recording.specs.Refused.{EntryStops, Stops, Passes, ToRows, Refused}
use Rattle.recording.proofs.Between.{block_room}
use Rattle.recording.proofs.Sections.{passes_inside}
use Rattle.findings.specs.declared.Spot.TheVariants.{Count, Entry}
use Rattle.findings.specs.declared.Finding.{Finding}
use Rattle.findings.specs.Spots.{count_at, after_section, section_at, end_of, entry_at, spot_in, spot_of}
use Rattle.findings.specs.Faults.{fault_at, fault_number, fault_test}
use Rattle.findings.specs.Findings.{finding_in, finding_number, finding_place, finding_test}
use Rattle.findings.proofs.Spots.{in_block, in_effects, in_rows, past}
use Rattle.findings.proofs.Named.{block_named, effect_named, row_named}
use Rattle.findings.proofs.Numbers.{block-number, effect-number, row-number, late_number}

-- a finding says this refusal number and this place, and the test that it names fails
abbrev pub Says : List ℕ → (n p : ℕ) → Finding → Type 0
Says s n p r = (finding_number r ≡ n) × (finding_place s r ≡ p) × (finding_test s r ≡ false)

-- ## One section, at `at`

count_there : (s : List ℕ) (at : ℕ) → at + 2 ≤ length s → count_at s at ≡ num_at 2 s at
count_there s at room = rw (le-leb (at + 2) (length s) room)

pub after_passes : (kind : Kind) (k : Known) (s : List ℕ) (at e : ℕ) → Passes kind k s at e → e ≡ after_section kind s at
after_passes kind k s at e h = h.next ∙ ap (λ (n : ℕ). at + 2 + width_of kind * n) (sym (count_there s at h.room))

-- the entry that a byte stands in: j bytes past the first of entry i, from 0
entry_of : (kind : Kind) (at i j p : ℕ) → j < width_of kind → p ≡ at + 2 + width_of kind * i + j → (p - (at + 2)) / width_of kind + 1 ≡ i + 1
entry_of Block at i j p h e = omega (arith, e)
entry_of Effects at i j p h e = omega (arith, e)
entry_of Rows at i j p h e = omega (arith, e)

entry_bytes : (kind : Kind) (i n : ℕ) → i < n → width_of kind * i + width_of kind ≤ width_of kind * n
entry_bytes Block i n l = omega arith
entry_bytes Effects i n l = omega arith
entry_bytes Rows i n l = omega arith

some_bytes : (kind : Kind) → 0 < width_of kind
some_bytes Block = omega arith
some_bytes Effects = omega arith
some_bytes Rows = omega arith

module _ (kind : Kind) (s : List ℕ) (at : ℕ) (at-is : at ≡ section_at kind s) (here : (p : ℕ) → at ≤ p → p < after_section kind s at → spot_of s p ≡ spot_in kind at p) where
  abbrev w : ℕ
  w = width_of kind

  abbrev found : ℕ → Finding
  found p = finding_in (spot_of s p) s p

  in_count : (p : ℕ) → at ≤ p → p < at + 2 → spot_of s p ≡ Count kind
  in_count p g l = here p g (omega (arith, l)) ∙ rw (lt-ltb p (at + 2) l)

  pub in_entry : (i j p : ℕ) → at + 2 ≤ length s → i < num_at 2 s at → j < w → p ≡ at + 2 + w * i + j → spot_of s p ≡ Entry kind (i + 1)
  in_entry i j p room c h e =
      let last : p < after_section kind s at = omega (arith, e, h, entry_bytes kind i (num_at 2 s at) c, ap (λ (n : ℕ). w * n) (count_there s at room)) in
      let past-count : spot_in kind at p ≡ Entry kind ((p - (at + 2)) / w + 1) = rw (le-ltb p (at + 2) (omega (arith, e))) in
      here p (omega (arith, e)) last ∙ past-count ∙ ap (Entry kind) (entry_of kind at i j p h e)

  first_byte : (i : ℕ) → entry_at kind s (i + 1) ≡ at + 2 + w * i
  first_byte i = let before : i + 1 - 1 ≡ i = omega arith in λ j. sym at-is j + 2 + w * before j

  -- a whole entry, whose named test fails
  pub wrong_entry : (i : ℕ) → at + 2 ≤ length s → i < num_at 2 s at → at + 2 + w * i + w ≤ length s
      → let p = at + 2 + w * i in fault_test s p (fault_at kind s p) ≡ false → Says s (fault_number (fault_at kind s p)) p (found p)
  unfolding finding_in
  wrong_entry i room c l f =
      let p = at + 2 + w * i in
      let z : p ≡ at + 2 + w * i + 0 = omega arith in
      rw (in_entry i 0 p room c (some_bytes kind) z, le-leb (p + w) (length s) l) (refl, first_byte i, ap (λ (q : ℕ). fault_test s q (fault_at kind s p)) (first_byte i) ∙ f)

  -- of a section whose entries are tested so: the refusal number of their faults, and that these are there
  pub record Tested (k : Known) : Type 0 where
    pub number : (p m : ℕ) → test_of kind k s p ≡ suc m → fault_number (fault_at kind s p) ≡ suc m
    pub named : (p m : ℕ) → test_of kind k s p ≡ suc m → fault_test s p (fault_at kind s p) ≡ false

  module _ (k : Known) (tested : Tested k) where
    in-entries : (n p : ℕ) → at + 2 ≤ length s → EntryStops (test_of kind k s) w (length s) (num_at 2 s at) (at + 2) n p → Says s n p (found p)
    unfolding finding_in
    in-entries n p room (EntryStops.short i c h l) =
        let spot = in_entry i (length s - (at + 2 + w * i)) (length s) room c (omega (arith, h.there, l)) (omega (arith, h.there)) in
        let ends : leb (entry_at kind s (i + 1) + w) (length s) ≡ false = lt-leb (entry_at kind s (i + 1) + w) (length s) (omega (arith, first_byte i, l)) in
        rw (spot, lt-leb (length s + w) (length s) (omega (arith, some_bytes kind))) (refl, refl, ends)
    in-entries n p room (EntryStops.wrong i m c h l t) =
        let says = wrong_entry i room c l (tested.named (at + 2 + w * i) m t) in
        (says.0 ∙ tested.number (at + 2 + w * i) m t, says.1, says.2)

    pub in-section : (n p : ℕ) → at ≤ length s → Stops kind k s at n p → Says s n p (found p)
    unfolding finding_in
    in-section n p inside (Stops.short h) =
        let ends : leb (section_at kind s + 2) (length s) ≡ false = lt-leb (section_at kind s + 2) (length s) (omega (arith, at-is, h)) in
        rw (in_count (length s) inside h, lt-leb (length s + 2) (length s) (omega arith)) (refl, refl, ends)
    in-section n p inside (Stops.wrong h c) =
        let wrong = ap (λ (q : ℕ). count_ok kind (num_at 2 s q)) (sym at-is) ∙ c in
        rw (in_count at (omega arith) (omega arith), le-leb (at + 2) (length s) h) (refl, sym at-is, wrong)
    in-section n p inside (Stops.entries n' p' h c e) = in-entries n' p' h e

-- ## The three sections

module _ (s : List ℕ) where
  block_stops : (n p : ℕ) → Stops Block nothing_known s 0 n p → Says s n p (finding_in (spot_of s p) s p)
  block_stops n p = in-section Block s 0 refl (λ q g l. in_block s q (section_at Effects s) refl l) nothing_known (record { number = λ q m. block-number s q m nothing_known; named = λ q m. block_named s q m nothing_known }) n p (omega arith)

  module _ (e : ℕ) (b : Passes Block nothing_known s 0 e) where
    e-is : e ≡ section_at Effects s
    e-is = after_passes Block nothing_known s 0 e b

    effects_stop : (n p : ℕ) → Stops Effects (known_of_block s) s e n p → Says s n p (finding_in (spot_of s p) s p)
    effects_stop n p =
        in-section Effects s e e-is (λ q g l. in_effects s q e e-is (after_section Effects s e) refl g l) (known_of_block s) (record { number = λ q m. effect-number s q m (known_of_block s) refl; named = λ q m. effect_named s q m (known_of_block s) refl }) n p (passes_inside Block nothing_known s 0 e b)

  module _ (e r : ℕ) (t : ToRows s e r) where
    e_there : e ≡ section_at Effects s
    e_there = e-is e t.block

    r_after : r ≡ after_section Effects s e
    r_after = after_passes Effects (known_of_block s) s e r t.effects

    r-is : r ≡ section_at Rows s
    r-is = r_after ∙ ap (after_section Effects s) e_there

    after-e : (q : ℕ) → r ≤ q → e ≤ q
    after-e q g = omega (arith, g, t.effects.next)

    rows_here : (p : ℕ) → r ≤ p → p < after_section Rows s r → spot_of s p ≡ spot_in Rows r p
    rows_here p g l = in_rows s p e e_there r r_after (after-e p g) (after_section Rows s r) refl g l

    same_known : known_of (settings_at s e) ≡ known_of (settings_at s 6)
    same_known = ap (λ (x : ℕ). known_of (settings_at s x)) (block_room s e t.block).0

    rows_numbered : (p m : ℕ) → test_of Rows (known_of (settings_at s e)) s p ≡ suc m → fault_number (fault_at Rows s p) ≡ suc m
    rows_numbered p m h = row-number s p m (ap (λ (k : Known). test_of Rows k s p) (sym same_known) ∙ h)

    rows-stop : (n p : ℕ) → Stops Rows (known_of (settings_at s e)) s r n p → Says s n p (finding_in (spot_of s p) s p)
    rows-stop n p = in-section Rows s r r-is rows_here (known_of (settings_at s e)) (record { number = rows_numbered; named = λ q m h. row_named s q }) n p (passes_inside Effects (known_of_block s) s e r t.effects)

    -- a row of a file whose rows all pass is wrong only in that it ends too late
    pub late_row : (end : ℕ) → Passes Rows (known_of (settings_at s e)) s r end → (i : ℕ) → i < num_at 2 s r
        → let p = r + 2 + width_of Rows * i in Says s 9 p (finding_in (spot_of s p) s p)
    late_row end h i c =
        let p = r + 2 + width_of Rows * i in
        let says = wrong_entry Rows s r r-is rows_here i h.room c (omega (arith, h.entries.there, c)) (row_named s p) in
        let right = ap (λ (k : Known). test_of Rows k s p) (sym same_known) ∙ h.entries.right i c in
        (says.0 ∙ late_number s p right, says.1, says.2)

    spare_bytes : (end : ℕ) → Passes Rows (known_of (settings_at s e)) s r end → end < length s → Says s 7 end (finding_in (spot_of s end) s end)
    unfolding finding_in
    spare_bytes end h more =
        let end_is = after_passes Rows (known_of (settings_at s e)) s r end h in
        let beyond : r ≤ end = omega (arith, h.next) in
        let last : end_of s ≡ end = sym (end_is ∙ ap (after_section Rows s) r-is) in
        rw (past s end e e_there r r_after (after-e end beyond) end end_is beyond (omega arith)) (refl, last, lt-leb (length s) (end_of s) (rw last more))

  -- ## A file

  pub refused_says : (n p : ℕ) → Refused s n p → Says s n p (finding_in (spot_of s p) s p)
  refused_says n p (Refused.in_block n' p' h) = block_stops n' p' h
  refused_says n p (Refused.in_effects n' p' e b h) = effects_stop e b n' p' h
  refused_says n p (Refused.in_rows n' p' e r t h) = rows-stop e r t n' p' h
  refused_says n p (Refused.spare e r end t h) = spare_bytes e r t.before end t.rows h
