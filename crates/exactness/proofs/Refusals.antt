-- The reader refuses exactly as `Refused` says of the bytes. This is shown entry by entry, and section by section.
use mathlib.Core.Path.{◌≡◌, refl, sym, ap, ◌∙◌}
use mathlib.Core.Bool.{Bool, true, false, not, ◌&&◌, ◌||◌}
use mathlib.Core.List.{List}
use mathlib.Core.Logic.{◌⊎◌, inl, inr}
use Prim.Native.Nat.{ℕ, zero, suc, ◌+◌, ◌-◌, ◌*◌, ◌≤◌, ◌<◌}
use native.Mathlib.Nat.{mul-suc, mul-zero}
use native.Mathlib.Omega.{arith}
use borrow.Author.Tests.{leb-true, leb-false}
use lib.Dec.{leb}
use lib.ListN.{length}
use Rattle.bits.specs.Numbers.{num_at}
use Rattle.settings.specs.declared.Row.{Row}
use Rattle.settings.specs.declared.Known.{Known}
use Rattle.settings.specs.Refusals.{unless, or_else}
use Rattle.rules.specs.Limits.{most_hold}
use Rattle.settings.specs.Right.{known_of, block_ok, effect_ok, hold_number, words_ok, fields_number, apart, apart_number, several, several_number, words_number, row_number}
use Rattle.bits.specs.Words.{bit_of}
use Rattle.layout.specs.Section.{Section}
use Rattle.layout.specs.Section as S
use Rattle.recording.specs.Answer as A
use Rattle.recording.specs.Answer.{Reading}
use Rattle.layout.specs.declared.Kind.{Kind}
use Rattle.layout.specs.declared.Kind.TheVariants.{Block, Effects, Rows}
use Rattle.layout.specs.Entries.{block_at, effect_at, row_at}
use Rattle.layout.specs.Sections.{entries, section, width_of, number_of, count_ok, test_of, section_of}
use Rattle.recording.specs.Answers.{section_number, section_place}
use Rattle.recording.specs.Reader.{nothing_known, known_of_block, settings_at, refusal, reading}
use Rattle.recording.specs.Refused.{FirstRight, EntryStops, Stops, ToEnd, Refused}
use Rattle.recording.proofs.Between.{read-block, read_effects, read-rows, left_over}
use Rattle.recording.proofs.Cases.{reading_cases, acceptance, not_accepted}
use Rattle.layout.proofs.Skipped.{entries_step}
use Rattle.recording.proofs.Sections.{entries_short, entries_bad, none_yet, one_before, section_short, section_count, section_entries, passes_inside}
use Rattle.exactness.proofs.Sections.{first_of, rest_of, block_pass, effects_pass, rows_pass}

-- ## Entries

module _ (test : ℕ → ℕ) (w len : ℕ) where
  -- entries that stop still stop behind one more valid entry
  shift : (n at k p : ℕ) → test at ≡ 0 → EntryStops test w len n (at + w) k p → EntryStops test w len (suc n) at k p
  shift n at k p r (EntryStops.short i c h l) = EntryStops.short (suc i) (omega (arith, c)) (one_before test w len at i r h) (omega (arith, mul-suc w i, l))
  shift n at k p r (EntryStops.wrong i m c h l t) =
      let e : at + w + w * i ≡ at + w * suc i = omega (arith, mul-suc w i) in
      rw e (EntryStops.wrong (suc i) m (omega (arith, c)) (one_before test w len at i r h) (omega (arith, e, l)) (rw (← e) t))

  abbrev Stopped : (n at k p : ℕ) → Type 0
  Stopped n at k p = entries test w len n at ≡ S.Refused k p → EntryStops test w len n at k p

  here : (n at k p : ℕ) → at ≤ len → (at + w ≤ len → Stopped n (at + w) k p) → (b : Bool) → leb (at + w) len ≡ b → (m : ℕ) → test at ≡ m → Stopped (suc n) at k p
  here n at k p h ih false q m t eq =
      let same : S.Refused 1 len ≡ S.Refused k p = rw q at eq in
      let e₁ : 1 ≡ k = cc in
      let e₂ : len ≡ p = cc in
      let past : len < at + w * 0 + w = omega (arith, mul-zero w, leb-false (at + w) len q) in
      rw (← e₁, ← e₂) (EntryStops.short 0 (omega arith) (none_yet test w len at h) past)
  here n at k p h ih true q zero t eq = shift n at k p t (ih (leb-true (at + w) len q) (rw (q, t) at eq))
  here n at k p h ih true q (suc m) t eq =
      let same : S.Refused (suc m) at ≡ S.Refused k p = rw (q, t) at eq in
      let e₁ : suc m ≡ k = cc in
      let e₂ : at ≡ p = cc in
      let z : at + w * 0 ≡ at = omega (arith, mul-zero w) in
      let fits : at + w * 0 + w ≤ len = omega (arith, z, leb-true (at + w) len q) in
      let some : 0 < suc n = omega arith in
      rw (← e₁, ← e₂) (rw z at (EntryStops.wrong 0 m some (none_yet test w len at h) fits (rw z t)))

  entries_stop : (n at k p : ℕ) → at ≤ len → Stopped n at k p
  entries_stop zero at k p h eq = let z : ◌≡◌ {A = ℕ} 0 1 = cc in absurd (omega arith)
  entries_stop (suc n) at k p h eq = here n at k p h (λ l. entries_stop n (at + w) k p l) (leb (at + w) len) refl (test at) refl eq

  -- the entries before i are passed over
  skip : (i n at : ℕ) → i < n → FirstRight test w len at i → entries test w len n at ≡ entries test w len (n - i) (at + w * i)
  skip zero n at c h = let e₁ : n - 0 ≡ n = omega arith in let e₂ : at + w * 0 ≡ at = omega (arith, mul-zero w) in rw (e₁, e₂)
  skip (suc i) n at c h =
      let e₁ : n - 1 - i ≡ n - suc i = omega arith in
      let e₂ : at + w + w * i ≡ at + w * suc i = omega (arith, mul-suc w i) in
      let room : at + w ≤ len = omega (arith, e₂, h.there) in
      entries_step test w len n at 0 (omega arith) room (sym (first_of test w len at i h)) refl
      ∙ skip i (n - 1) (at + w) (omega arith) (rest_of test w len at i h) ∙ rw (e₁, e₂)

  stops_entries : (n at k p : ℕ) → EntryStops test w len n at k p → entries test w len n at ≡ S.Refused k p
  stops_entries n at k p (EntryStops.short i c h l) = skip i n at c h ∙ entries_short test w len (n - i) (at + w * i) (omega arith) l
  stops_entries n at k p (EntryStops.wrong i m c h l t) =
      skip i n at c h ∙ entries_bad test w len (n - i) (at + w * i) (suc m) (omega arith) l (sym t) (λ e. omega (arith, e))

-- ## Sections

module _ (kind : Kind) (k : Known) (s : List ℕ) (at : ℕ) where
  in-section : (n p : ℕ) (b : Bool) → leb (at + 2) (length s) ≡ b → (d : Bool) → count_ok kind (num_at 2 s at) ≡ d → section_of kind k s at ≡ S.Refused n p → Stops kind k s at n p
  unfolding section
  in-section n p false q d r eq =
      let same : S.Refused 1 (length s) ≡ S.Refused n p = rw q at eq in
      let e₁ : 1 ≡ n = cc in
      let e₂ : length s ≡ p = cc in
      rw (← e₁, ← e₂) (Stops.short (leb-false (at + 2) (length s) q))
  in-section n p true q false r eq =
      let same : S.Refused (number_of kind) at ≡ S.Refused n p = rw (q, r) at eq in
      let e₁ : number_of kind ≡ n = cc in
      let e₂ : at ≡ p = cc in
      rw (← e₁, ← e₂) (Stops.wrong (leb-true (at + 2) (length s) q) r)
  in-section n p true q true r eq =
      let room = leb-true (at + 2) (length s) q in
      Stops.entries n p room r (entries_stop (test_of kind k s) (width_of kind) (length s) (num_at 2 s at) (at + 2) n p room (rw (q, r) at eq))

  -- a section that refuses stops as `Stops` says
  pub refuses_stops : (n p : ℕ) → section_of kind k s at ≡ S.Refused n p → Stops kind k s at n p
  refuses_stops n p = in-section n p (leb (at + 2) (length s)) refl (count_ok kind (num_at 2 s at)) refl

  said_of : (x : Section) → section_of kind k s at ≡ x → (section_number x ≡ 0 → ⊥) → Stops kind k s at (section_number x) (section_place x)
  said_of (S.Next e) q h = absurd (h refl)
  said_of (S.Refused n p) q h = refuses_stops n p q

  pub section_said : let x = section_of kind k s at in (section_number x ≡ 0 → ⊥) → Stops kind k s at (section_number x) (section_place x)
  section_said = said_of (section_of kind k s at) refl

  -- a section that stops as `Stops` says refuses
  pub stops_refuses : (n p : ℕ) → Stops kind k s at n p → section_of kind k s at ≡ S.Refused n p
  stops_refuses n p (Stops.short h) = section_short _ _ _ _ _ s at h
  stops_refuses n p (Stops.wrong h c) = section_count _ _ _ _ _ s at (num_at 2 s at) h refl c
  stops_refuses n p (Stops.entries n' p' h c e) =
      section_entries _ _ _ _ _ s at (num_at 2 s at) h refl c ∙ stops_entries (test_of kind k s) (width_of kind) (length s) (num_at 2 s at) (at + 2) n' p' e

-- ## Which refusal numbers

-- 0, or one of the refusal numbers 2 to 6
abbrev InRange : ℕ → Type 0
InRange n = (n ≡ 0) ⊎ ((2 ≤ n) × (n ≤ 6))

unless_range : (b : Bool) (n : ℕ) → 2 ≤ n → n ≤ 6 → InRange (unless b n)
unless_range true n lo hi = inl refl
unless_range false n lo hi = inr (lo, hi)

or_else_range : (a b : ℕ) → InRange a → InRange b → InRange (or_else a b)
or_else_range zero b h g = g
or_else_range (suc a) b h g = h

row_range : (k : Known) (r : Row) → InRange (row_number k r)
unfolding row_number words_number
row_range k r =
    let w = r.words in
    let hold = unless_range (leb 1 r.hold && leb r.hold most_hold) 4 (omega arith) (omega arith) in
    let fields = unless_range (words_ok k w) 4 (omega arith) (omega arith) in
    let both = unless_range (apart w) 5 (omega arith) (omega arith) in
    let many = unless_range (bit_of k.options 2 || not (several w)) 6 (omega arith) (omega arith) in
    or_else_range (hold_number r.hold) (words_number k w) hold
    (or_else_range (fields_number k w) (or_else (apart_number w) (several_number k w)) fields (or_else_range (apart_number w) (several_number k w) both many))

test_range : (kind : Kind) (k : Known) (s : List ℕ) (at : ℕ) → InRange (test_of kind k s at)
test_range Block k s at = let b = block_at s at in unless_range (block_ok b.causes b.options b.period) 2 (omega arith) (omega arith)
test_range Effects k s at = unless_range (effect_ok k.causes (effect_at s at)) 3 (omega arith) (omega arith)
test_range Rows k s at = row_range k (row_at (width_of Rows) s at)

number_range : (kind : Kind) → (2 ≤ number_of kind) × (number_of kind ≤ 6)
number_range Block = (omega arith, omega arith)
number_range Effects = (omega arith, omega arith)
number_range Rows = (omega arith, omega arith)

-- a section gives refusal number 1 at the file's length, or one of 2 to 6
abbrev pub Given : List ℕ → (n p : ℕ) → Type 0
Given s n p = ((n ≡ 1) × (p ≡ length s)) ⊎ ((2 ≤ n) × (n ≤ 6))

not-zero : (n k : ℕ) → InRange n → n ≡ suc k → (2 ≤ suc k) × (suc k ≤ 6)
not-zero n k (inl z) e = absurd (omega (arith, z, e))
not-zero n k (inr h) e = (omega (arith, h.0, e), omega (arith, h.1, e))

module _ (kind : Kind) (k : Known) (s : List ℕ) (at : ℕ) where
  entry_gives : (n p : ℕ) → EntryStops (test_of kind k s) (width_of kind) (length s) (num_at 2 s at) (at + 2) n p → Given s n p
  entry_gives n p (EntryStops.short i c h l) = inl (refl, refl)
  entry_gives n p (EntryStops.wrong i m c h l t) = inr (not-zero _ m (test_range kind k s (at + 2 + width_of kind * i)) t)

  pub section_gives : (n p : ℕ) → Stops kind k s at n p → Given s n p
  section_gives n p (Stops.short h) = inl (refl, refl)
  section_gives n p (Stops.wrong h c) = inr (number_range kind)
  section_gives n p (Stops.entries n' p' h c e) = entry_gives n' p' e

-- ## Files

-- what holds of each refusal that `Refused` allows, and of an acceptance, holds of the reading
pub said_or_accepted : (s : List ℕ) (P : Reading → Type 0) → ((n p : ℕ) → Refused s n p → P (refusal n p))
    → ((e r : ℕ) → ToEnd s e r (length s) → P (acceptance s e r)) → P (reading s)
said_or_accepted s P refuses accepts =
    reading_cases s P
    (λ k p b. refuses k p (Refused.in_block k p (refuses_stops Block nothing_known s 0 k p b)))
    (λ e k p b f. refuses k p (Refused.in_effects k p e b (refuses_stops Effects (known_of_block s) s e k p f)))
    (λ e r k p t g. refuses k p (Refused.in_rows k p e r t (refuses_stops Rows (known_of (settings_at s e)) s r k p g)))
    (λ e r end t d. refuses 7 end (Refused.spare e r end t (let i = passes_inside Rows (known_of (settings_at s e)) s r end t.rows in omega (arith, i, d))))
    accepts

-- the refusal number and place of a refusal are those that `Refused` says
pub refused_as_said : (s : List ℕ) (n p : ℕ) → reading s ≡ refusal n p → Refused s n p
refused_as_said s n p =
    said_or_accepted s (λ x. x ≡ refusal n p → Refused s n p) (λ k q c h. same k q h c) (λ e r t h. other e r (ap (λ (x : Reading). x.answer) h))
  where
    same : (k q : ℕ) → refusal k q ≡ refusal n p → Refused s k q → Refused s n p
    same k q h c =
        let e : A.Refused k q ≡ A.Refused n p = ap (λ (x : Reading). x.answer) h in
        let e₁ : k ≡ n = cc in
        let e₂ : q ≡ p = cc in
        rw (← e₁, ← e₂) c

    other : {X : Type 0} (e r : ℕ) → (acceptance s e r).answer ≡ A.Refused n p → X
    other e r h = not_accepted n p (num_at 2 s r) (r + 2) (width_of Rows) (sym h)

-- a refusal that `Refused` says is the answer
pub said_is_refused : (s : List ℕ) (n p : ℕ) → Refused s n p → reading s ≡ refusal n p
unfolding reading
said_is_refused s n p (Refused.in_block n' p' h) = rw (stops_refuses Block nothing_known s 0 n' p' h)
said_is_refused s n p (Refused.in_effects n' p' e b h) = read-block s e (block_pass s e b) ∙ rw (stops_refuses Effects (known_of_block s) s e n' p' h)
said_is_refused s n p (Refused.in_rows n' p' e r t h) =
    read_effects s e (block_pass s e t.block) r (effects_pass s e r t.effects) ∙ rw (stops_refuses Rows (known_of (settings_at s e)) s r n' p' h)
said_is_refused s n p (Refused.spare e r end t h) =
    read-rows s e (block_pass s e t.before.block) r (effects_pass s e r t.before.effects) end (rows_pass s e r end t.rows) ∙ sym (left_over s e r end (λ q. omega (arith, q, h)))

-- a file is refused by refusal number 1 at its length, by one of 2 to 6, or by 7
pub file_gives : (s : List ℕ) (n p : ℕ) → Refused s n p → Given s n p ⊎ (n ≡ 7)
file_gives s n p (Refused.in_block n' p' h) = inl (section_gives Block nothing_known s 0 n' p' h)
file_gives s n p (Refused.in_effects n' p' e b h) = inl (section_gives Effects (known_of_block s) s e n' p' h)
file_gives s n p (Refused.in_rows n' p' e r t h) = inl (section_gives Rows (known_of (settings_at s e)) s r n' p' h)
file_gives s n p (Refused.spare e r end t h) = inr refl
