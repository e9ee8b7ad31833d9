-- The three kinds of entry are written and read back: each has a fixed layout, and a valid entry's numbers fit their widths.
use mathlib.Core.Path.{◌≡◌, refl, sym, ap, ◌∙◌}
use mathlib.Core.Bool.{true}
use mathlib.Core.List.{List, [], ◌∷◌, ◌++◌}
use Prim.Native.Nat.{ℕ, ◌+◌, ◌^◌, ◌≤◌, ◌<◌}
use native.Mathlib.Nat.{add_assoc, add-zero}
use native.Mathlib.Omega.{arith}
use borrow.Author.Tests.{leb-true, ltb-true}
use lib.Dec.{leb, ltb}
use lib.ListN.{length, get_or, take, drop}
use lib.Pow.{pow_mono}
use Rattle.bits.specs.Layout.{pack}
use Rattle.bits.proofs.Numbers.{total, fields_at, Fit, pack_fields, fields_pack}
use Rattle.settings.specs.declared.Effect.{Effect}
use Rattle.settings.specs.declared.Row.{Row}
use Rattle.settings.specs.declared.Known.{Known}
use Rattle.rules.specs.Limits.{most_delay, most_hold}
use Rattle.settings.specs.Right.{block_ok, effect_ok, effect_number, words_ok, fields_number, apart_number, several_number, words_number, hold_number, row_number}
use Rattle.settings.specs.Refusals.{or_else}
use Rattle.settings.proofs.Refusals.{or_else_none, unless_none}
use Rattle.layout.specs.declared.Kind.TheVariants.{Block, Effects, Rows}
use Rattle.layout.specs.Sections.{width_of}
use Rattle.layout.specs.Entries.{BlockEntry, block_at, block_layout, block_fields, put_block, block_check, effect_at, effect_layout, effect_fields, put_effect, row_at, words_at, row_layout, row_fields, put_row}
use Rattle.bits.proofs.Lists.{and_left, and_right}
use Rattle.layout.proofs.Within.{num_front, row_there}
use Rattle.exactness.proofs.Codec.{Codec}

-- ## Fields at the front of a list

fields_front : (m : ℕ) (ws s : List ℕ) (at off : ℕ) → at + off + total ws ≤ m → fields_at ws (take m s) at off ≡ fields_at ws s at off
fields_front m [] s at off h = refl
fields_front m (w ∷ ws) s at off h = rw (num_front m w s (at + off) (omega arith), fields_front m ws s at (off + w) (omega arith))

-- ## Any layout

-- an entry of fixed layout is a codec
module _ {A : Type 0} (ws : List ℕ) (fields : A → List ℕ) (of : List ℕ → A) (get : List ℕ → ℕ → A) (check : A → ℕ) where
  of_layout : ((a : A) → length (pack ws (fields a)) ≡ total ws) → ((a : A) → of (fields a) ≡ a)
      → ((s : List ℕ) (at : ℕ) → fields (get s at) ≡ fields_at ws s at 0)
      → ((a : A) → check a ≡ 0 → Fit ws (fields a)) → Codec A (total ws) get (λ a. pack ws (fields a)) check
  of_layout long back are fit =
      record {
        width = long;
        put-get = λ s at b h.
            ap (pack ws) (are s at) ∙ pack_fields ws s at 0 b (omega arith) ∙ ap (λ (k : ℕ). take (total ws) (drop k s)) (add-zero at);
        get-put = λ a p q h.
            let s = p ++ (pack ws (fields a) ++ q) in
            sym (back (get s (length p))) ∙ ap of (are s (length p) ∙ fields_pack ws (fields a) p q (length p) 0 (add-zero (length p)) (fit a h)) ∙ back a;
      }

-- an entry of fixed layout is read from its own bytes alone
module _ {A : Type 0} (ws : List ℕ) (fields : A → List ℕ) (of : List ℕ → A) (get : List ℕ → ℕ → A)
    (back : (a : A) → of (fields a) ≡ a) (are : (s : List ℕ) (at : ℕ) → fields (get s at) ≡ fields_at ws s at 0) where
  layout_front : (m : ℕ) (s : List ℕ) (at : ℕ) → at + total ws ≤ m → get (take m s) at ≡ get s at
  layout_front m s at h =
      sym (back (get (take m s) at))
      ∙ ap of (are (take m s) at ∙ fields_front m ws s at 0 (omega arith) ∙ sym (are s at))
      ∙ back (get s at)

-- what holds of the counts once the sections before an entry are valid
pub record Checked (k : Known) : Type 0 where
  pub causes : k.causes ≤ 16
  pub count : k.count ≤ 16

word_fits : (n w : ℕ) → n ≤ 16 → ltb w (2 ^ n) ≡ true → w < 65536
word_fits n w h t = omega (arith, ltb-true w (2 ^ n) t, pow_mono h)

-- ## The block

of_block : List ℕ → BlockEntry
of_block vs = record { causes = get_or vs 0 0; options = get_or vs 1 0; period = get_or vs 2 0 }

pub block_causes : (b : BlockEntry) → block_check b ≡ 0 → b.causes ≤ 16
block_causes b h =
    let ok : block_ok b.causes b.options b.period ≡ true = unless_none _ 1 h in
    leb-true b.causes 16 (search (and_left, and_right))

block_fit : (b : BlockEntry) → block_check b ≡ 0 → Fit block_layout (block_fields b)
block_fit b h =
    let ok : block_ok b.causes b.options b.period ≡ true = unless_none _ 1 h in
    let o = ltb-true b.options 8 (search (and_left, and_right)) in
    let p = leb-true b.period 1000 (search (and_left, and_right)) in
    (omega (arith, block_causes b h), (omega (arith, o), (omega (arith, p), tt)))

pub block_front : (m : ℕ) (s : List ℕ) (at : ℕ) → at + width_of Block ≤ m → block_at (take m s) at ≡ block_at s at
unfolding of_block
block_front = layout_front block_layout block_fields of_block block_at (λ a. refl) (λ s at. rw (add-zero at))

pub block_codec : Codec BlockEntry (width_of Block) block_at put_block block_check
unfolding of_block put_block
block_codec = of_layout block_layout block_fields of_block block_at block_check (λ a. refl) (λ a. refl) (λ s at. rw (add-zero at)) block_fit

-- ## An effect

of_effect : List ℕ → Effect
of_effect vs = record { association = get_or vs 0 0; delay = get_or vs 1 0 }

effect_fit : (causes : ℕ) → causes ≤ 16 → (e : Effect) → effect_number causes e ≡ 0 → Fit effect_layout (effect_fields e)
effect_fit causes checked e h =
    let ok : effect_ok causes e ≡ true = unless_none _ 2 h in
    let a = word_fits causes e.association checked (search (and_left, and_right)) in
    let d = leb-true e.delay most_delay (search (and_left, and_right)) in
    (a, (omega (arith, d), tt))

pub effect_front : (m : ℕ) (s : List ℕ) (at : ℕ) → at + width_of Effects ≤ m → effect_at (take m s) at ≡ effect_at s at
unfolding effect_at of_effect
effect_front = layout_front effect_layout effect_fields of_effect effect_at (λ a. refl) (λ s at. rw (add-zero at))

pub effect_codec : (causes : ℕ) → causes ≤ 16 → Codec Effect (width_of Effects) effect_at put_effect (effect_number causes)
unfolding effect_at of_effect put_effect
effect_codec causes checked = of_layout effect_layout effect_fields of_effect effect_at (effect_number causes) (λ a. refl) (λ a. refl) (λ s at. rw (add-zero at)) (effect_fit causes checked)

-- ## A row

of_row : List ℕ → Row
of_row vs =
    record {
      hold = get_or vs 0 0;
      words = record {
        values = get_or vs 1 0;
        bad = get_or vs 2 0;
        mask = get_or vs 3 0;
        require_reset = get_or vs 4 0;
        reset_permit = get_or vs 5 0;
        start_permit = get_or vs 6 0;
        reset = get_or vs 7 0;
        force_permit = get_or vs 8 0;
        force_trip = get_or vs 9 0;
        force_normal = get_or vs 10 0;
      };
    }

row_hold : (k : Known) (r : Row) → row_number k r ≡ 0 → r.hold ≤ most_hold
unfolding row_number
row_hold k r h =
    leb-true r.hold most_hold (and_right (leb 1 r.hold) _ (unless_none _ 3 (or_else_none (hold_number r.hold) (words_number k r.words) h).0))

row_words : (k : Known) (r : Row) → row_number k r ≡ 0 → words_ok k r.words ≡ true
unfolding row_number words_number
row_words k r h =
    let w = r.words in
    let words = (or_else_none (hold_number r.hold) (words_number k w) h).1 in
    unless_none _ 3 (or_else_none (fields_number k w) (or_else (apart_number w) (several_number k w)) words).0

row_fit : (k : Known) → Checked k → (r : Row) → row_number k r ≡ 0 → Fit row_layout (row_fields r)
row_fit k checked r h =
    let ok = row_words k r h in
    let w = r.words in
    let permit = leb-true w.force_permit 1 (search (and_left, and_right) depth 12) in
    let cause : (x : ℕ) → ltb x (2 ^ k.causes) ≡ true → x < 65536 = λ x t. word_fits k.causes x checked.causes t in
    let effect : (x : ℕ) → ltb x (2 ^ k.count) ≡ true → x < 65536 = λ x t. word_fits k.count x checked.count t in
    (omega (arith, row_hold k r h), (cause w.values (search (and_left, and_right) depth 12), (cause w.bad (search (and_left, and_right) depth 12), (cause w.mask (search (and_left, and_right) depth 12), (effect w.require_reset (search (and_left, and_right) depth 12), (effect w.reset_permit (search (and_left, and_right) depth 12), (effect w.start_permit (search (and_left, and_right) depth 12), (effect w.reset (search (and_left, and_right) depth 12), (omega (arith, permit), (effect w.force_trip (search (and_left, and_right) depth 12), (effect w.force_normal (search (and_left, and_right) depth 12), tt)))))))))))

row-fields : (s : List ℕ) (at : ℕ) → row_fields (row_at (width_of Rows) s at) ≡ fields_at row_layout s at 0
unfolding words_at
row-fields s at = rw (row_there (width_of Rows) s at (omega arith)) (simp (add-zero, add_assoc))

pub row_front : (m : ℕ) (s : List ℕ) (at : ℕ) → at + width_of Rows ≤ m → row_at (width_of Rows) (take m s) at ≡ row_at (width_of Rows) s at
unfolding of_row
row_front = layout_front row_layout row_fields of_row (row_at (width_of Rows)) (λ a. refl) row-fields

pub row_codec : (k : Known) → Checked k → Codec Row (width_of Rows) (row_at (width_of Rows)) put_row (row_number k)
unfolding of_row put_row
row_codec k checked = of_layout row_layout row_fields of_row (row_at (width_of Rows)) (row_number k) (λ a. refl) (λ a. refl) row-fields (row_fit k checked)
