-- The bytes that the reader accepts are exactly the encodings of valid settings and rows. This is shown section by section, each by
-- the laws of its kind of entry.
use mathlib.Core.Path.{◌≡◌, refl, sym, ap, ap₂, ◌∙◌, subst}
use mathlib.Core.List.{List, [], ◌∷◌, ◌++◌, append_assoc, append-nil}
use Prim.Native.Nat.{ℕ, ◌+◌, ◌-◌, ◌*◌, ◌≤◌, ◌<◌}
use native.Mathlib.Omega.{arith}
use lib.ListN.{length, get_or, take, drop, replicate, length-append, length-take, length-replicate}
use lib.Seq.{take_at, take-add}
use Rattle.bits.specs.Numbers.{Bytes, num_at}
use Rattle.settings.specs.declared.Effect.{Effect}
use Rattle.settings.specs.declared.Row.{Row}
use Rattle.settings.specs.declared.Known.{Known}
use Rattle.settings.specs.declared.Settings.{Settings}
use Rattle.settings.specs.Right.{known_of, effect_number, row_number}
use Rattle.settings.specs.Signals.{no_effect}
use Rattle.layout.specs.Section.{Section}
use Rattle.layout.specs.Section as S
use Rattle.recording.specs.Answer as A
use Rattle.layout.specs.declared.Kind.TheVariants.{Block, Effects, Rows}
use Rattle.layout.specs.Entries.{BlockEntry, block_at, block_check, effect_at, row_at, put_block, put_effect, put_row}
use Rattle.bits.specs.Lists.{list_of}
use Rattle.layout.specs.Sections.{width_of, least_of, most_of, section_of}
use Rattle.recording.specs.Reader.{nothing_known, known_of_block, settings_at, refusal, reading, after_rows}
use Rattle.recording.specs.Refused.{Passes, ToEnd}
use Rattle.recording.specs.Encode.{block_of, effects_of, counted, encode, opening_length, All, Right}
use Rattle.layout.proofs.Lists.{length-list_of}
use Rattle.exactness.proofs.Sections.{section_pass, passes_by}
use Rattle.exactness.proofs.Codec.{Codec, Back, section_back, section_bytes, all_list, length-counted}
use Rattle.exactness.proofs.Entries.{Checked, block_causes, block_codec, effect_codec, row_codec}
use Rattle.exactness.proofs.Right.{Parts, in_parts, of_parts}
use Rattle.recording.proofs.Between.{read-rows, accepted, left_over}
use Rattle.recording.proofs.Sections.{passes_inside, count-within}

abbrev block_bytes : Settings → List ℕ
block_bytes st = counted put_block (block_of st ∷ [])

abbrev effect_bytes : Settings → List ℕ
effect_bytes st = counted put_effect (effects_of st)

checked_of : (st : Settings) → Parts st → Checked (known_of st)
checked_of st p = record { causes = block_causes (block_of st) p.block; count = p.most }

-- ## What is written is read back

module _ (st : Settings) (rows : List Row) (right : Right st rows) where
  parts : Parts st
  parts = in_parts st right.slots right.settings

  checked : Checked (known_of st)
  checked = checked_of st parts

  effects_are : Codec Effect (width_of Effects) effect_at put_effect (effect_number st.causes)
  effects_are = effect_codec st.causes checked.causes

  rows_are : Codec Row (width_of Rows) (row_at (width_of Rows)) put_row (row_number (known_of st))
  rows_are = row_codec (known_of st) checked

  length-effects_of : length (effects_of st) ≡ st.count
  length-effects_of = length-take st.count st.effects ∙ omega (arith, right.slots, parts.most)

  length-block : length (block_bytes st) ≡ 6
  length-block = length-counted (width_of Block) block_at put_block block_check block_codec (block_of st ∷ [])

  length-effects : length (effect_bytes st) ≡ 2 + width_of Effects * st.count
  length-effects = length-counted (width_of Effects) effect_at put_effect (effect_number st.causes) effects_are (effects_of st) ∙ omega (arith, length-effects_of)

  abbrev rows_place : ℕ
  rows_place = 8 + width_of Effects * st.count

  pub length-encode : length (encode st rows) ≡ opening_length st + width_of Rows * length rows
  unfolding encode
  length-encode =
      length-append (block_bytes st) (effect_bytes st ++ counted put_row rows)
      ∙ omega (arith, length-append (effect_bytes st) (counted put_row rows), length-block, length-effects, length-counted (width_of Rows) (row_at (width_of Rows)) put_row (row_number (known_of st)) rows_are rows)

  -- the three sections of an encoding that stands before q, read back
  module _ (q : List ℕ) where
    abbrev s : List ℕ
    s = encode st rows ++ q

    in_sections : s ≡ block_bytes st ++ (effect_bytes st ++ (counted put_row rows ++ q))
    unfolding encode
    in_sections =
        append_assoc (block_bytes st) (effect_bytes st ++ counted put_row rows) q
        ∙ ap (λ (l : List ℕ). block_bytes st ++ l) (append_assoc (effect_bytes st) (counted put_row rows) q)

    block_back : Back (width_of Block) block_at put_block block_check block_codec s 0 (block_of st ∷ [])
    block_back =
        subst (λ (l : List ℕ). Back (width_of Block) block_at put_block block_check block_codec l 0 (block_of st ∷ [])) (sym in_sections)
        (section_back (width_of Block) block_at put_block block_check block_codec (block_of st ∷ []) [] (effect_bytes st ++ (counted put_row rows ++ q)) 0
        refl (parts.block, tt) (omega arith))

    effects_back : Back (width_of Effects) effect_at put_effect (effect_number st.causes) effects_are s 6 (effects_of st)
    effects_back =
        subst (λ (l : List ℕ). Back (width_of Effects) effect_at put_effect (effect_number st.causes) effects_are l 6 (effects_of st)) (sym in_sections)
        (section_back (width_of Effects) effect_at put_effect (effect_number st.causes) effects_are (effects_of st) (block_bytes st) (counted put_row rows ++ q) 6
        (sym length-block) parts.effects (omega (arith, length-effects_of, parts.most)))

    rows_back : Back (width_of Rows) (row_at (width_of Rows)) put_row (row_number (known_of st)) rows_are s rows_place rows
    rows_back =
        let front = block_bytes st ++ effect_bytes st in
        let same : s ≡ front ++ (counted put_row rows ++ q) = in_sections ∙ sym (append_assoc (block_bytes st) (effect_bytes st) (counted put_row rows ++ q)) in
        subst (λ (l : List ℕ). Back (width_of Rows) (row_at (width_of Rows)) put_row (row_number (known_of st)) rows_are l rows_place rows) (sym same)
        (section_back (width_of Rows) (row_at (width_of Rows)) put_row (row_number (known_of st)) rows_are rows front q rows_place
        (omega (arith, length-append (block_bytes st) (effect_bytes st), length-block, length-effects)) right.each_row (omega (arith, right.rows_most)))

    at_block : block_at s 2 ≡ block_of st
    at_block = ap (λ (l : List BlockEntry). get_or l 0 (block_of st)) block_back.entries

    at_count : num_at 2 s 6 ≡ st.count
    at_count = effects_back.count ∙ length-effects_of

    settings_back : settings_at s 6 ≡ st
    settings_back =
        let list : list_of (effect_at s) (width_of Effects) (num_at 2 s 6) 8 ++ replicate (16 - num_at 2 s 6) no_effect ≡ st.effects =
        rw at_count (ap (λ (l : List Effect). l ++ replicate (16 - st.count) no_effect) (ap (λ (n : ℕ). list_of (effect_at s) (width_of Effects) n 8) (sym length-effects_of) ∙ effects_back.entries) ∙ sym parts.slots)
        in
        λ i. record { causes = (at_block i).causes; options = (at_block i).options; period = (at_block i).period; count = at_count i; effects = list i }

    block_section : section_of Block nothing_known s 0 ≡ S.Next 6
    block_section = section_pass Block nothing_known s 0 6 (passes_by Block nothing_known s 0 1 block_back.count (omega arith) (omega arith) block_back.room block_back.right)

    effects_section : section_of Effects (known_of_block s) s 6 ≡ S.Next rows_place
    effects_section =
        let k : Known = record { causes = st.causes; count = 0; options = st.options } in
        let known : known_of_block s ≡ k = λ i. record { causes = (at_block i).causes; count = 0; options = (at_block i).options } in
        let n = length (effects_of st) in
        let place : 6 + 2 + width_of Effects * n ≡ rows_place = omega (arith, length-effects_of) in
        let low : least_of Effects ≤ n = omega (arith, length-effects_of, parts.least) in
        let top : n ≤ most_of Effects = omega (arith, length-effects_of, parts.most) in
        ap (λ (k : Known). section_of Effects k s 6) known
        ∙ section_pass Effects k s 6 _ (passes_by Effects k s 6 n effects_back.count low top effects_back.room effects_back.right)
        ∙ ap {B = Section} (λ n. S.Next n) place

    rows-section : section_of Rows (known_of (settings_at s 6)) s rows_place ≡ S.Next (length (encode st rows))
    rows-section =
        let end : rows_place + 2 + width_of Rows * length rows ≡ length (encode st rows) = omega (arith, length-encode) in
        ap (λ (z : Settings). section_of Rows (known_of z) s rows_place) settings_back
        ∙ section_pass Rows (known_of st) s rows_place _
        (passes_by Rows (known_of st) s rows_place (length rows) rows_back.count right.rows_least right.rows_most rows_back.room rows_back.right)
        ∙ ap {B = Section} (λ n. S.Next n) end

    all_pass : reading s ≡ after_rows s 6 rows_place (length (encode st rows))
    all_pass = read-rows s 6 block_section rows_place effects_section (length (encode st rows)) rows-section

    rows-again : list_of (row_at (width_of Rows) s) (width_of Rows) (length rows) (opening_length st) ≡ rows
    rows-again = let e : opening_length st ≡ rows_place + 2 = omega arith in rw e rows_back.entries

    -- bytes after the encoding are left over
    pub spare : 0 < length q → reading s ≡ refusal 7 (length (encode st rows))
    spare h = all_pass ∙ sym (left_over s 6 rows_place (length (encode st rows)) (λ e. omega (arith, e, length-append (encode st rows) q)))

  -- an encoding with nothing after it is accepted, and gives its settings back
  pub complete : reading (encode st rows) ≡ record { answer = A.Accepted (length rows) (opening_length st) (width_of Rows); settings = st }
  complete =
      let e = append-nil (encode st rows) in
      ap reading (sym e) ∙ all_pass []
      ∙ sym (accepted (s []) 6 rows_place (length (encode st rows)) (length rows) (opening_length st) (width_of Rows) st (ap length (sym e)) (sym (rows_back []).count) (omega arith) refl (sym (settings_back [])))

  -- an encoding gives its rows back
  pub rows_are_back : list_of (row_at (width_of Rows) (encode st rows)) (width_of Rows) (length rows) (opening_length st) ≡ rows
  rows_are_back = ap (λ (l : List ℕ). list_of (row_at (width_of Rows) l) (width_of Rows) (length rows) (opening_length st)) (sym (append-nil (encode st rows))) ∙ rows-again []

-- ## What passes is an encoding

join : (s : List ℕ) (e r end : ℕ) → e ≤ r → r ≤ end
    → take (e - 0) (drop 0 s) ++ (take (r - e) (drop e s) ++ take (end - r) (drop r s)) ≡ take end s
join s e r end h₁ h₂ =
    let e₁ : end ≡ r + (end - r) = omega arith in
    let e₂ : r ≡ e + (r - e) = omega arith in
    let last : take end s ≡ take r s ++ take (end - r) (drop r s) = ap (λ (n : ℕ). take n s) e₁ ∙ take-add r (end - r) s in
    let mid : take r s ≡ take e s ++ take (r - e) (drop e s) = ap (λ (n : ℕ). take n s) e₂ ∙ take-add e (r - e) s in
    let first : e - 0 ≡ e = omega arith in
    rw first (sym (last ∙ ap (λ (l : List ℕ). l ++ take (end - r) (drop r s)) mid ∙ append_assoc (take e s) (take (r - e) (drop e s)) (take (end - r) (drop r s))))

abbrev pub rows_at : List ℕ → ℕ → List Row
rows_at s r = list_of (row_at (width_of Rows) s) (width_of Rows) (num_at 2 s r) (r + 2)

module _ (s : List ℕ) (e r end : ℕ) (t : ToEnd s e r end) where
  abbrev st : Settings
  st = settings_at s e

  abbrev block : Passes Block nothing_known s 0 e
  block = t.before.block

  abbrev effects : Passes Effects (known_of_block s) s e r
  effects = t.before.effects

  effects_count : (1 ≤ st.count) × (st.count ≤ most_of Effects)
  effects_count = count-within Effects st.count effects.count

  block_right : block_check (block_of st) ≡ 0
  block_right = block.entries.right 0 (count-within Block (num_at 2 s 0) block.count).0

  settings_checked : Checked (known_of st)
  settings_checked = record { causes = block_causes (block_of st) block_right; count = effects_count.1 }

  effects_codec : Codec Effect (width_of Effects) effect_at put_effect (effect_number st.causes)
  effects_codec = effect_codec st.causes settings_checked.causes

  rows_codec : Codec Row (width_of Rows) (row_at (width_of Rows)) put_row (row_number (known_of st))
  rows_codec = row_codec (known_of st) settings_checked

  listed : effects_of st ≡ list_of (effect_at s) (width_of Effects) st.count (e + 2)
  listed = take_at (list_of (effect_at s) (width_of Effects) st.count (e + 2)) (replicate (16 - st.count) no_effect) st.count (length-list_of (effect_at s) (width_of Effects) st.count (e + 2))

  sixteen : length st.effects ≡ 16
  sixteen =
      length-append (list_of (effect_at s) (width_of Effects) st.count (e + 2)) (replicate (16 - st.count) no_effect)
      ∙ omega (arith, length-list_of (effect_at s) (width_of Effects) st.count (e + 2), length-replicate (16 - st.count) no_effect, effects_count.1)

  parts_at : Parts st
  parts_at =
      record {
        block = block_right;
        least = effects_count.0;
        most = effects_count.1;
        effects = subst (λ (l : List Effect). All (effect_number st.causes) l) (sym listed)
            (all_list (width_of Effects) effect_at put_effect (effect_number st.causes) effects_codec s st.count (e + 2) effects.entries.right);
        slots = ap (λ (l : List Effect). l ++ replicate (16 - st.count) no_effect) (sym listed);
      }

  -- the settings and rows that were read are valid
  pub right_at : Right st (rows_at s r)
  right_at =
      let len = length-list_of (row_at (width_of Rows) s) (width_of Rows) (num_at 2 s r) (r + 2) in
      let many = count-within Rows (num_at 2 s r) t.rows.count in
      record {
        settings = of_parts st sixteen parts_at;
        slots = sixteen;
        rows_least = omega (arith, len, many.0);
        rows_most = omega (arith, len, many.1);
        each_row = all_list (width_of Rows) (row_at (width_of Rows)) put_row (row_number (known_of st)) rows_codec s (num_at 2 s r) (r + 2) t.rows.entries.right;
      }

  pub within : end ≤ length s
  within = passes_inside Rows (known_of st) s r end t.rows

  module _ (bytes : Bytes s) where
    block-bytes : block_bytes st ≡ take (e - 0) (drop 0 s)
    block-bytes =
        let c = count-within Block (num_at 2 s 0) block.count in
        let one : num_at 2 s 0 ≡ 1 = omega (arith, c.0, c.1) in
        ap (λ (k : ℕ). counted put_block (list_of (block_at s) (width_of Block) k 2)) (sym one) ∙ section_bytes (width_of Block) block_at put_block block_check block_codec s 0 e bytes block.room block.entries.there block.next

    effect-bytes : effect_bytes st ≡ take (r - e) (drop e s)
    effect-bytes =
        ap (counted put_effect) listed ∙ section_bytes (width_of Effects) effect_at put_effect (effect_number st.causes) effects_codec s e r bytes effects.room effects.entries.there effects.next

    row-bytes : counted put_row (rows_at s r) ≡ take (end - r) (drop r s)
    row-bytes = section_bytes (width_of Rows) (row_at (width_of Rows)) put_row (row_number (known_of st)) rows_codec s r end bytes t.rows.room t.rows.entries.there t.rows.next

    -- the encoding of the settings and rows that were read is the bytes through the rows' end
    pub encoded_at : encode st (rows_at s r) ≡ take end s
    unfolding encode
    encoded_at =
        ap₂ (λ (x y : List ℕ). x ++ y) block-bytes (ap₂ (λ (x y : List ℕ). x ++ y) effect-bytes row-bytes)
        ∙ join s e r end (omega (arith, effects.next)) (omega (arith, t.rows.next))
