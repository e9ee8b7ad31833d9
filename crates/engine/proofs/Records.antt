-- Records laid one after the other, for the set bits of a word.
use Rattle.std.proofs.Common.{◌≡◌, ℕ, ◌+◌, ◌-◌, ◌*◌, ◌%◌, ◌^◌, ◌<◌, ◌≤◌, List, [], ◌∷◌, ◌++◌, length, get_or, sym, refl, ap, ◌∙◌, subst, add-zero, mod-eq_of_lt, arith, length-append}
use mathlib.Core.List.{flat_map}
use lib.Bits.{bit_and}
use lib.Count.{count_trailing_zeros}
use lib.Seq.{sets, length-sets}
use Rattle.bits.specs.Words.{bit_of}
use Rattle.bits.proofs.Numbers.{sets-append}
use Rattle.effects.specs.Records.{record_length, bytes_of}
use Rattle.engine.specs.declared.Mark.{Mark}
use Rattle.planes.specs.declared.Planes.{Planes}
use Rattle.boards.specs.Table.{Narrow, entry_at, entries_to, joined}
use Rattle.engine.specs.Marks.{record_by}
use Rattle.boards.proofs.Bits.{Done, started, ended, below, before-it, is_set, again}
use Rattle.boards.proofs.Picked.{picked_none, picked_yes, picked_grows}
use Rattle.boards.proofs.Records.{joined_snoc, length_entry, length-joined, entries_rest}

-- the records so far of a scan from x to the states `is` are written
pub record Put (buf₀ firsts : List ℕ) (x : Mark) (is : Planes) (ch : ℕ) (buf : List ℕ) (at q rest : ℕ) : Type 0 where
  pub es : List (List ℕ)
  pub passed : Done 16 ch (entries_to x.next (x.scans_done + 1) ch x.planes is firsts) es rest
  pub place : at ≡ x.at + record_length * length es
  pub seq : q ≡ (x.next + length es) % 2 ^ 16
  pub wrote : buf ≡ sets buf₀ x.at (joined es)

pub begun : (buf₀ firsts : List ℕ) (x : Mark) (is : Planes) (ch : ℕ) → x.next < 65536 → ch < 65536 → Put buf₀ firsts x is ch buf₀ x.at x.next ch
unfolding flat_map
begun buf₀ firsts x is ch h k =
    record {
      es = [];
      passed = started (entries_rest x.next (x.scans_done + 1) ch x.planes is firsts k) (sym (picked_none (entry_at x.next (x.scans_done + 1) x.planes is firsts) (bit_of ch)));
      place = omega arith;
      seq = sym (ap (λ (m : ℕ). m % 2 ^ 16) (add-zero x.next) ∙ mod-eq_of_lt h);
      wrote = refl;
    }

module _ {buf₀ firsts : List ℕ} {x : Mark} {is : Planes} {ch : ℕ} {buf : List ℕ} {at q rest : ℕ} (p : Put buf₀ firsts x is ch buf at q rest) where
  abbrev entries : ℕ → List (List ℕ)
  entries n = entries_to x.next (x.scans_done + 1) ch x.planes is firsts n

  abbrev made : ℕ → ℕ → List ℕ
  made = entry_at x.next (x.scans_done + 1) x.planes is firsts

  -- where no bit is left, all records are written
  pub finished : rest ≡ 0 → p.es ≡ entries 16
  finished e = ended p.passed e

  pub as_long : length buf ≡ length buf₀
  as_long = ap length p.wrote ∙ length-sets buf₀ x.at (joined p.es)

  -- where a bit is left, one record more is written
  module _ (more : 0 < rest) where
    abbrev n : ℕ
    n = count_trailing_zeros 16 rest

    so-far : p.es ≡ entries n
    so-far = before-it p.passed more

    one_more : p.es ++ (made (length p.es) n ∷ []) ≡ entries (n + 1)
    one_more =
        ap (λ (l : List (List ℕ)). l ++ (made (length l) n ∷ [])) so-far
        ∙ sym (picked_yes made (bit_of ch) n (is_set p.passed more))

    count : length (p.es ++ (made (length p.es) n ∷ [])) ≡ length p.es + 1
    count = length-append p.es _

    room : length p.es + 1 ≤ length (entries 16)
    room =
        let d : n + 1 + (15 - n) ≡ 16 = omega (arith, below p.passed more) in
        let h = picked_grows made (bit_of ch) (n + 1) (15 - n) in
        let e : length (entries (n + 1 + (15 - n))) ≡ length (entries 16) = ap (λ (k : ℕ). length (entries k)) d in
        omega (arith, count, ap length one_more, h, e)

    long : length (joined p.es) ≡ record_length * length p.es
    long = rw so-far (length-joined made (bit_of ch) (length_entry x.next (x.scans_done + 1) x.planes is firsts) n)

    pub roomy : x.at + record_length * length (entries 16) ≤ length buf₀ → at + record_length ≤ length buf
    roomy h = omega (arith, p.place, room, as_long, h)

    -- the record that is written is the definition's
    laid : Narrow firsts → bytes_of (record_by firsts x is q n) ≡ made (length p.es) n
    unfolding entry_at
    laid narrow = rw (mod-eq_of_lt (narrow n), p.seq)

    turned : Put buf₀ firsts x is ch (sets buf at (made (length p.es) n)) (at + record_length) ((q + 1) % 2 ^ 16) (bit_and rest (rest - 1))
    turned = record {
      es = p.es ++ (made (length p.es) n ∷ []);
      passed = again p.passed more one_more;
      place = omega (arith, p.place, count);
      seq = rw count (omega (arith, p.seq));
      wrote = rw (joined_snoc, sets-append, long, ← p.place, ← p.wrote);
    }

    put_one : Narrow firsts → Put buf₀ firsts x is ch (sets buf at (bytes_of (record_by firsts x is q n))) (at + record_length) ((q + 1) % 2 ^ 16) (bit_and rest (rest - 1))
    put_one narrow =
        subst (λ (l : List ℕ). Put buf₀ firsts x is ch (sets buf at l) (at + record_length) ((q + 1) % 2 ^ 16) (bit_and rest (rest - 1))) (sym (laid narrow)) turned

    -- only the effect's own first-out is read
    pub put_same : (others : List ℕ) → get_or others n 0 ≡ get_or firsts n 0 → Narrow firsts
        → Put buf₀ firsts x is ch (sets buf at (bytes_of (record_by others x is q n))) (at + record_length) ((q + 1) % 2 ^ 16) (bit_and rest (rest - 1))
    put_same others e narrow = rw e (put_one narrow)
