-- Records laid one after the other.
use mathlib.Core.Path.{◌≡◌, refl}
use mathlib.Core.Bool.{Bool, true, false}
use mathlib.Core.List.{List, [], ◌∷◌, ◌++◌, flat_map}
use Prim.Native.Nat.{ℕ, zero, suc, ◌+◌, ◌*◌, ◌<◌}
use native.Mathlib.Numerals.{add-one}
use native.Mathlib.Omega.{arith}
use lib.ListN.{length, length-append}
use Rattle.bits.specs.Words.{bit_of}
use Rattle.bits.proofs.Lists.{flat_map_snoc}
use Rattle.effects.specs.Records.{record_length}
use Rattle.planes.specs.declared.Planes.{Planes}
use Rattle.boards.specs.Picked.{picked}
use Rattle.boards.specs.Table.{entry_at, entries_to, joined}
use Rattle.boards.proofs.Bits.{Rests}
use Rattle.boards.proofs.Picked.{picked_none, picked_yes, picked_no}

pub joined_snoc : (ls : List (List ℕ)) (l : List ℕ) → joined (ls ++ (l ∷ [])) ≡ joined ls ++ l
joined_snoc = flat_map_snoc (λ l. l)

pub length_entry : (q c : ℕ) (was is : Planes) (firsts : List ℕ) (k i : ℕ) → length (entry_at q c was is firsts k i) ≡ record_length
unfolding entry_at
length_entry q c was is firsts k i = refl

-- the length of records laid one after the other
pub length-joined : (g : ℕ → ℕ → List ℕ) (t : ℕ → Bool) → ((k i : ℕ) → length (g k i) ≡ record_length) → (n : ℕ) → length (joined (picked g t n)) ≡ record_length * length (picked g t n)
unfolding flat_map
length-joined g t h zero = rw (picked_none g t)
length-joined g t h (suc n) = rw (← add-one n) (go (t n) refl (length-joined g t h n))
  where
    go : (b : Bool) → t n ≡ b → length (joined (picked g t n)) ≡ record_length * length (picked g t n) → length (joined (picked g t (n + 1))) ≡ record_length * length (picked g t (n + 1))
    go true e r =
        let P = picked g t n in
        let l = g (length P) n in
        rw (picked_yes g t n e, joined_snoc) (omega (arith, r, length-append (joined P) l, length-append P (l ∷ []), h (length P) n))
    go false e r = rw (picked_no g t n e) r

-- an effect that is not in the word has no record
pub entries_rest : (q c ch : ℕ) (was is : Planes) (firsts : List ℕ) → ch < 65536 → Rests 16 ch (entries_to q c ch was is firsts)
entries_rest q c ch was is firsts h =
    record { few = omega arith; inside = h; same = λ j v e. picked_no (entry_at q c was is firsts) (bit_of ch) j e }
