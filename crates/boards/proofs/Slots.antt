-- From slots to words, and back.
use mathlib.Core.Path.{◌≡◌, refl, ap₂, sym, ◌∙◌, subst}
use mathlib.Core.Bool.{cond}
use mathlib.Core.List.{List, ◌++◌}
use Prim.Native.Nat.{ℕ, ◌<◌, ◌≤◌}
use native.Mathlib.Omega.{arith}
use lib.ListN.{drop, get_or, length, replicate, take, take-append-drop, length-append, length-drop, length-replicate}
use lib.Seq.{ext_get_or, length-take-le, get_or-take}
use Rattle.bits.specs.Lists.{tabulate}
use Rattle.bits.proofs.Lists.{length-tabulate, get_or-tabulate}
use Rattle.bits.proofs.Words.{bit_word_of}
use Rattle.rules.specs.declared.EffectState.{EffectState}
use Rattle.rules.specs.declared.EffectState.TheVariants.{Tripped, WaitReset, Ready, WaitStart, Normal, Delayed}
use Rattle.rules.specs.declared.Slot.{Slot}
use Rattle.rules.specs.Rules.{no_slot, same}
use Rattle.boards.specs.Table.{Table, table_of, slot_at, slots_of}
use Rattle.planes.specs.Planes.{planes_of, state_at}
use Rattle.boards.proofs.Step.{padded_at}

named : (p : EffectState)
    → cond (same p Tripped) Tripped (cond (same p WaitReset) WaitReset (cond (same p Ready) Ready (cond (same p WaitStart) WaitStart (cond (same p Normal) Normal Delayed)))) ≡ p
named Tripped = refl
named WaitReset = refl
named Ready = refl
named WaitStart = refl
named Normal = refl
named Delayed = refl

state-back : (n : ℕ) (f : ℕ → EffectState) (i : ℕ) → i < n → state_at (planes_of n f) i ≡ f i
unfolding state_at planes_of
state-back n f i k =
    rw (
      bit_word_of (λ j. same (f j) Tripped) n i k,
      bit_word_of (λ j. same (f j) WaitReset) n i k,
      bit_word_of (λ j. same (f j) Ready) n i k,
      bit_word_of (λ j. same (f j) WaitStart) n i k,
      bit_word_of (λ j. same (f j) Normal) n i k,
    ) (named (f i))

abbrev slot : EffectState → ℕ → ℕ → Slot
slot p t f = record { state = p; timer = t; first_out = f }

slot_path : {p p' : EffectState} {t t' f f' : ℕ} → p ≡ p' → t ≡ t' → f ≡ f' → slot p t f ≡ slot p' t' f'
slot_path a b c = λ i. slot (a i) (b i) (c i)

-- there are always sixteen slots
pub length-slots : (n : ℕ) → n ≤ 16 → (b : Table) → length (slots_of n b) ≡ 16
unfolding slots_of
length-slots n few b =
    rw (length-append, length-tabulate, length-drop, length-replicate) (omega arith)

-- the slots past the n effects are those of no effect
abbrev pub Padded : ℕ → List Slot → Type 0
Padded n xs = (length xs ≡ 16) × (drop n xs ≡ drop n (replicate 16 no_slot))

-- the words show the slots that they were made of
pub back : (n : ℕ) → n ≤ 16 → (xs : List Slot) → Padded n xs → slots_of n (table_of n xs) ≡ xs
unfolding slots_of table_of
back n few xs pad =
    ap₂ (λ (a b : List Slot). a ++ b) front (sym pad.1) ∙ take-append-drop n xs
  where
    long : length (take n xs) ≡ n
    long = length-take-le n xs (rw pad.0 few)

    at : (i : ℕ) → i < n → get_or (tabulate (slot_at (table_of n xs)) n) i no_slot ≡ get_or (take n xs) i no_slot
    at i k =
        get_or-tabulate (slot_at (table_of n xs)) n i no_slot k
        ∙ slot_path (state-back n (λ j. (get_or xs j no_slot).state) i k) (padded_at n (λ j. (get_or xs j no_slot).timer) i k) (padded_at n (λ j. (get_or xs j no_slot).first_out) i k)
        ∙ sym (get_or-take n xs i no_slot k)

    front : tabulate (slot_at (table_of n xs)) n ≡ take n xs
    front =
        ext_get_or no_slot _ (take n xs) (length-tabulate (slot_at (table_of n xs)) n ∙ sym long)
        (λ i h. at i (subst (λ (m : ℕ). i < m) (length-tabulate (slot_at (table_of n xs)) n) h))
