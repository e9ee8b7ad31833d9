-- The table of effects that are all Tripped, without timers or first-outs, is the table of the slots of no effect.
use Prim.Native.Nat.{ℕ, ◌<◌, ◌≤◌}
use native.Mathlib.Nat.{lt_of_lt_of_le}
use mathlib.Core.Path.{◌≡◌, ap, sym, ◌∙◌}
use mathlib.Core.Bool.{true}
use mathlib.Core.List.{List, ◌++◌}
use lib.ListN.{drop, get_or, get_or-replicate, replicate, take-append-drop}
use Rattle.bits.specs.Words.{word_of}
use Rattle.bits.proofs.Lists.{tabulate_ext, tabulate_take}
use Rattle.rules.specs.declared.EffectState.TheVariants.{Tripped}
use Rattle.rules.specs.declared.Slot.{Slot}
use Rattle.rules.specs.Rules.{no_slot}
use Rattle.planes.specs.declared.Planes.{Planes}
use Rattle.planes.specs.Planes.{planes_of}
use Rattle.planes.proofs.ByWord.{planes_of_ext}
use Rattle.boards.specs.Table.{padded, table_of}
use Rattle.boards.proofs.Step.{table, table_path}
use Rattle.boards.proofs.Calm.{none_word}

-- the effects of one word are Tripped, and no effect is in another state
abbrev pub tripped_alone : ℕ → Planes
tripped_alone all = record { tripped = all; wait_reset = 0; ready = 0; wait_start = 0; normal = 0; delayed = 0 }

tripped_words : (n : ℕ) → planes_of n (λ i. Tripped) ≡ tripped_alone (word_of (λ i. true) n)
unfolding planes_of
tripped_words n = rw (none_word n)

-- zeros put over zeros leave zeros
none_put : (n : ℕ) (f : ℕ → ℕ) → n ≤ 16 → ((i : ℕ) → i < 16 → f i ≡ 0) → padded n f ≡ replicate 16 0
none_put n f few e =
    let zeros : List ℕ = replicate 16 0 in
    ap (λ (l : List ℕ). l ++ drop n zeros)
    (tabulate_ext f (λ i. get_or zeros i 0) n (λ i k. let k' = lt_of_lt_of_le k few in e i k' ∙ sym (get_or-replicate 16 i 0 0 k'))
    ∙ tabulate_take zeros 0 n few)
    ∙ take-append-drop n zeros

pub fresh_table : (n : ℕ) → n ≤ 16 → table_of n (replicate 16 no_slot) ≡ table (tripped_alone (word_of (λ i. true) n)) (replicate 16 0) (replicate 16 0)
unfolding table_of
fresh_table n few =
    table_path
    (planes_of_ext n _ _ (λ i k. ap (λ (x : Slot). x.state) (none i (lt_of_lt_of_le k few))) ∙ tripped_words n)
    (none_put n _ few (λ i k. ap (λ (x : Slot). x.timer) (none i k)))
    (none_put n _ few (λ i k. ap (λ (x : Slot). x.first_out) (none i k)))
  where
    none : (i : ℕ) → i < 16 → get_or (replicate 16 no_slot) i no_slot ≡ no_slot
    none i k = get_or-replicate 16 i no_slot no_slot k
