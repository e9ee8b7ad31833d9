-- The array in which the changed effects of a word get their timers and first-outs, lowest first: both parts are filled side by side.
use mathlib.Core.Path.{◌≡◌, refl, ap, sym, ◌∙◌}
use mathlib.Core.Bool.{Bool, true, false, cond}
use mathlib.Core.List.{List, [], ◌∷◌}
use Prim.Native.Nat.{ℕ, suc, ◌+◌, ◌-◌, ◌^◌, ◌<◌, ◌≤◌}
use native.Mathlib.Nat.{not-suc-le-zero}
use native.Mathlib.Omega.{arith}
use lib.Bits.{bit_and}
use lib.Count.{count_trailing_zeros}
use lib.ListN.{set, get_or, length}
use lib.Seq.{sets, set-get_or, set-set, set_comm, length-sets}
use Rattle.bits.specs.Lists.{tabulate}
use Rattle.bits.specs.Words.{bit_of}
use Rattle.bits.proofs.Lists.{length-tabulate, get_or_filled}
use Rattle.planes.specs.declared.Planes.{Planes}
use Rattle.boards.proofs.Bits.{Rests, Done, again, below, before-it, is_set}
use Rattle.cells.specs.Array.{part_length, array_length, part, associations_at, delays_at, timers_at, firsts_at, timers_in, firsts_in}
use Rattle.cells.specs.Changed.{new_timer, new_first, settled_at, settled_in}
use Rattle.cells.proofs.Filled.{get_d_part, before_sets, more, rest_at}
use Rattle.cells.proofs.Parts.{part_before, part_after, part_filled}

-- a store before a list of stores may be made after them
put-before : (l : List ℕ) (o : ℕ) (vs : List ℕ) (j v : ℕ) → j < o → sets (set l j v) o vs ≡ set (sets l o vs) j v
put-before l o [] j v h = refl
put-before l o (x ∷ vs) j v h =
    ap (λ (r : List ℕ). sets r (suc o) vs) (set_comm l j o v x (λ e. omega (arith, e))) ∙ put-before (set l o x) (suc o) vs j v (omega arith)

module _ (causes : ℕ) (was is : Planes) (ch : ℕ) (xs : List ℕ) where
  -- what effect i gets
  abbrev timer : ℕ → ℕ
  timer i = cond (bit_of ch i) (new_timer is.delayed xs i) (get_or (timers_in xs) i 0)

  abbrev first : ℕ → ℕ
  first i = cond (bit_of ch i) (new_first causes was.normal is.normal xs i) (get_or (firsts_in xs) i 0)

  -- the effects below m have theirs
  abbrev to : ℕ → List ℕ
  to = settled_in causes was is ch xs

  abbrev timed : ℕ → List ℕ
  timed m = sets xs timers_at (tabulate timer m)

  next : (i : ℕ) → i < part_length → to (i + 1) ≡ set (set (to i) (timers_at + i) (timer i)) (firsts_at + i) (first i)
  unfolding settled_in
  next i h =
      more firsts_at first (timed (i + 1)) i
      ∙ ap (λ (r : List ℕ). set (sets r firsts_at (tabulate first i)) (firsts_at + i) (first i)) (more timers_at timer xs i)
      ∙ ap (λ (r : List ℕ). set r (firsts_at + i) (first i)) (put-before (timed i) firsts_at (tabulate first i) (timers_at + i) (timer i) (omega arith))

  -- ## What is there before an effect gets its own

  timer_before : (i : ℕ) → i < part_length → get_or (to i) (timers_at + i) 0 ≡ get_or (timers_in xs) i 0
  unfolding settled_in
  timer_before i h = before_sets (timed i) firsts_at (tabulate first i) (timers_at + i) (omega arith) ∙ rest_at timers_at timer xs i h

  first_before : (i : ℕ) → i < part_length → get_or (to i) (firsts_at + i) 0 ≡ get_or (firsts_in xs) i 0
  unfolding settled_in
  first_before i h =
      rest_at firsts_at first (timed i) i h
      ∙ ap (λ (l : List ℕ). get_or l i 0) (part_after firsts_at timers_at xs (tabulate timer i) (omega (arith, length-tabulate timer i)))

  -- a part before both stays
  early : (o m : ℕ) → o + part_length ≤ timers_at → part o (to m) ≡ part o xs
  unfolding settled_in
  early o m h = part_before o firsts_at (timed m) (tabulate first m) (omega arith) ∙ part_before o timers_at xs (tabulate timer m) h

  -- ## A loop over the changed effects

  same_there : (i : ℕ) → i < part_length → bit_of ch i ≡ false → to (i + 1) ≡ to i
  same_there i h e =
      let t : timer i ≡ get_or (to i) (timers_at + i) 0 = ap (λ (b : Bool). cond b (new_timer is.delayed xs i) (get_or (timers_in xs) i 0)) e ∙ sym (timer_before i h) in
      let f : first i ≡ get_or (to i) (firsts_at + i) 0 = ap (λ (b : Bool). cond b (new_first causes was.normal is.normal xs i) (get_or (firsts_in xs) i 0)) e ∙ sym (first_before i h) in
      next i h
      ∙ ap (λ (v : ℕ). set (set (to i) (timers_at + i) v) (firsts_at + i) (first i)) t
      ∙ ap (λ (r : List ℕ). set r (firsts_at + i) (first i)) (set-get_or (to i) (timers_at + i) 0)
      ∙ ap (set (to i) (firsts_at + i)) f
      ∙ set-get_or (to i) (firsts_at + i) 0

  pub settled-none : xs ≡ to 0
  unfolding settled_in tabulate
  settled-none = refl

  pub settled_rests : (n : ℕ) → n ≤ part_length → ch < 2 ^ n → Rests n ch to
  settled_rests n few inside = record { few = few; inside = inside; same = λ i h e. same_there i (omega arith) e }

  -- one changed effect more
  pub settled_more : (i : ℕ) → i < part_length → bit_of ch i ≡ true → settled_at causes was.normal is.normal is.delayed i (to i) ≡ to (i + 1)
  settled_more i h e =
      let t : new_timer is.delayed (to i) i ≡ timer i =
      ap (λ (l : List ℕ). cond (bit_of is.delayed i) (get_or l i 0) 0) (early delays_at i (omega arith))
      ∙ sym (ap (λ (b : Bool). cond b (new_timer is.delayed xs i) (get_or (timers_in xs) i 0)) e) in
      let g : get_or (firsts_in (to i)) i 0 ≡ get_or (firsts_in xs) i 0 = get_d_part firsts_at (to i) i h ∙ first_before i h in
      let f : new_first causes was.normal is.normal (to i) i ≡ first i =
      rw (g, early associations_at i (omega arith)) refl
      ∙ sym (ap (λ (b : Bool). cond b (new_first causes was.normal is.normal xs i) (get_or (firsts_in xs) i 0)) e) in
      (λ j. set (set (to i) (timers_at + i) (t j)) (firsts_at + i) (f j)) ∙ sym (next i h)

  -- the first-out of an effect that has its own
  pub first_there : (m i : ℕ) → i < m → m ≤ part_length → length xs ≡ array_length → get_or (firsts_in (to m)) i 0 ≡ first i
  unfolding settled_in
  first_there m i h few long =
      ap (λ (l : List ℕ). get_or l i 0) (part_filled firsts_at first m (timed m) (omega (arith, length-sets xs timers_at (tabulate timer m), long)) few)
      ∙ get_or_filled first m _ i 0 h

-- ## A turn of the loop

module _ (causes : ℕ) (was is : Planes) (ch : ℕ) (xs : List ℕ) {now : List ℕ} {rest : ℕ} (d : Done 16 ch (settled_in causes was is ch xs) now rest) (left : 0 < rest) where
  abbrev k : ℕ
  k = count_trailing_zeros 16 rest

  then_is : settled_at causes was.normal is.normal is.delayed k now ≡ settled_in causes was is ch xs (k + 1)
  then_is = ap (settled_at causes was.normal is.normal is.delayed k) (before-it d left) ∙ settled_more causes was is ch xs k (below d left) (is_set d left)

  pub settled_turn : Done 16 ch (settled_in causes was is ch xs) (settled_at causes was.normal is.normal is.delayed k now) (bit_and rest (rest - 1))
  settled_turn = again d left then_is

  -- the first-out that the effect has got is the one that it has at the end
  pub first_stays : length xs ≡ array_length
      → get_or (firsts_in (settled_at causes was.normal is.normal is.delayed k now)) k 0 ≡ get_or (firsts_in (settled_in causes was is ch xs 16)) k 0
  first_stays long =
      ap (λ (l : List ℕ). get_or (firsts_in l) k 0) then_is
      ∙ first_there causes was is ch xs (k + 1) k (omega arith) (omega (arith, below d left)) long
      ∙ sym (first_there causes was is ch xs 16 k (below d left) (omega arith) long)

-- ## A list stored over another

pub put_again : (l : List ℕ) (o : ℕ) (us vs : List ℕ) → length us ≡ length vs → sets (sets l o us) o vs ≡ sets l o vs
put_again l o [] vs e = refl
put_again l o (u ∷ us) [] e = let z : suc (length us) ≤ 0 = omega (arith, e) in absurd (not-suc-le-zero z)
put_again l o (u ∷ us) (v ∷ vs) e =
    ap (λ (r : List ℕ). sets r (suc o) vs) (sym (put-before (set l o u) (suc o) us o v (omega arith)))
    ∙ ap (λ (r : List ℕ). sets (sets r (suc o) us) (suc o) vs) (set-set l o u v)
    ∙ put_again (set l o v) (suc o) us vs (omega (arith, e))
