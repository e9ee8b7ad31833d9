-- `walk::nth` meets its contract: each turn moves the walk on, and what it gives after n steps is row n.
use mathlib.Core.Path.{◌≡◌, sym, ap, ap₂, ◌∙◌}
use mathlib.Core.List.{List}
use Prim.Native.Nat.{ℕ, suc, ◌+◌}
use native.Mathlib.Numerals.{add-one}
use native.Mathlib.Omega.{arith}
use denote.Ref.{Bor}
use Rattle.walk.specs.Started.{Started}
use Rattle.walk.specs.declared.Walk.{Walk}
use Rattle.walk.specs.Walks.{start_of, next_of, moved_on, walked, nth_of}
use Rattle.walk.proofs.Rows.{nth_step}
use Rattle.walk.proofs.nth.Goals as goal

-- at the start no step has been made
begun : (s : Bor (List ℕ)) (w : Walk) → w ≡ (start_of s).walk → (w.bytes.now ≡ s.now) × (w ≡ walked 0 (start_of w.bytes).walk)
begun s w e = (ap (λ (x : Walk). x.bytes.now) e, e ∙ ap (λ (x : Walk). (start_of x.bytes).walk) (sym e))

-- a step more, on the same bytes
one_more : (w v : Walk) (i : ℕ) → v ≡ moved_on w → w ≡ walked i (start_of w.bytes).walk → (v.bytes.now ≡ w.bytes.now) × (v ≡ walked (i + 1) (start_of v.bytes).walk)
one_more w v i e h = (
  ap (λ (x : Walk). x.bytes.now) e,
  rw add-one (e ∙ ap moved_on h ∙ ap (λ (x : Walk). walked (suc i) (start_of x.bytes).walk) (sym e)),
)

pub loop-i-init : goal.loop-i-init
loop-i-init c = begun c.args.bytes c.start.result.walk (ap (λ (x : Started). x.walk) c.start.ensures.0)

pub loop-i-preserved : goal.loop-i-preserved
loop-i-preserved c =
    let l = c.loop-i in
    let m = one_more l.walk c.next.new.self l.i c.next.ensures.1 l.invariant.1 in
    (m.0 ∙ l.invariant.0, m.1)

pub returns : goal.returns
returns c =
    let l = c.loop-i in
    let all : l.i ≡ c.args.n = omega arith in
    c.next-2.ensures.0 ∙ ap next_of l.invariant.1 ∙ nth_step l.walk.bytes l.i ∙ ap₂ nth_of l.invariant.0 all
