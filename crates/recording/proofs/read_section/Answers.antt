-- `recording::read_section` meets its contract: each test of the code is one of the definition's.
use mathlib.Core.Path.{◌≡◌, refl, sym, ◌∙◌}
use Prim.Native.Nat.{◌+◌, ◌*◌, ◌-◌}
use lib.ListN.{length}
use Rattle.settings.specs.Refusals.{number_of}
use Rattle.layout.specs.Sections.{width_of, test_of}
use native.Mathlib.Omega.{arith}
use Rattle.settings.proofs.Refusals.{number_some}
use Rattle.layout.proofs.Skipped.{entries_step}
use Rattle.recording.proofs.Sections.{entries_short, entries_bad, section_short, section_count, section_entries}
use Rattle.recording.proofs.read_section.Goals as goal

pub returns-then-s-at-lt2 : goal.returns-then-s-at-lt2
returns-then-s-at-lt2 c = rw c.ended.ensures (sym (section_short _ _ _ _ _ _ _ (omega arith)))

pub returns-then-not-count_ok : goal.returns-then-not-count_ok
returns-then-not-count_ok c =
    let n = c.get-n in
    rw c.refusal_of.ensures (sym (section_count _ _ _ _ _ _ _ n.result (omega arith) n.ensures (sym c.count_ok.ensures ∙ c.if-not-count_ok.true)))

pub loop-i-init : goal.loop-i-init
loop-i-init c =
    let p = c.passed_quickly-passed in
    let n = c.get-n in
    (p.ensures.inside, p.ensures.same ∙ sym (section_entries _ _ _ _ _ _ _ n.result (omega arith) n.ensures (sym c.count_ok.ensures ∙ c.if-not-count_ok.false)))

pub returns-then-s-place : goal.returns-then-s-place
returns-then-s-place c =
    let l = c.loop-i in
    let a = c.args in
    let short = rw c.width_of-width.ensures at c.if-s-place.true in
    let none = entries_short (test_of a.kind a.known a.s.now) (width_of a.kind) (length a.s.now) (c.get-n.result - l.i) (a.at + 2 + width_of a.kind * l.i) (omega arith) (omega (arith, short)) in
    rw c.ended-then-s-place.ensures (sym none ∙ l.invariant.1)

pub returns-in-Err : goal.returns-in-Err
returns-in-Err c =
    let l = c.loop-i in
    let a = c.args in
    let there = rw c.width_of-width.ensures at c.if-s-place.false in
    let number = rw c.width_of-width.ensures at c.in-Err.ensures in
    let bad = entries_bad (test_of a.kind a.known a.s.now) (width_of a.kind) (length a.s.now) (c.get-n.result - l.i) (a.at + 2 + width_of a.kind * l.i) (number_of c.in-Err.refusal) (omega arith) (omega (arith, there)) number (number_some c.in-Err.refusal) in
    rw c.width_of-width.ensures (sym bad ∙ l.invariant.1)

pub loop-i-preserved : goal.loop-i-preserved
loop-i-preserved c =
    let l = c.loop-i in
    let a = c.args in
    let there = rw c.width_of-width.ensures at c.if-s-place.false in
    let good = rw c.width_of-width.ensures at c.in_default.ensures in
    let step = entries_step (test_of a.kind a.known a.s.now) (width_of a.kind) (length a.s.now) (c.get-n.result - l.i) (a.at + 2 + width_of a.kind * l.i) 0 (omega arith) (omega (arith, there)) good refl in
    let left : c.get-n.result - l.i - 1 ≡ c.get-n.result - (l.i + 1) = omega arith in
    let place : a.at + 2 + width_of a.kind * l.i + width_of a.kind ≡ a.at + 2 + width_of a.kind * (l.i + 1) = omega arith in
    (omega (arith, there), rw (← left, ← place) (sym step ∙ l.invariant.1))
