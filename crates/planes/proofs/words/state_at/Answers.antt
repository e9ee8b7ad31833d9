-- `planes::words::state_at` meets its contract: each return by the tests that led there.
use mathlib.Core.Path.{sym, ◌∙◌}
use Rattle.planes.specs.Planes.{state_at}
use Rattle.planes.proofs.words.state_at.Goals as goal

pub returns-then-bit : goal.returns-then-bit
unfolding state_at
returns-then-bit c =
    rw (sym c.bit.ensures ∙ c.if-bit.true)

pub returns-then-bit-2 : goal.returns-then-bit-2
unfolding state_at
returns-then-bit-2 c =
    rw (sym c.bit.ensures ∙ c.if-bit.false, sym c.bit-2.ensures ∙ c.if-bit-2.true)

pub returns-then-bit-3 : goal.returns-then-bit-3
unfolding state_at
returns-then-bit-3 c =
    rw (sym c.bit.ensures ∙ c.if-bit.false, sym c.bit-2.ensures ∙ c.if-bit-2.false, sym c.bit-3.ensures ∙ c.if-bit-3.true)

pub returns-then-bit-4 : goal.returns-then-bit-4
unfolding state_at
returns-then-bit-4 c =
    rw (sym c.bit.ensures ∙ c.if-bit.false, sym c.bit-2.ensures ∙ c.if-bit-2.false, sym c.bit-3.ensures ∙ c.if-bit-3.false, sym c.bit-4.ensures ∙ c.if-bit-4.true)

pub returns-then-bit-5 : goal.returns-then-bit-5
unfolding state_at
returns-then-bit-5 c =
    rw (sym c.bit.ensures ∙ c.if-bit.false, sym c.bit-2.ensures ∙ c.if-bit-2.false, sym c.bit-3.ensures ∙ c.if-bit-3.false, sym c.bit-4.ensures ∙ c.if-bit-4.false, sym c.bit-5.ensures ∙ c.if-bit-5.true)

pub returns : goal.returns
unfolding state_at
returns c =
    rw (sym c.bit.ensures ∙ c.if-bit.false, sym c.bit-2.ensures ∙ c.if-bit-2.false, sym c.bit-3.ensures ∙ c.if-bit-3.false, sym c.bit-4.ensures ∙ c.if-bit-4.false, sym c.bit-5.ensures ∙ c.if-bit-5.false)
