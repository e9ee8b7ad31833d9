-- `pieces::put_opening` meets its contract: its pieces follow each other at the places that the table gives.
use mathlib.Core.Path.{ap, ◌∙◌}
use Prim.Native.Nat.{ℕ, ◌+◌}
use Rattle.pieces.proofs.Opening.{opening_stored, opening-length}
use Rattle.pieces.proofs.put_opening.Goals as goal

pub returns : goal.returns
returns c =
    let a = c.args in
    let first = c.entries_of.ensures ∙ ap (λ (k : ℕ). k + 2) c.effects_section.ensures in
    let e = c.put_effects.ensures in
    let effects = rw first at e.s_after in
    let rows = rw c.rows_section.ensures at c.put.ensures in
    record {
      s_after = opening_stored a.st a.rows e.effects_len a.s.now _ _ _ c.put_block.ensures effects rows;
      rows_len = opening-length a.st a.rows e.effects_len;
    }
