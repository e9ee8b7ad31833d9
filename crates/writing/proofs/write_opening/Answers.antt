-- `writing::write_opening` meets its contract: the length that the table gives is that of the opening.
use mathlib.Core.Path.{◌≡◌, refl, ap, sym, ◌∙◌}
use Prim.Native.Nat.{ℕ, ◌+◌}
use native.Mathlib.Omega.{arith}
use lib.ListN.{length}
use Rattle.recording.specs.Encode.{opening}
use Rattle.writing.specs.Writer.{opening_number}
use Rattle.bits.proofs.Lists.{length_mapped}
use Rattle.writing.proofs.Opening.{opening_count, right_length}
use Rattle.writing.proofs.Pieces.{piece_short, piece_fits}
use borrow.Author.Rules.{rules}
use Rattle.writing.proofs.write_opening.Goals as goal

pub rows_section-requires : goal.rows_section-requires
rows_section-requires c = opening_count c.args.st c.args.rows (sym c.in_ok-check_opening.ensures)

pub entries_of-due-requires : goal.entries_of-due-requires
entries_of-due-requires c = omega (arith, c.rows_section.ensures, opening_count c.args.st c.args.rows (sym c.in_ok-check_opening.ensures))

pub returns-then-out-due : goal.returns-then-out-due
returns-then-out-due c =
    let a = c.args in
    let right : 0 ≡ opening_number a.st a.rows = c.in_ok-check_opening.ensures in
    let sixteen : length a.st.effects ≡ 16 = search (rules, length_mapped) in
    let len = right_length a.st a.rows (sym right) sixteen in
    let is = c.entries_of-due.ensures ∙ ap (λ (k : ℕ). k + 2) c.rows_section.ensures in
    let r = piece_short _ _ (opening a.st a.rows) a.out.now right refl (omega (arith, len, is)) in
    record { value = r.0; out_after = r.1 }

pub put_opening-requires : goal.put_opening-requires
put_opening-requires c =
    let is = c.entries_of-due.ensures ∙ ap (λ (k : ℕ). k + 2) c.rows_section.ensures in
    (opening_count c.args.st c.args.rows (sym c.in_ok-check_opening.ensures), omega (arith, is))

pub returns : goal.returns
returns c =
    let e = c.put_opening.ensures in
    let right : 0 ≡ opening_number c.args.st c.args.rows = c.in_ok-check_opening.ensures in
    let is = c.entries_of-due.ensures ∙ ap (λ (k : ℕ). k + 2) c.rows_section.ensures in
    let a = c.args in
    let r = piece_fits _ _ (opening a.st a.rows) a.out.now right refl c.entries_of-due.result (omega (arith, e.rows_len, is)) _ (omega (arith, is)) e.s_after in
    record { value = r.0; out_after = r.1 }
