-- `printing::print_closing` meets its contract: the closing fits, or what waits is written and it fits at the front.
use mathlib.Core.Path.{◌≡◌, refl, sym, ◌∙◌}
use Prim.Native.Nat.{◌+◌}
use native.Mathlib.Omega.{arith}
use lib.ListN.{length, take, drop}
use lib.Seq.{length-take-le}
use borrow.Author.Rules.{rules}
use borrow.Author.Tests.{leb-true}
use Rattle.std.specs.Prelude.{None}
use Rattle.text.specs.Room.{most_piece}
use Rattle.std.proofs.lemmas.Result.{IfOk-weaker}
use Rattle.listing.specs.Printed.{listing_of}
use Rattle.printing.proofs.Handed.{appends_then, left_with}
use Rattle.printing.proofs.Parts.{next, goes, closed}
use Rattle.printing.proofs.print_closing.Goals as goal

pub write_closing-requires : goal.write_closing-requires
write_closing-requires g c =
    let a = c.args in
    let fits = leb-true (a.at + most_piece) (length a.out.now) (sym c.has_room.ensures ∙ c.if-has_room.true) in
    record { closes = c.requires.closes; most_piece_in_bounds = (fits, c.requires.at_in_bounds.1, omega arith) }

pub flush-requires : goal.flush-requires
flush-requires g c =
    let a = c.args in
    let w = c.requires.closes.waits in record {
      written = w.written;
      next_part = next w _ (closed c.requires.closes _ refl);
      part_bound = omega (arith, length-take-le a.at a.out.now c.requires.at_in_bounds.0, c.requires.at_in_bounds);
    }

pub write_closing-requires-2 : goal.write_closing-requires-2
write_closing-requires-2 g c =
    let a = c.args in
    let written : c.in_ok-next.next.failed ≡ None = search rules in
    let gone : c.in_ok-next.next.gone ≡ c.args.sent.gone + length (take a.at a.out.now) = search rules in
    let w = goes c.requires.closes.waits _ (closed c.requires.closes _ refl) written gone in record {
      closes = record { waits = w; accepted = c.requires.closes.accepted; last = c.requires.closes.last };
      most_piece_in_bounds =
          (omega (arith, c.requires.at_in_bounds.1.roomy), c.requires.at_in_bounds.1, omega (arith, gone, length-take-le a.at a.out.now c.requires.at_in_bounds.0, c.requires.at_in_bounds.2));
    }

pub returns-clause-handed : goal.returns-clause-handed
returns-clause-handed g c =
    let l = listing_of c.args.why c.args.s.now in
    let after = c.in_ok-next.ensures in
    let n = next c.requires.closes.waits _ (closed c.requires.closes _ refl) in
    rw (sym (left_with n after.gone_after)) (IfOk-weaker _ _ _ (λ _. appends_then _ _ _ _ (drop c.in_ok-next.next.gone l) after.handed) c.write_closing-2.ensures.handed)
