-- `printing::write_rest` meets its contract: what waits ends where the listing ends.
use mathlib.Core.Path.{refl}
use mathlib.Core.List.{[], append-nil}
use native.Mathlib.Omega.{arith}
use lib.Seq.{length-take-le}
use Rattle.listing.specs.Printed.{listing_of}
use Rattle.printing.proofs.Handed.{rest_of}
use Rattle.printing.proofs.Parts.{next, told}
use Rattle.rerun.specs.Replay.{replay}
use Rattle.printing.proofs.write_rest.Goals as goal

pub flush-requires : goal.flush-requires
flush-requires g c =
    let a = c.args in
    let w = c.requires.waiting.0 in record {
      written = w.written;
      next_part = next w [] (append-nil (listing_of a.why a.s.now));
      part_bound = omega (arith, length-take-le a.at a.out.now c.requires.at_in_bounds.0);
    }

pub returns : goal.returns
returns g c =
    let sent = c.in_ok-sent.ensures in
    let w = c.requires.waiting.0 in record {
      told = told w _ (replay c.args.s.now).number c.requires.waiting.1 sent.written sent.gone_after refl;
      handed = rw (rest_of w) sent.handed;
    }
