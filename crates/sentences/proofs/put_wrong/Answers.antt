-- `sentences::put_wrong` meets its contract: the entry's name, a colon and the fault, one after the other.
use mathlib.Core.Path.{ap}
use mathlib.Core.List.{◌++◌}
use native.Mathlib.Omega.{arith}
use lib.ListN.{length}
use Rattle.bits.specs.Decimal.{ascii}
use Rattle.bits.proofs.Puts.{put_then}
use Rattle.sentences.specs.Sentences.{fault_text, entry_name, entry_wrong}
use Rattle.sentences.proofs.Room.{length-wrong}
use Rattle.sentences.proofs.put_wrong.Goals as goal

pub put_entry-named-requires : goal.put_entry-named-requires
put_entry-named-requires c = let a = c.args in omega (arith, length-wrong a.section a.entry a.fault)

pub put_text-next-requires : goal.put_text-next-requires
put_text-next-requires c = let a = c.args in omega (arith, length-wrong a.section a.entry a.fault)

pub put_text-requires : goal.put_text-requires
put_text-requires c = let a = c.args in omega (arith, length-wrong a.section a.entry a.fault, ap length c.fault_text.ensures)

pub returns : goal.returns
unfolding entry_wrong
returns c =
    let a = c.args in
    let later = put_then c.put_entry-named.new.out _ _ c.put_entry-named.result _ _ (ascii ": ") (fault_text a.fault) c.put_text-next.ensures (rw c.fault_text.ensures at c.put_text.ensures) in
    put_then a.out.now _ _ a.at _ _ (entry_name a.section a.entry) (ascii ": " ++ fault_text a.fault) c.put_entry-named.ensures later
