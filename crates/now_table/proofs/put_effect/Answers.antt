-- `now_table::put_effect` meets its contract: four fields, one after the other.
use mathlib.Core.List.{◌++◌}
use Rattle.bits.proofs.Puts.{put_then}
use Rattle.now_table.proofs.Lines.{number_field, state_field, first_field, reason_field, fields}
use Rattle.now_table.proofs.put_effect.Goals as goal

pub returns : goal.returns
returns c =
    let a = c.args in
    let n = a.n in
    let p = a.p in
    let f = a.first_out in
    let r = a.r in
    let behind = put_then _ _ _ _ _ _ (first_field n p f r) (reason_field n p f r) c.put_field-reason.ensures c.put_end.ensures in
    let later = put_then _ _ _ _ _ _ (state_field n p f r) (first_field n p f r ++ reason_field n p f r) c.put_field-first.ensures behind in
    rw (fields n p f r)
    (put_then a.out.now _ _ a.at _ _ (number_field n p f r) (state_field n p f r ++ (first_field n p f r ++ reason_field n p f r)) c.put_field-state.ensures later)
