-- `reports::put_why` meets its contract: the name, the refusal, its words and LF, one after the other.
use mathlib.Core.List.{◌++◌}
use native.Mathlib.Omega.{arith}
use Rattle.bits.specs.Decimal.{ascii}
use Rattle.bits.proofs.Puts.{put_then}
use Rattle.sentences.specs.Sentences.{sentence}
use Rattle.reports.specs.Reports.{refused_at, refused_why}
use Rattle.reports.proofs.Front.{front-within, why_pieces}
use Rattle.reports.proofs.put_why.Goals as goal

pub returns : goal.returns
returns c =
    let a = c.args in
    let out = a.out.now in
    let name = a.name.now in
    let refused = refused_at a.number a.place in
    let words = sentence a.finding in
    let named = put_then out _ _ 0 _ _ name refused c.put_text-refused.ensures c.put_refused_at-words.ensures.value in
    let worded = put_then out _ _ 0 _ _ (name ++ refused) words named c.put_finding-end.ensures.value in
    let line = put_then out _ _ 0 _ _ (name ++ refused ++ words) (ascii "\n") worded c.put_text.ensures in
    let both = front-within out _ _ (refused_why name a.number a.place a.finding) (rw (why_pieces name a.number a.place a.finding) line)
    (omega
    (arith, c.put_text.ensures.0, c.put_finding-end.ensures.upper_bound, c.put_refused_at-words.ensures.upper_bound, c.put_text-refused.ensures.0, c.requires.0, c.requires.1)) in
    record { value = both.0; upper_bound = both.1 }
