-- `summaries::put_summary_header` meets its contract: one text.
use Rattle.summaries.specs.Summaries.{summary_header}
use Rattle.reports.proofs.Front.{front}
use native.Mathlib.Omega.{arith}
use Rattle.summaries.proofs.put_summary_header.Goals as goal

pub returns : goal.returns
unfolding summary_header
returns c =
    let both = front c.args.out.now _ _ summary_header c.put_text.ensures (omega arith) in
    record { value = both.0; upper_bound = both.1 }
