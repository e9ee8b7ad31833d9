-- `now_table::show` meets its contract: by what the reader answers.
use mathlib.Core.Path.{ap}
use Rattle.recording.proofs.Opened.{refusal_is}
use Rattle.rerun.specs.Replay.{Outcome}
use Rattle.rerun.proofs.Files.{refused_replay, refusal_number}
use Rattle.now_table.proofs.Texts.{shows_refusal}
use Rattle.now_table.proofs.show.Goals as goal

pub returns-in-Err : goal.returns-in-Err
returns-in-Err c =
    let s = c.args.s.now in
    let refused = refusal_is _ _ c.in-Err.ensures in
    let o = refused_replay s _ _ refused in
    shows_refusal _ _ (ap (λ (x : Outcome). x.number) o) (ap (λ (x : Outcome). x.place) o) (refusal_number s _ _ refused) c.refuse.ensures.number_value c.refuse.ensures.out_after
