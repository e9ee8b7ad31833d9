-- `block::State::scan` meets its contract: it is a held run of hold 1.
use mathlib.Core.Path.{ap, ◌∙◌}
use Rattle.std.proofs.Common.{Ok, Err, Result}
use Rattle.settings.proofs.Refusals.{passed_on}
use Rattle.block.specs.declared.Scanned.{Scanned as ScanDone}
use Rattle.block.specs.declared.RunRefused.{RunRefused}
use Rattle.block.specs.Answer.{as_scanned}
use Rattle.block.proofs.Scans.{scan_is_held, scan_into_held}
use Rattle.block.proofs.State.scan.Goals as goal

pub returns-in_err-held : goal.returns-in_err-held
returns-in_err-held c =
    let a = c.args in
    let held = c.in_err-held.ensures in record {
      value = ap (λ (r : Result ScanDone RunRefused). as_scanned r) (passed_on _ _ c.from_residual.ensures) ∙ scan_is_held a.st a.w a.self _ _ held.value;
      out_after = held.out_after ∙ scan_into_held a.st a.w a.self a.out.now;
    }

pub returns : goal.returns
returns c =
    let a = c.args in
    let held = c.in_ok-held.ensures in record {
      value = c.scan_of.ensures ∙ scan_is_held a.st a.w a.self _ _ held.value;
      out_after = held.out_after ∙ scan_into_held a.st a.w a.self a.out.now;
    }
