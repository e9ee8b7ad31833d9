-- `reports::put_explained` meets its contract: a refusal by any number but 0 has words; else the recording is accepted.
use mathlib.Core.Path.{◌≡◌, refl}
use Rattle.std.proofs.Common.{None, Some}
use Rattle.reports.specs.Told.{explained_told}
use Rattle.reports.proofs.Front.{explained_accepted, explained_refused, told_none, told_some}
use Rattle.reports.proofs.put_explained.Goals as goal
use Rattle.reports.proofs.put_explained.Goals.{in_default-via-in-Some+else-refuses, in_default-via-in_default}

pub returns-in-Some-clause-value : goal.returns-in-Some-clause-value
returns-in-Some-clause-value c =
    let a = c.args in
    let t = c.in-Some.told in
    rw (c.in-Some.is, explained_refused a.name.now (explained_told (Some t) a.rows a.finding) (told_some t.number c.if-refuses.ensures)) c.put_why.ensures.value

pub returns-in_default-clause-value : goal.returns-in_default-clause-value
returns-in_default-clause-value c =
    let a = c.args in
    elim c.in_default.branch [
      | in_default-via-in-Some+else-refuses w ↦
          let t = w.in-Some.told in
          let none : t.number ≡ 0 = told_none t.number w.if-refuses.ensures in
          rw (w.in-Some.is, explained_accepted a.name.now (explained_told (Some t) a.rows a.finding) none) c.put_accepted.ensures.value
      | in_default-via-in_default w ↦ rw (w.in_default.is, explained_accepted a.name.now (explained_told None a.rows a.finding) refl) c.put_accepted.ensures.value
    ]
