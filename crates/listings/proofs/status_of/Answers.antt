-- `listings::status_of` meets its contract: by the two cases of its test.
use Prim.Native.Nat.{ℕ}
use mathlib.Core.Path.{sym}
use Rattle.settings.proofs.Refusals.{granted_none, granted_refused}
use Rattle.inputs.specs.Statuses.{done, refused}
use Rattle.listings.proofs.status_of.Goals as goal

pub returns-then-number-ne0 : goal.returns-then-number-ne0
returns-then-number-ne0 c = sym (granted_refused {A = ℕ} done (λ n. refused) c.args.number c.if-number-ne0.true)

pub returns : goal.returns
returns c = sym (granted_none {A = ℕ} done (λ n. refused) c.args.number c.if-number-ne0.false)
