-- `effects::event_at` meets its contract: its readers give the fields of the event whose record stands there.
use mathlib.Core.Path.{◌∙◌}
use native.Mathlib.Omega.{arith}
use Rattle.rules.proofs.States.{code_at_most}
use Rattle.effects.proofs.Records.{fields-of, read_as}
use Rattle.effects.proofs.event_at.Goals as goal

pub of_code-requires : goal.of_code-requires
of_code-requires c =
    omega (arith, c.get-4.ensures, (fields-of c.args.s.now c.args.at c.requires.0 c.requires.1).from, code_at_most c.requires.0.from)

pub of_code-requires-2 : goal.of_code-requires-2
of_code-requires-2 c =
    omega (arith, c.get-5.ensures, (fields-of c.args.s.now c.args.at c.requires.0 c.requires.1).to, code_at_most c.requires.0.to)

pub returns : goal.returns
returns c =
    read_as c.args.s.now c.args.at c.requires.0 _ c.requires.1 c.get.ensures c.get-2.ensures c.get-3.ensures (c.of_code.ensures ∙ c.get-4.ensures) (c.of_code-2.ensures ∙ c.get-5.ensures) c.get-6.ensures
