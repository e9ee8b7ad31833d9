-- What a piece results in is that of one answer only.
use mathlib.Core.Path.{◌≡◌, sym, ap}
use Prim.Native.Nat.{ℕ}
use Rattle.std.proofs.Common.{Result, Ok, Err}
use Rattle.settings.specs.declared.numbers.Refusal.{Refusal}
use Rattle.settings.proofs.Refusals.{number_some}
use Rattle.settings.proofs.Once.{refusal_once}
use Rattle.writing.specs.Answers.{written_number, written_length}
use Rattle.writing.specs.Written.{as_written}

pub written_once : (r q : Result ℕ Refusal) → as_written r ≡ as_written q → r ≡ q
written_once (Ok n) (Ok m) e = ap Ok (ap written_length e)
written_once (Ok n) (Err q) e = absurd (number_some q (sym (ap written_number e)))
written_once (Err r) (Ok m) e = absurd (number_some r (ap written_number e))
written_once (Err r) (Err q) e = ap Err (refusal_once r q (ap written_number e))
