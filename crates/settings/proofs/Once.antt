-- A refusal number is that of one refusal, and what is seen of an answer by its refusal number is seen of one answer only.
use mathlib.Core.Path.{◌≡◌, refl, sym, ap, ◌∙◌}
use mathlib.Core.List.{List, [], ◌∷◌}
use Prim.Native.Nat.{ℕ, ◌-◌}
use lib.ListN.{get_or}
use Rattle.std.proofs.Common.{Result, Ok, Err}
use Rattle.settings.specs.declared.numbers.Refusal.{Refusal}
use Rattle.settings.specs.declared.numbers.Refusal.TheVariants.{Ends, Block, Effects, Rows, BothForces, SeveralForced, LeftOver, State, LastScan, Room, Sums}
use Rattle.settings.specs.declared.numbers.Refused.{Refused}
use Rattle.settings.specs.Refusals.{number_of, number_in}
use Rattle.settings.proofs.Refusals.{number_some}

-- the refusal of a number
refusal_at : ℕ → Refusal
refusal_at n = get_or (Ends ∷ Block ∷ Effects ∷ Rows ∷ BothForces ∷ SeveralForced ∷ LeftOver ∷ State ∷ LastScan ∷ Room ∷ Sums ∷ []) (n - 1) Ends

found : (r : Refusal) → refusal_at (number_of r) ≡ r
unfolding refusal_at
found Ends = refl
found Block = refl
found Effects = refl
found Rows = refl
found BothForces = refl
found SeveralForced = refl
found LeftOver = refl
found State = refl
found LastScan = refl
found Room = refl
found Sums = refl

pub refusal_once : (r q : Refusal) → number_of r ≡ number_of q → r ≡ q
refusal_once r q e = sym (found r) ∙ ap refusal_at e ∙ found q

pub refused_once : (r q : Refused) → number_of r.refusal ≡ number_of q.refusal → r.place ≡ q.place → r ≡ q
refused_once r q e f = λ j. record { refusal = refusal_once r.refusal q.refusal e j; place = f j }

-- a check has no other value
pub check_once : (r q : Result (Unit {0}) Refusal) → number_in r ≡ number_in q → r ≡ q
check_once (Ok u) (Ok v) e = refl
check_once (Ok u) (Err q) e = absurd (number_some q (sym e))
check_once (Err r) (Ok v) e = absurd (number_some r e)
check_once (Err r) (Err q) e = ap Err (refusal_once r q e)
