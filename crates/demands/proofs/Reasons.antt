-- Reasons, as the page says them: each field follows from a law of `reasons`, of `reasoned` or of the order of refusals.
use mathlib.Core.Path.{◌≡◌, refl, sym, ap, ◌∙◌}
use mathlib.Core.List.{[]}
use Prim.Native.Nat.{ℕ, zero, suc, ◌-◌}
use lib.ListN.{get_or}
use Rattle.rules.specs.Rules.{no_slot}
use Rattle.settings.specs.declared.Settings.{Settings}
use Rattle.settings.specs.declared.Words.{Words}
use Rattle.settings.specs.Refusals.{granted}
use Rattle.settings.specs.Signals.{signals_of}
use Rattle.block.specs.declared.State.{State}
use Rattle.reasons.specs.declared.Reason.{Reason}
use Rattle.reasons.proofs.Exactly.{reason_fits, fits_only}
use Rattle.reasons.proofs.Lands.{same_reason_same_state_and_timer}
use Rattle.reasoned.specs.Reasoned.{reason_at}
use Rattle.queries.specs.Reply.{Reply}
use Rattle.queries.specs.Reply.{Because, Refused}
use Rattle.queries.specs.Queries.{query_number, reply_number, reply_place, reply_of}
use Rattle.demands.specs.Order.{InOrder}
use Rattle.demands.specs.Reasons.{FitsAt, ExactlyOneFits, SameReasonLeadsAlike, query_cases}
use Rattle.demands.proofs.Order.{granted_in_order, query_in_order}

it_fits : (st : Settings) (w : Words) (x : State) (i : ℕ) → FitsAt st w x i (reason_at st w x i)
it_fits st w x i = reason_fits (signals_of st w i) (get_or x.slots i no_slot)

pub exactly-one : (st : Settings) (w : Words) (x : State) (i : ℕ) → ExactlyOneFits st w x i
exactly-one st w x i = record { reason = reason_at st w x i; it_fits = it_fits st w x i; no_other = fits_only (signals_of st w i) (get_or x.slots i no_slot) }

pub leads_alike : (st : Settings) (v w : Words) (x : State) (i : ℕ) (r : Reason) → SameReasonLeadsAlike st v w x i r
unfolding signals_of
leads_alike st v w x i r f g =
    let slot = get_or x.slots i no_slot in
    same_reason_same_state_and_timer (signals_of st v i) (signals_of st w i) slot refl refl
    (sym (fits_only (signals_of st v i) slot r f) ∙ fits_only (signals_of st w i) slot r g)

-- ## The query

module _ (st : Settings) (w : Words) (x : State) (e : ℕ) where
  abbrev found : Reason
  found = reason_at st w x (e - 1)

  pub refuses_in_order : InOrder (query_cases st w x e) (reply_number (reply_of st w x e)) (reply_place (reply_of st w x e) ≡ 0)
  unfolding reply_of
  refuses_in_order =
      let order = granted_in_order reply_number (Because found) (λ n. Refused n 0) [] [] refl (λ k. refl) (query_number st w x e) (query_cases st w x e) (query_in_order st w x e) in
      record { first = order.first; otherwise = λ h. ap reply_place (order.otherwise h).0 }

  -- the reason that is answered is the one that is found
  abbrev answered : Reply → Reason
  answered (Because r) = r
  answered (Refused n p) = found

  same : (n : ℕ) (r : Reason) → granted n (Because found) (λ k. Refused k 0) ≡ Because r → r ≡ found
  same zero r h = sym (ap answered h)
  same (suc n) r h = sym (ap answered h)

  pub answers_what_fits : (r : Reason) → reply_of st w x e ≡ Because r → FitsAt st w x (e - 1) r
  unfolding reply_of
  answers_what_fits r h = rw (same (query_number st w x e) r h) (it_fits st w x (e - 1))
