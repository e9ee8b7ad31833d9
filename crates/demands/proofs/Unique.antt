-- Each entry point's contract is the equations that `Answers` has of it, so it allows one answer only: any two results that satisfy it
-- for the same arguments are equal, and so are any two final contents of a lent buffer. Document 01, "What each contract has to exclude".
use mathlib.Core.Path.{◌≡◌, refl, sym, ap, ap₂, ◌∙◌}
use mathlib.Core.List.{List}
use Prim.Native.Nat.{ℕ}
use contract.Lifetimes.{Lfts}
use denote.Triple.Clauses.{AtExit}
use denote.Triple.Entry.{Args, Res}
use Rattle.rules.proofs.States.{equal_same}
use Rattle.settings.proofs.Once.{check_once}
use Rattle.block.proofs.Once.{scanned_once, held_once}
use Rattle.recording.specs.Answer.{as_reading}
use Rattle.recording.specs.Reader.{reading}
use Rattle.recording.specs.Step.{as_step}
use Rattle.recording.proofs.Once.{reading_once, step_once}
use Rattle.writing.proofs.Once.{written_once}
use Rattle.rerun.proofs.Once.{replayed_once}
use Rattle.season.proofs.Once.{added_once}
use Rattle.queries.proofs.Once.{reply_once}
use Rattle.walk.specs.Started.{Started, as_started}
use Rattle.walk.specs.Walks.{start_of, next_of, moved_on}
use Rattle.walk.specs.contracts.start as start_contract
use Rattle.walk.specs.contracts.Walk.next as next_contract
use Rattle.demands.specs.OneAnswer.{Unique, Gives, GivesAs, none}
use Rattle.demands.specs.Answers.{EntryPoints, Answers}

-- ## In general: a contract that is an equation for the result, and one for what is left

module _ {A R E : Type 0} where
  pub by_equations : {B : Type 0} (allows : A → R → E → Type 0) (left : E → B) (result : A → R) (leaves : A → B)
      → ((a : A) (r : R) (e : E) → allows a r e → (r ≡ result a) × (left e ≡ leaves a)) → Unique allows left
  by_equations allows left result leaves is a r q e f h k = ((is a r e h).0 ∙ sym (is a q f k).0, (is a r e h).1 ∙ sym (is a q f k).1)

  pub by_equation : (allows : A → R → E → Type 0) (result : A → R) → ((a : A) (r : R) (e : E) → allows a r e → r ≡ result a) → Unique allows none
  by_equation allows result is = by_equations allows none result none (λ a r e h. (is a r e h, refl))

-- each contract of `EntryPoints` allows one answer only
pub one_answer : {A R E B : Type 0} {asked : A → Type 0} {allows : A → R → E → Type 0} {result : A → R} {left : E → B} {leaves : A → B}
    → Gives asked allows result left leaves → Unique allows left
one_answer {allows = allows} {result = result} {left = left} {leaves = leaves} g = by_equations allows left result leaves g.says

pub one_answer_as : {A R E B C : Type 0} {asked : A → Type 0} {allows : A → R → E → Type 0} {seen : R → C} {result : A → C} {left : E → B} {leaves : A → B}
    → GivesAs asked allows seen result left leaves → Unique allows left
one_answer_as g a r q e f h k = (g.once r q ((g.says a r e h).0 ∙ sym (g.says a q f k).0), (g.says a r e h).1 ∙ sym (g.says a q f k).1)

-- an equation for what is seen of the result, of which no two are seen alike
module _ {A R E C : Type 0} where
  pub by_equations_as : {B : Type 0} (allows : A → R → E → Type 0) (seen : R → C) (left : E → B) (result : A → C) (leaves : A → B)
      → ((r q : R) → seen r ≡ seen q → r ≡ q) → ((a : A) (r : R) (e : E) → allows a r e → (seen r ≡ result a) × (left e ≡ leaves a)) → Unique allows left
  by_equations_as allows seen left result leaves once is a r q e f h k =
      (once r q ((is a r e h).0 ∙ sym (is a q f k).0), (is a r e h).1 ∙ sym (is a q f k).1)

  pub by_equation_as : (allows : A → R → E → Type 0) (seen : R → C) (result : A → C) → ((r q : R) → seen r ≡ seen q → r ≡ q)
      → ((a : A) (r : R) (e : E) → allows a r e → seen r ≡ result a) → Unique allows none
  by_equation_as allows seen result once is = by_equations_as allows seen none result none once (λ a r e h. (is a r e h, refl))

-- ## The entry points

entry_points : (κ0 : Lfts 0) (κ1 : Lfts 1) (κ2 : Lfts 2) (κ3 : Lfts 3) → EntryPoints κ0 κ1 κ2 κ3
entry_points κ0 κ1 κ2 κ3 =
    record {
      fresh = record { nothing_asked = λ a. tt; says = λ a r e h. (h, refl) };
      scan = record { nothing_asked = λ a. tt; says = λ a r e h. h; once = scanned_once };
      held = record { nothing_asked = λ a. tt; says = λ a r e h. h; once = held_once };
      most-scans = record { nothing_asked = λ a. tt; says = λ a r e h. (h, refl) };
      scans-number = record { nothing_asked = λ a. tt; says = λ a r e h. (h, refl); once = check_once };
      read = record { nothing_asked = λ a. tt; says = λ a r e h. (h, refl); once = reading_once };
      row_step = record { nothing_asked = λ a. tt; says = λ a r e h. (h, refl); once = step_once };
      write_opening = record { nothing_asked = λ a. tt; says = λ a r e h. h; once = written_once };
      write-row = record { nothing_asked = λ a. tt; says = λ a r e h. h; once = written_once };
      nth = record { nothing_asked = λ a. tt; says = λ a r e h. (h, refl); once = step_once };
      replay = record { nothing_asked = λ a. tt; says = λ a r e h. (h, refl); once = replayed_once };
      pohandira_version = record { nothing_asked = λ a. tt; says = λ a r e h. (h, refl) };
      pohandira_check = record { nothing_asked = λ a. tt; says = λ a r e h. h };
      pohandira_count = record { nothing_asked = λ a. tt; says = λ a r e h. h };
      pohandira_replay = record { nothing_asked = λ a. tt; says = λ a r e h. (h.0, ap₂ (λ (b c : List ℕ). (b, c)) h.1.0 h.1.1) };
      season_empty = record { nothing_asked = λ a. tt; says = λ a r e h. (h, refl) };
      season_add = record { nothing_asked = λ a. tt; says = λ a r e h. (h, refl); once = added_once };
      pohandira_season = record { nothing_asked = λ a. tt; says = λ a r e h. h };
      why = record { nothing_asked = λ a. tt; says = λ a r e h. (h, refl); once = reply_once };
      pohandira_reasons = record { nothing_asked = λ a. tt; says = λ a r e h. h };
      pohandira_now = record { nothing_asked = λ a. tt; says = λ a r e h. h };
      opening = record { nothing_asked = λ a. tt; says = λ a r e h. (h.0, h.1.0) };
      closing = record { nothing_asked = λ a. tt; says = λ a r e h. (h.0, h.1.0) };
      has_room = record { nothing_asked = λ a. tt; says = λ a r e h. (h, refl) };
      most-piece = record { nothing_asked = λ a. tt; says = λ a r e h. (h, refl) };
      settings-number = record { nothing_asked = λ a. tt; says = λ a r e h. (h, refl); once = check_once };
      block-number = record { nothing_asked = λ a. tt; says = λ a r e h. (h, refl); once = check_once };
      effect-number = record { nothing_asked = λ a. tt; says = λ a r e h. (h, refl); once = check_once };
      row_number = record { nothing_asked = λ a. tt; says = λ a r e h. (h, refl); once = check_once };
      words-number = record { nothing_asked = λ a. tt; says = λ a r e h. (h, refl); once = check_once };
      refusal-number = record { nothing_asked = λ a. tt; says = λ a r e h. (h, refl) };
      known-of = record { nothing_asked = λ a. tt; says = λ a r e h. (h, refl) };
      is_several = record { nothing_asked = λ a. tt; says = λ a r e h. (h, refl) };
      forces-count = record { nothing_asked = λ a. tt; says = λ a r e h. (h, refl) };
      seen_of = record { nothing_asked = λ a. tt; says = λ a r e h. (h, refl) };
      most-hold = record { nothing_asked = λ a. tt; says = λ a r e h. (h, refl) };
      most-delay = record { nothing_asked = λ a. tt; says = λ a r e h. (h, refl) };
      code = record { nothing_asked = λ a. tt; says = λ a r e h. (h, refl) };
      same = record { nothing_asked = λ a. tt; says = λ a r e h. (h ∙ equal_same a.0.now a.1.0.now, refl) };
      within = record { nothing_asked = λ a. tt; says = λ a r e h. (h, refl) };
    }

pub answers : Answers
answers = record { entry_points = entry_points; walk_calls = λ 𝓛 mem run κ1 κ2. record { start = λ a r e. (refl, refl); next = λ a r e. (refl, refl) } }

-- the clauses of a walk allow one answer only
pub walk_start : (κs : Lfts 1)
    → Unique (λ (a : Args start_contract.signature κs) (r : Res start_contract.signature κs) (e : AtExit start_contract.ended κs). (as_started r ≡ start_of a.0) × (as_reading r.answer ≡ reading a.0.now)) none
walk_start κs a r q e f h k =
    let answer = reading_once r.answer q.answer (h.1 ∙ sym k.1) in
    let walk = ap (λ (s : Started). s.walk) (h.0 ∙ sym k.0) in
    ((λ j. record { answer = answer j; walk = walk j }), refl)

pub walk-next : (κs : Lfts 2)
    → Unique (λ (a : Args next_contract.signature κs) (r : Res next_contract.signature κs) (e : AtExit next_contract.ended κs). (as_step r ≡ next_of a.0.now) × (e.0.now ≡ moved_on a.0.now)) (λ e. e.0.now)
walk-next κs a r q e f h k = (step_once r q (h.0 ∙ sym k.0), h.1 ∙ sym k.1)
