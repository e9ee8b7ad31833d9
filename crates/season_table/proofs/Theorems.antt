-- What is promised of a table over files: its report is that over all of them, its files are counted, and its lines are those of effects that
-- a report has. docs/FORMAT.md, "Season totals".
use mathlib.Core.Path.{◌≡◌, refl, sym, ap, ◌∙◌}
use mathlib.Core.List.{List, [], ◌∷◌, ◌++◌}
use Prim.Native.Nat.{ℕ, zero, suc, ◌+◌, ◌≤◌, max}
use native.Mathlib.Nat.{max-le}
use native.Mathlib.Omega.{arith}
use lib.ListN.{length}
use Rattle.rules.specs.Limits.{most_effects}
use Rattle.std.specs.Result.{result_ok}
use Rattle.std.proofs.Common.{Option, None, Some, Result, Ok, Err}
use Rattle.settings.specs.Refusals.{granted}
use Rattle.settings.proofs.Refusals.{number_some, granted_none, granted_refused, granted_either}
use Rattle.rerun.proofs.Files.{most-effects}
use Rattle.season.specs.declared.Report.{Report}
use Rattle.season.specs.declared.Added.{Added as Grown}
use Rattle.season.specs.declared.NotAdded.{NotAdded}
use Rattle.season.specs.Answer.{Added, as_added}
use Rattle.season.specs.Season.{empty, season_number, refused, accepted, added_to}
use Rattle.season.specs.Overall.{over_all}
use Rattle.season.proofs.Theorems.{a_refusal_leaves_the_report, else_it_grows, added_is_replayed}
use Rattle.season_table.specs.declared.Table.{Table}
use Rattle.season_table.specs.Files.{empty_table, with_added, with_refused, StandsFor, with_file, table_from, Over, files_of}

-- ## One file more

module _ (t : Table) (a : Added) where
  pub file_added : a.number ≡ 0 → with_file t a ≡ with_added t a
  unfolding with_file
  file_added e = granted_none (with_added t a) (λ n. with_refused t) a.number e

  pub file_refused : (a.number ≡ 0 → ⊥) → with_file t a ≡ with_refused t
  unfolding with_file
  file_refused h = granted_refused (with_added t a) (λ n. with_refused t) a.number h

  either : (P : Table → Type 0) → (a.number ≡ 0 → P (with_added t a)) → P (with_refused t) → P (with_file t a)
  unfolding with_file
  either P g h = granted_either (with_added t a) (λ n. with_refused t) P a.number g (λ n. h)

  pub one_file_counted : files_of (with_file t a) ≡ files_of t + 1
  one_file_counted = either (λ (u : Table). files_of u ≡ files_of t + 1) (λ e. omega arith) (omega arith)

  effects_stay_few : t.effects ≤ most_effects → a.effects ≤ most_effects → (with_file t a).effects ≤ most_effects
  effects_stay_few h g = either (λ (u : Table). u.effects ≤ most_effects) (λ e. max-le h g) h

-- a recording that is added has at most sixteen effects, and a refused one shows none
added_few : (r : Report) (s : List ℕ) → (added_to r s).effects ≤ most_effects
unfolding added_to
added_few r s =
    granted_either (accepted r s) (refused r s) (λ (a : Added). a.effects ≤ most_effects) (season_number r s)
    (λ z. most-effects s (added_is_replayed r s z).0)
    (λ k. omega arith)

-- a refused recording leaves the report
kept : (r : Report) (s : List ℕ) → ((added_to r s).number ≡ 0 → ⊥) → r ≡ (added_to r s).report
kept r s h =
    let refuses : season_number r s ≡ 0 → ⊥ = λ z. h (ap (λ (a : Added). a.number) (else_it_grows r s z)) in
    sym (ap (λ (a : Added). a.report) (a_refusal_leaves_the_report r s refuses))

report_after : (t : Table) (s : List ℕ) → (with_file t (added_to t.report s)).report ≡ (added_to t.report s).report
unfolding with_file
report_after t s = go (added_to t.report s).number (kept t.report s)
  where
    a : Added
    a = added_to t.report s

    go : (n : ℕ) → ((n ≡ 0 → ⊥) → t.report ≡ a.report) → (granted n (with_added t a) (λ k. with_refused t)).report ≡ a.report
    go zero h = refl
    go (suc n) h = h (λ e. omega (arith, e))

-- ## What is told of a file

module _ (t : Table) (a : Added) where
  pub told_added : (g : Grown) → StandsFor (Some g) a → record { report = g.report; effects = max t.effects g.effects; recordings = t.recordings + 1; refused = t.refused } ≡ with_file t a
  told_added g s = sym (file_added t a s.0 ∙ (λ j. record { report = s.2 j; effects = max t.effects (s.1 j); recordings = t.recordings + 1; refused = t.refused }))

  pub told_refused : StandsFor None a → with_refused t ≡ with_file t a
  told_refused s = sym (file_refused t a s)

-- it stands for some answer
pub an_answer : Option Grown → Added
an_answer (Some g) = record { number = 0; place = 0; effects = g.effects; report = g.report }
an_answer None = record { number = 1; place = 0; effects = 0; report = empty }

pub an_answer_stands : (told : Option Grown) → StandsFor told (an_answer told)
unfolding an_answer
an_answer_stands (Some g) = (refl, refl, refl)
an_answer_stands None = λ e. omega (arith, e)

-- what was added, of the answer of `season`, stands for that answer
pub added_stands : (r : Result Grown NotAdded) → StandsFor (result_ok r) (as_added r)
added_stands (Ok g) = (refl, refl, refl)
added_stands (Err e) = number_some e.refused.refusal

-- ## All files

pub the_report_is_over_all : (t : Table) (ss : List (List ℕ)) → (table_from t ss).report ≡ over_all t.report ss
the_report_is_over_all t [] = refl
the_report_is_over_all t (s ∷ ss) =
    the_report_is_over_all (with_file t (added_to t.report s)) ss ∙ ap (λ (r : Report). over_all r ss) (report_after t s)

pub files_are_counted : (t : Table) (ss : List (List ℕ)) → files_of (table_from t ss) ≡ files_of t + length ss
files_are_counted t [] = omega arith
files_are_counted t (s ∷ ss) =
    let next = with_file t (added_to t.report s) in
    omega (arith, files_are_counted next ss, one_file_counted t (added_to t.report s))

few_effects : (t : Table) → t.effects ≤ most_effects → (ss : List (List ℕ)) → (table_from t ss).effects ≤ most_effects
few_effects t h [] = h
few_effects t h (s ∷ ss) = few_effects (with_file t (added_to t.report s)) (effects_stay_few t (added_to t.report s) h (added_few t.report s)) ss

one_behind : (t : Table) (ss : List (List ℕ)) (s : List ℕ) → table_from t (ss ++ (s ∷ [])) ≡ with_file (table_from t ss) (added_to (table_from t ss).report s)
one_behind t [] s = refl
one_behind t (u ∷ ss) s = one_behind (with_file t (added_to t.report u)) ss s

-- ## A table over some files

pub over_none : Over empty_table
over_none = record { files = []; shows = refl }

pub over_one_more : (t : Table) (s : List ℕ) → Over t → Over (with_file t (added_to t.report s))
over_one_more t s o =
    record {
      files = o.files ++ (s ∷ []);
      shows = ap (λ (u : Table). with_file u (added_to u.report s)) o.shows ∙ sym (one_behind empty_table o.files s);
    }

module _ (t : Table) (o : Over t) where
  pub a_table's_effects_are_few : t.effects ≤ most_effects
  a_table's_effects_are_few = rw o.shows (few_effects empty_table (omega arith) o.files)

  pub a_table's_report_is_over_its_files : t.report ≡ over_all empty o.files
  a_table's_report_is_over_its_files = ap (λ (u : Table). u.report) o.shows ∙ the_report_is_over_all empty_table o.files

  pub a_table_counts_its_files : files_of t ≡ length o.files
  a_table_counts_its_files = omega (arith, ap files_of o.shows, files_are_counted empty_table o.files)
