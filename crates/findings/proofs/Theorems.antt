-- What is promised of a finding, each theorem stated once by what it says. `explained s` is what `findings::explain` answers for any
-- bytes s. Document 01, "Refusal numbers".
use mathlib.Core.Path.{◌≡◌, refl, sym, ap, subst}
use mathlib.Core.Logic.{◌⊎◌, inl, inr}
use mathlib.Core.Bool.{false}
use mathlib.Core.List.{List}
use Prim.Native.Nat.{ℕ, zero, suc, ◌+◌, ◌*◌, ◌<◌}
use native.Mathlib.Omega.{arith}
use Rattle.recording.specs.Answer.{Reading}
use Rattle.recording.specs.Accepted.{Accepted}
use Rattle.recording.specs.Answers.{number, place, row_count_of, first_row, row_width}
use Rattle.recording.specs.Reader.{reading}
use Rattle.recording.specs.Refused.{Refused}
use Rattle.recording.specs.Steps.{row_place}
use Rattle.exactness.proofs.Refusals.{said_or_accepted}
use Rattle.exactness.proofs.Theorems.{refused_as_said}
use Rattle.rules.specs.Limits.{most_scans}
use lib.ListN.{length}
use Rattle.rerun.specs.Replay.{Outcome, replay, row_of}
use Rattle.rerun.proofs.Theorems.{a_refused_file_is_not_run, whole_or_stopped}
use Rattle.settings.proofs.Refusals.{granted_none}
use Rattle.findings.specs.declared.Finding.TheVariants.{Nothing}
use Rattle.findings.specs.Spots.{spot_of}
use Rattle.findings.specs.Findings.{finding_in, finding_of, explained, finding_number, finding_place, finding_test}
use Rattle.findings.proofs.Stops.{Says, refused_says, late_row}

-- ## The refusal number and the place

module _ (s : List ℕ) where
  -- a file that the reader refuses: its own refusal, as it is said of the bytes
  pub a_refusal_is_explained : (Accepted s → ⊥)
      → let x = explained s in (x.number ≡ number (reading s).answer) × (x.place ≡ place (reading s).answer) × Refused s x.number x.place
  unfolding explained
  a_refusal_is_explained h =
      let run = a_refused_file_is_not_run s h in
      let n = ap (λ (o : Outcome). o.number) run in
      let p = ap (λ (o : Outcome). o.place) run in
      (n, p, subst (λ (m : ℕ). Refused s m (replay s).place) (sym n) (subst (λ (q : ℕ). Refused s (number (reading s).answer) q) (sym p) (refused_as_said s h).1))

  -- any file: that of its replay, which `whole_or_stopped` says of one that the reader accepts (rerun, proofs/Theorems)
  pub a_replay_is_explained : let x = explained s in (x.number ≡ (replay s).number) × (x.place ≡ (replay s).place)
  unfolding explained
  a_replay_is_explained = (refl, refl)

  -- ## The finding

  -- nothing is wrong where nothing is refused
  pub nothing_is_wrong : (explained s).number ≡ 0 → (explained s).finding ≡ Nothing
  unfolding explained finding_of
  nothing_is_wrong z = granted_none Nothing (λ n. finding_in (spot_of s (replay s).place) s (replay s).place) (replay s).number z

  -- the finding at a refusal says it
  abbrev Right : (n p : ℕ) → Type 0
  Right n p = Says s n p (finding_of s n p)

  of_refusal : (n p : ℕ) → (n ≡ 0 → ⊥) → Says s n p (finding_in (spot_of s p) s p) → Right n p
  unfolding finding_of
  of_refusal zero p h says = absurd (h refl)
  of_refusal (suc k) p h says = says

  -- a row of an accepted file, at its place
  late : (i : ℕ) → i < row_count_of (reading s).answer → let p = row_place s i in Says s 9 p (finding_in (spot_of s p) s p)
  late =
      said_or_accepted s
      (λ (x : Reading). (i : ℕ) → i < row_count_of x.answer → let p = first_row x.answer + row_width x.answer * i in Says s 9 p (finding_in (spot_of s p) s p))
      (λ n p c i l. absurd (omega (arith, l)))
      (λ e r t i l. late_row s e r t.before (length s) t.rows i l)

  as_answered : (n p : ℕ) → (replay s).number ≡ n → (replay s).place ≡ p → Right n p → Right (replay s).number (replay s).place
  as_answered n p e f h = subst (λ (m : ℕ). Right m (replay s).place) (sym e) (subst (Right n) (sym f) h)

  of_replay : Accepted s → Right (replay s).number (replay s).place
  unfolding finding_of
  of_replay a = ends (whole_or_stopped s a)
    where
      ends : (((replay s).number ≡ 0) × ((replay s).place ≡ 0) × ((replay s).replay.rows ≡ row_count_of (reading s).answer))
          ⊎ (((replay s).number ≡ 9) × ((replay s).place ≡ row_place s (replay s).replay.rows) × ((replay s).replay.rows < row_count_of (reading s).answer)
          × (most_scans < (replay s).replay.state.scans_done + (row_of s (replay s).replay.rows).hold))
          → Right (replay s).number (replay s).place
      ends (inl w) = as_answered 0 0 w.0 w.1 (refl, refl, refl)
      ends (inr t) =
          let p = row_place s (replay s).replay.rows in
          as_answered 9 p t.0 t.1 (of_refusal 9 p (λ z. omega (arith, z)) (late (replay s).replay.rows t.2))

  of_reader : (Accepted s → ⊥) → Right (replay s).number (replay s).place
  of_reader h =
      let run = a_refused_file_is_not_run s h in
      let n = number (reading s).answer in
      let p = place (reading s).answer in
      as_answered n p (ap (λ (o : Outcome). o.number) run) (ap (λ (o : Outcome). o.place) run) (of_refusal n p h (refused_says s n p (refused_as_said s h).1))

  either : (n : ℕ) → number (reading s).answer ≡ n → Right (replay s).number (replay s).place
  either zero e = of_replay e
  either (suc k) e = of_reader (λ z. omega (arith, e, z))

  -- section, entry and fault tell the refusal number and the place again
  pub the_finding_has_the_number : finding_number (explained s).finding ≡ (explained s).number
  unfolding explained
  the_finding_has_the_number = (either (number (reading s).answer) refl).0

  pub the_finding_has_the_place : finding_place s (explained s).finding ≡ (explained s).place
  unfolding explained
  the_finding_has_the_place = (either (number (reading s).answer) refl).1

  -- and what a finding names is so: its test fails
  pub the_named_test_fails : finding_test s (explained s).finding ≡ false
  unfolding explained
  the_named_test_fails = (either (number (reading s).answer) refl).2
