-- What is promised of a report in lent bytes, beside the contract of `add`. Document 02, L1.
use mathlib.Core.Path.{◌≡◌, refl, sym, ap, ◌∙◌}
use mathlib.Core.List.{List, [], ◌∷◌, ◌++◌, flat_map, append_assoc}
use Prim.Native.Nat.{ℕ, zero, suc, ◌+◌, ◌*◌, ◌≤◌, ◌<◌}
use native.Mathlib.Nat.{zero-add, add-zero}
use native.Mathlib.Omega.{arith}
use lib.ListN.{length, get_or, drop, replicate, length-append}
use lib.Seq.{sets, sets-eq, length-sets, take_all, drop_at}
use Rattle.bits.specs.Numbers.{num_at, digits}
use Rattle.bits.specs.Lists.{tabulate}
use Rattle.bits.proofs.Lists.{length-tabulate, tabulate_ext, tabulate_take}
use Rattle.bits.proofs.Numbers.{length_digits, num_spelled}
use Rattle.settings.specs.Refusals.{granted}
use Rattle.settings.proofs.Refusals.{granted_refused, granted_either}
use Rattle.tally.specs.Tally.{sum_count}
use Rattle.season.specs.declared.Report.{Report}
use Rattle.season.specs.Answer.{Added}
use Rattle.season.specs.Season.{empty, added_to}
use Rattle.season.specs.Overall.{over_all}
use Rattle.season.proofs.Theorems.{a_refusal_leaves_the_report, else_it_grows}
use Rattle.numbers.specs.Numbers.{number_bytes, numbers}
use Rattle.numbers.proofs.Stores.{length-numbers}
use Rattle.season_bytes.specs.Bytes.{report_length, report_of, report_bytes, into_number, season_into, into_all}
use Rattle.season_bytes.proofs.Answers.{with-room}

-- ## Zeros are an empty report

zero-at : (n i : ℕ) → ◌≡◌ {A = ℕ} (get_or (replicate n 0) i 0) 0
zero-at zero i = refl
zero-at (suc n) zero = refl
zero-at (suc n) (suc i) = zero-at n i

zeros_spell : (w n at : ℕ) → num_at w (replicate n 0) at ≡ 0
zeros_spell zero n at = refl
zeros_spell (suc w) n at = rw (zero-at n at, zeros_spell w n (at + 1)) (omega arith)

pub zeros_are_empty : (n : ℕ) → report_of (replicate n 0) ≡ empty
unfolding report_of tabulate
zeros_are_empty n = λ j. record { sums = tabulate_ext (λ k. num_at number_bytes (replicate n 0) (number_bytes * k)) (λ k. 0) sum_count (λ k h. zeros_spell number_bytes n (number_bytes * k)) j }

-- ## A report that is written is read back

number_at : (p vs q : List ℕ) (at k : ℕ) → at ≡ length p → k < length vs → num_at number_bytes (p ++ (numbers vs ++ q)) (at + number_bytes * k) ≡ get_or vs k 0
unfolding flat_map
number_at p [] q at k e h = absurd (omega arith)
number_at p (v ∷ vs) q at zero e h =
    rw (append_assoc (digits number_bytes v) (numbers vs) q, add-zero at) (num_spelled number_bytes v p (numbers vs ++ q) at e (λ z. absurd (omega (arith, z))))
number_at p (v ∷ vs) q at (suc k) e h =
    let d = digits number_bytes v in
    let again : p ++ ((d ++ numbers vs) ++ q) ≡ (p ++ d) ++ (numbers vs ++ q) = simp append_assoc in
    let there : at + number_bytes * suc k ≡ at + number_bytes + number_bytes * k = omega arith in
    rw (again, there)
    (number_at (p ++ d) vs q (at + number_bytes) k (omega (arith, length-append p d, length_digits number_bytes v)) (omega arith))

module _ (bytes : List ℕ) (h : report_length ≤ length bytes) where
  pub read_back : (r : Report) → length r.sums ≡ sum_count → report_of (sets bytes 0 (report_bytes r)) ≡ r
  unfolding report_of
  read_back r l = λ j. record { sums = (each ∙ tabulate_take r.sums 0 sum_count (omega arith) ∙ take_all sum_count r.sums (omega arith)) j }
    where
      rest : List ℕ
      rest = drop (0 + length (numbers r.sums)) bytes

      stands : sets bytes 0 (report_bytes r) ≡ numbers r.sums ++ rest
      stands = sets-eq (numbers r.sums) bytes 0 (omega (arith, length-numbers r.sums))

      each : tabulate (λ k. num_at number_bytes (sets bytes 0 (report_bytes r)) (number_bytes * k)) sum_count ≡ tabulate (λ k. get_or r.sums k 0) sum_count
      each =
          tabulate_ext _ _ sum_count
          (λ k i. rw (stands, ← zero-add (number_bytes * k)) (number_at [] r.sums rest 0 k refl (omega arith)))

-- ## A recording in place

module _ (s bytes : List ℕ) where
  abbrev r : Report
  r = report_of bytes

  abbrev after : List ℕ
  after = sets bytes 0 (report_bytes (added_to r s).report)

  -- on any refusal no byte is touched
  pub a_refusal_touches_no_byte : (into_number s bytes ≡ 0 → ⊥) → season_into s bytes ≡ bytes
  a_refusal_touches_no_byte = granted_refused after (λ n. bytes) (into_number s bytes)

  pub as_long_as_before : length (season_into s bytes) ≡ length bytes
  as_long_as_before = granted_either after (λ n. bytes) (λ l. length l ≡ length bytes) (into_number s bytes) (λ z. length-sets bytes 0 (report_bytes (added_to r s).report)) (λ k. refl)

  module _ (h : report_length ≤ length bytes) where
    grown_long : into_number s bytes ≡ 0 → length (added_to r s).report.sums ≡ sum_count
    grown_long z = ap (λ (a : Added). length a.report.sums) (else_it_grows r s (with-room s bytes h ∙ z)) ∙ length-tabulate _ sum_count

    -- the report in the bytes is the one after the recording
    pub the_report_after : report_of (season_into s bytes) ≡ (added_to r s).report
    the_report_after = go (into_number s bytes) refl
      where
        go : (n : ℕ) → into_number s bytes ≡ n → report_of (granted n after (λ k. bytes)) ≡ (added_to r s).report
        go zero e = read_back bytes h (added_to r s).report (grown_long e)
        go (suc n) e = sym (ap (λ (a : Added). a.report) (a_refusal_leaves_the_report r s (λ z. omega (arith, e, with-room s bytes h, z))))

    -- and the bytes behind it are as they were
    pub the_rest_stays : drop report_length (season_into s bytes) ≡ drop report_length bytes
    the_rest_stays = granted_either after (λ n. bytes) (λ l. drop report_length l ≡ drop report_length bytes) (into_number s bytes) stays (λ k. refl)
      where
        stays : into_number s bytes ≡ 0 → drop report_length after ≡ drop report_length bytes
        stays z =
            let vs = report_bytes (added_to r s).report in
            let n : length vs ≡ report_length = omega (arith, length-numbers (added_to r s).report.sums, grown_long z) in
            ap (drop report_length) (sets-eq vs bytes 0 (omega (arith, n))) ∙ drop_at vs (drop (0 + length vs) bytes) report_length n ∙ ap (λ (k : ℕ). drop k bytes) (zero-add (length vs) ∙ n)

-- so calls one after the other add up as reports do
pub calls_add_up : (bytes : List ℕ) (ss : List (List ℕ)) → report_length ≤ length bytes → report_of (into_all bytes ss) ≡ over_all (report_of bytes) ss
calls_add_up bytes [] h = refl
calls_add_up bytes (s ∷ ss) h =
    calls_add_up (season_into s bytes) ss (omega (arith, as_long_as_before s bytes)) ∙ ap (λ (x : Report). over_all x ss) (the_report_after s bytes h)
