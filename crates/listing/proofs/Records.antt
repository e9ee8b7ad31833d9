-- The records that a row leaves in the space that it was lent: they are those of some events, and the row has their lines.
use mathlib.Core.Path.{◌≡◌, refl, sym, ap, ap₂, ◌∙◌}
use mathlib.Core.Bool.{Bool, true, false}
use mathlib.Core.List.{List, [], ◌∷◌, ◌++◌, flat_map, map}
use Prim.Native.Nat.{ℕ, zero, suc, ◌+◌, ◌-◌, ◌*◌, ◌≤◌}
use native.Mathlib.Omega.{arith}
use Rattle.std.specs.Prelude.{None, Some, IfSome}
use lib.ListN.{length, get_or}
use lib.Seq.{sets, length-sets}
use Rattle.rules.specs.Limits.{most_effects}
use Rattle.effects.specs.declared.Event.{Event}
use Rattle.effects.specs.Records.{record_length, bytes, StandFrom, Numbered, most_records, most_row_bytes}
use Rattle.effects.proofs.Records.{front_bytes}
use Rattle.settings.specs.Refusals.{granted}
use Rattle.recording.specs.Reader.{reading}
use Rattle.rerun.specs.declared.Run.{Run}
use Rattle.rerun.specs.Answer.{Turn}
use Rattle.rerun.specs.Replay.{first_rows, row_of, row_run}
use Rattle.rerun.specs.Turn.{Going, RowDone}
use Rattle.rerun.proofs.Files.{most-effects}
use Rattle.trace.proofs.Numbered.{numbered_more, numbered_row}
use Rattle.reasons.specs.declared.Sight.{Sight}
use Rattle.reasons.specs.declared.Signs.{Signs}
use Rattle.reasons.specs.Given.{Narrow, signs_in}
use Rattle.reasons.proofs.Given.{sight_is_narrow}
use Rattle.reasons.specs.Reasons.{reason_by}
use Rattle.reasoned.specs.Told.{signs_for, with_reason, row_sight}
use Rattle.reasoned.proofs.Rows.{signs_in_array}
use Rattle.reasoned.proofs.Theorems.{a_row_tells_its_reasons}
use Rattle.wording.specs.Text.{words_of}
use Rattle.text.specs.Pieces.{further, column_lines}
use Rattle.text.specs.Text.{line_with, lines}
use Rattle.listing.specs.Why.{reason_lines}
use Rattle.listing.specs.Printed.{lines_of_row, row_lines, column_of}

-- ## The column

-- what is read of a row has 16 bits
pub narrow : (why : Bool) (s : List ℕ) (i : ℕ) → IfSome (column_of why s i) Narrow
narrow true s i = sight_is_narrow (reading s).settings.options (row_of s i).words
narrow false s i = tt

-- ## The lines

-- records that are told the same have the same lines
same_lines : (sight : Sight) (array : List ℕ) (signs : ℕ → Signs) (n : ℕ)
    → ((k : ℕ) → 1 ≤ k → k ≤ n → signs_in sight (get_or array (k - 1) 0) (k - 1) ≡ signs k)
    → (es : List Event) → Numbered n es → column_lines (Some sight) array es ≡ reason_lines (map (with_reason signs) es)
unfolding flat_map further
same_lines sight array signs n same [] h = refl
same_lines sight array signs n same (e ∷ es) h =
    ap₂ (λ (r : Signs) (l : List ℕ). line_with e (words_of (reason_by r e.from e.to 0) ∷ []) ++ l)
    (same e.effect h.0 h.1)
    (same_lines sight array signs n same es h.2)

plain_lines : (array : List ℕ) (es : List Event) → column_lines None array es ≡ lines es
unfolding flat_map further
plain_lines array [] = refl
plain_lines array (e ∷ es) = ap (λ (l : List ℕ). line_with e [] ++ l) (plain_lines array es)

module _ {s : List ℕ} {run : Run} {array : List ℕ} (g : Going s run array) (i : ℕ) where
  few_numbered : Numbered most_effects (row_run s i).events
  few_numbered = numbered_more (reading s).settings.count most_effects (row_run s i).events (omega (arith, most-effects s g.accepted)) (numbered_row s i)

  lines_are : (why : Bool) → column_lines (column_of why s i) array (row_run s i).events ≡ lines_of_row why s i
  lines_are true =
      same_lines (row_sight s i) array (signs_for (reading s).settings (row_of s i).words) most_effects
      (λ k low high. signs_in_array (reading s).settings run.plan array g.wired (row_of s i).words k low high)
      (row_run s i).events few_numbered
      ∙ ap reason_lines (sym (a_row_tells_its_reasons s i))
  lines_are false = plain_lines array (row_run s i).events

  -- the records of the row, if it was not refused
  left_in : (why : Bool) (n : ℕ) (space : List ℕ) → let es = (row_run s i).events in
      record_length * granted n (length es) (λ k. 0) ≤ length space
      → (us : List Event) × (length us ≡ granted n (length es) (λ k. 0)) × StandFrom (granted n (sets space 0 (bytes es)) (λ k. space)) 0 us × Numbered most_effects us
      × (column_lines (column_of why s i) array us ≡ granted n (lines_of_row why s i) (λ k. []))
  unfolding flat_map
  left_in why zero space h =
      let es = (row_run s i).events in
      (es, refl, (omega (arith, length-sets space 0 (bytes es)), front_bytes es space h), few_numbered, lines_are why)
  left_in why (suc k) space h = ([], refl, (omega arith, refl), tt, refl)

-- the records of a row that was run are those of some events, and the row has their lines
pub recorded_by : {s : List ℕ} {run : Run} {space : List ℕ} {u : Turn} {array' space' : List ℕ} (why : Bool) → RowDone s run space u array' space'
    → u.records ≤ most_records → most_row_bytes ≤ length space
    → (us : List Event) × (length us ≡ u.records) × StandFrom space' 0 us × Numbered most_effects us × (column_lines (column_of why s run.rows) array' us ≡ row_lines why s run.rows)
recorded_by {s} {run} {space} why d few room =
    rw (d.records_are, d.laid)
    (left_in d.going run.rows why (first_rows s (run.rows + 1)).number space (omega (arith, d.records_are)))

-- where there are none, it has no lines
pub no_records : {s : List ℕ} {run : Run} {space : List ℕ} {u : Turn} {array' space' : List ℕ} (why : Bool) → RowDone s run space u array' space'
    → u.records ≡ 0 → most_row_bytes ≤ length space → row_lines why s run.rows ≡ []
unfolding flat_map
no_records {s} {run} {array' = array'} why d z room =
    let g = recorded_by why d (omega (arith, z)) room in
    sym g.4 ∙ go g.0 (g.1 ∙ z)
  where
    go : (us : List Event) → length us ≡ 0 → column_lines (column_of why s run.rows) array' us ≡ []
    go [] e = refl
    go (u ∷ us) e = absurd (omega (arith, e))
