-- The reasons of records, put one after the other: those of a row are its records' reasons, and those of all rows are the recording's.
use mathlib.Core.Path.{◌≡◌, refl, ap, ap₂, sym, ◌∙◌}
use mathlib.Core.Bool.{true}
use mathlib.Core.List.{List, [], ◌∷◌, ◌++◌, flat_map, map}
use Prim.Native.Nat.{ℕ, ◌+◌, ◌-◌, ◌*◌, ◌≤◌, ◌<◌}
use native.Mathlib.Numerals.{add-one}
use native.Mathlib.Omega.{arith}
use lib.ListN.{length, get_or, length-append, length-map}
use lib.Seq.{sets}
use Rattle.bits.specs.Lists.{tabulate}
use Rattle.bits.proofs.Lists.{length-tabulate, tabulate_more, flat_map-append, flat_map_snoc, length-flat_map}
use Rattle.bits.proofs.Numbers.{sets-append}
use Rattle.rules.specs.Limits.{most_effects}
use Rattle.effects.specs.declared.Event.{Event}
use Rattle.effects.specs.Records.{most_row_bytes, Numbered}
use Rattle.recording.specs.Answer as A
use Rattle.recording.specs.Answers.{row_count_of}
use Rattle.recording.specs.Reader.{reading}
use Rattle.rerun.specs.declared.Run.{Run}
use Rattle.rerun.specs.Answer.{Turn}
use Rattle.rerun.specs.Replay.{Outcome, replay, row_of, row_run}
use Rattle.rerun.specs.Turn.{Begun, Totals, Begins, Going, RowsDone}
use Rattle.rerun.proofs.Files.{all_the_rows, events_grow}
use Rattle.rerun.proofs.Turns.{begins, ends, rows_so_far, records_so_far}
use Rattle.reasons.specs.declared.Reason.{Reason}
use Rattle.reasons.specs.declared.Sight.{Sight}
use Rattle.reasons.specs.declared.Signs.{Signs}
use Rattle.reasons.specs.Given.{signs_in}
use Rattle.reasons.specs.Reasons.{reason_by}
use Rattle.reasoned.specs.Reasoned.{Reasoned, reasoned_row, reasoned_rows, reasoned}
use Rattle.reasoned.specs.Told.{signs_for, with_reason, row_sight}
use Rattle.reasoned.proofs.Rows.{signs_in_array}
use Rattle.reasoned.proofs.Theorems.{a_row_tells_its_reasons, a_row's_events}
use Rattle.reason_bytes.specs.Bytes.{numbers_of}
use Rattle.standing.proofs.Rows.{rows_next, records-next, records_are, stand, numbered}
use Rattle.why_bytes.specs.Bytes.{reason_length, reason_bytes}
use Rattle.why_bytes.specs.Rows.{record_reasons, RowPut, Telling, RowTold}

pub length-reason : (r : Reason) → length (numbers_of r) ≡ reason_length
unfolding numbers_of
length-reason r = refl

-- one reason more of a list of reasons that is filled by index
pub one_more : (out : List ℕ) (f : ℕ → Reason) (i : ℕ)
    → sets (sets out 0 (flat_map numbers_of (tabulate f i))) (reason_length * i) (numbers_of (f i)) ≡ sets out 0 (flat_map numbers_of (tabulate f (i + 1)))
one_more out f i =
    let so_far = flat_map numbers_of (tabulate f i) in
    let place : reason_length * i ≡ 0 + length so_far = omega (arith, length-flat_map numbers_of reason_length length-reason (tabulate f i), length-tabulate f i) in
    ap (λ (n : ℕ). sets (sets out 0 so_far) n (numbers_of (f i))) place
    ∙ sym (sets-append out 0 so_far (numbers_of (f i)))
    ∙ ap (sets out 0) (sym (flat_map_snoc numbers_of (tabulate f i) (f i)) ∙ ap (flat_map numbers_of) (sym (tabulate_more f i)))

-- ## The records of one row

-- records that are told the same have the same reasons
same_reasons : (sight : Sight) (array : List ℕ) (signs : ℕ → Signs) (n : ℕ)
    → ((k : ℕ) → 1 ≤ k → k ≤ n → signs_in sight (get_or array (k - 1) 0) (k - 1) ≡ signs k)
    → (es : List Event) → Numbered n es → record_reasons sight array es ≡ reason_bytes (map (with_reason signs) es)
unfolding flat_map
same_reasons sight array signs n same [] h = refl
same_reasons sight array signs n same (e ∷ es) h =
    ap₂ (λ (r : Signs) (l : List ℕ). numbers_of (reason_by r e.from e.to 0) ++ l)
    (same e.effect h.0 h.1)
    (same_reasons sight array signs n same es h.2)

none : (ts : List Reasoned) → length ts ≡ 0 → ts ≡ []
none [] e = refl
none (t ∷ ts) e = absurd (omega arith)

module _ {s : List ℕ} {run : Run} {array : List ℕ} (out : List ℕ) (t : Telling s run array (length out)) (more : run.rows < row_count_of (reading s).answer) {buf : List ℕ} {u : Turn} {array' buf' : List ℕ}
    (d : RowsDone s run (run.rows + 1) true buf u array' buf') (long : most_row_bytes ≤ length buf) where
  abbrev those : List Event
  those = (row_run s run.rows).events

  abbrev n : ℕ
  n = u.run.records - run.records

  as_many : length (reasoned_row s run.rows) ≡ length those
  as_many = sym (length-map (reasoned_row s run.rows) (λ (x : Reasoned). x.event)) ∙ ap length (a_row's_events s run.rows)

  many : u.run.records ≡ run.records + length those
  many = records-next t.going more t.all_run d long

  onward : u.run.rows ≡ run.rows + 1
  onward = rows_next t.going more t.all_run d long

  telling_next : Telling s u.run array' (length out)
  telling_next =
      record {
        going = d.going;
        all_run = t.all_run;
        fits = t.fits;
        told =
            ap (λ (k : ℕ). length (reasoned_rows s k)) (onward ∙ add-one run.rows)
            ∙ length-append (reasoned_rows s run.rows) (reasoned_row s run.rows)
            ∙ omega (arith, t.told, as_many, many);
      }

  -- a row without records leaves all as it was
  pub no_record : n ≡ 0 → RowTold s run out u.run array' out
  unfolding flat_map
  no_record z =
      record {
        telling = telling_next;
        onward = onward;
        laid = ap (λ (ts : List Reasoned). sets out (reason_length * run.records) (reason_bytes ts)) (sym (none (reasoned_row s run.rows) (omega (arith, as_many, many, z))));
      }

  -- the reasons of its records fit
  pub row_fits : reason_length * run.records + reason_length * n ≤ length out
  row_fits =
      let rows = row_count_of (reading s).answer in
      let so_far = events_grow s u.run.rows rows d.going.counted d.going.none_refused in
      omega (arith, t.fits, many, records_so_far d.going, so_far, ap (λ (o : Outcome). length o.replay.events) (all_the_rows s t.going.accepted))

  -- and are the row's
  reasons_are : record_reasons (row_sight s run.rows) array' those ≡ reason_bytes (reasoned_row s run.rows)
  reasons_are =
      let st = (reading s).settings in
      let w = (row_of s run.rows).words in
      same_reasons (row_sight s run.rows) array' (signs_for st w) most_effects (λ k low high. signs_in_array st u.run.plan array' d.going.wired w k low high) those
      (numbered t.going more t.all_run d long)
      ∙ ap reason_bytes (sym (a_row_tells_its_reasons s run.rows))

  pub row_told : (sight : Sight) → sight ≡ row_sight s run.rows → (out' : List ℕ) → RowPut sight array' buf' n (reason_length * run.records) out out' → RowTold s run out u.run array' out'
  row_told sight seen out' put =
      record {
        telling = telling_next;
        onward = onward;
        laid =
            put those (records_are t.going more t.all_run d long) (stand t.going more t.all_run d long)
            ∙ ap (sets out (reason_length * run.records)) (ap (λ (v : Sight). record_reasons v array' those) seen ∙ reasons_are);
      }

-- ## All rows

pub telling_begins : {s : List ℕ} {rows first width : ℕ} {r : Begun} → Begins (reading s).settings rows first width r → (reading s).answer ≡ A.Accepted rows first width
    → (replay s).number ≡ 0 → {room : ℕ} → reason_length * length (replay s).replay.events ≤ room → Telling s r.run r.board room
telling_begins {s} b a whole h =
    record {
      going = begins b a;
      all_run = whole;
      fits = h;
      told = ap (λ (u : Totals). length (reasoned_rows s u.rows)) b.totals ∙ sym (ap (λ (u : Totals). u.records) b.totals);
    }

pub same-room : {s : List ℕ} {run : Run} {array : List ℕ} {n m : ℕ} → Telling s run array n → n ≡ m → Telling s run array m
same-room t e = rw e at t

module _ (s out : List ℕ) where
  -- the bytes after the first k rows
  abbrev pub after : ℕ → List ℕ
  after k = sets out 0 (reason_bytes (reasoned_rows s k))

  pub after_none : (k : ℕ) → k ≡ 0 → out ≡ after k
  unfolding flat_map
  after_none k e = ap after (sym e)

  pub after_more : (k m : ℕ) → length (reasoned_rows s k) ≡ m → sets (after k) (reason_length * m) (reason_bytes (reasoned_row s k)) ≡ after (k + 1)
  after_more k m e =
      let put : Reasoned → List ℕ = λ t. numbers_of t.reason in
      let so_far = reason_bytes (reasoned_rows s k) in
      let place : reason_length * m ≡ 0 + length so_far = omega (arith, e, length-flat_map put reason_length (λ t. length-reason t.reason) (reasoned_rows s k)) in
      ap (λ (i : ℕ). sets (after k) i (reason_bytes (reasoned_row s k))) place
      ∙ sym (sets-append out 0 so_far (reason_bytes (reasoned_row s k)))
      ∙ ap (sets out 0) (sym (flat_map-append put (reasoned_rows s k) (reasoned_row s k)))
      ∙ ap after (sym (add-one k))

  pub after_all : {run : Run} {array : List ℕ} → Going s run array → run.rows ≡ row_count_of (reading s).answer → after run.rows ≡ sets out 0 (reason_bytes (reasoned s))
  unfolding reasoned
  after_all g last = ap after (sym (ap (λ (o : Outcome). o.replay.rows) (ends g last) ∙ rows_so_far g))
