-- The lent buffer of a loop over rows: what each row stores in it, where, and that there is room.
use mathlib.Core.Path.{◌≡◌, refl, sym, ap, ◌∙◌}
use mathlib.Core.Bool.{Bool, true, false}
use mathlib.Core.List.{List, [], ◌++◌, flat_map, append_assoc, append-nil}
use Prim.Native.Nat.{ℕ, zero, suc, ◌+◌, ◌*◌, ◌-◌, ◌≤◌, ◌<◌}
use native.Mathlib.Nat.{add-zero, zero-add}
use native.Mathlib.Omega.{arith}
use borrow.Rule.Slice.PartMut.{put_mid}
use lib.ListN.{length, take, drop, length-append, length-drop, drop_of_length-le}
use lib.Seq.{sets, sets-eq, take_all, drop-append-le, drop-drop, length-sets}
use Rattle.bits.proofs.Numbers.{sets-append}
use Rattle.effects.specs.declared.Event.{Event}
use Rattle.effects.specs.Records.{record_length, bytes, most_records, most_row_bytes}
use Rattle.effects.proofs.Records.{length-bytes, bytes_append}
use Rattle.settings.specs.Refusals.{granted}
use Rattle.settings.proofs.Refusals.{granted_refused, granted_either}
use Rattle.recording.specs.Answers.{number, row_count_of}
use Rattle.recording.specs.Reader.{reading}
use Rattle.rerun.specs.Replay.{Replay, Outcome, first_rows, row_run}
use Rattle.rerun.specs.Turn.{Fits, place_of, records_between, row_into, rows_into, room_of}
use Rattle.rerun.proofs.Files.{next-number, events_between, events_join, events_grow, stays_refused, none_refused_before, refused_gives_nothing, most-effects, records-next}

-- ## A part of a buffer, from a place to the end

-- what is stored at the front of the part is stored at the place
part_back : (vs out : List ℕ) (at : ℕ) → at + length vs ≤ length out
    → take at out ++ (sets (take (length out - at) (drop at out)) 0 vs ++ drop (length out - at) (drop at out)) ≡ sets out at vs
part_back vs out at h =
    let rest = drop at out in
    let k = length out - at in
    let n : length rest ≡ k = length-drop at out in
    let all : take k rest ≡ rest = take_all k rest (omega (arith, n)) in
    let none : drop k rest ≡ [] = drop_of_length-le rest {i = k} (omega (arith, n)) in
    let there : sets rest 0 vs ≡ vs ++ drop (at + length vs) out =
    sets-eq vs rest 0 (omega (arith, n, h)) ∙ ap (λ (m : ℕ). vs ++ drop m rest) (zero-add (length vs)) ∙ ap (λ (l : List ℕ). vs ++ l) (drop-drop (length vs) at out)
    in
    (λ j. take at out ++ (sets (all j) 0 vs ++ none j))
    ∙ ap (λ (l : List ℕ). take at out ++ l) (append-nil (sets rest 0 vs) ∙ there)
    ∙ sym (append_assoc (take at out) vs (drop (at + length vs) out))
    ∙ sym (sets-eq vs out at h)

module _ (s : List ℕ) where
  -- a part that comes back with a row's records at its front: they are stored at the place
  pub part_into : (i at : ℕ) (out part : List ℕ) → at ≤ length out → Fits s i (length out - at)
      → part ≡ row_into s i 0 (take (length out - at) (drop at out)) → put_mid at (length out - at) out part ≡ row_into s i at out
  part_into i at out part l f e = ap (put_mid at (length out - at) out) e ∙ of (first_rows s (i + 1)).number refl
    where
      of : (n : ℕ) → (first_rows s (i + 1)).number ≡ n → let events = bytes (row_run s i).events in let rest = take (length out - at) (drop at out) in
          put_mid at (length out - at) out (granted n (sets rest 0 events) (λ k. rest)) ≡ granted n (sets out at events) (λ k. out)
      of zero z = part_back (bytes (row_run s i).events) out at (omega (arith, length-bytes (row_run s i).events, f z))
      of (suc n) z = part_back [] out at (omega arith)

  -- ## Some rows

  pub length_into : (keep : Bool) (i n : ℕ) (out : List ℕ) → length (rows_into s keep i n out) ≡ length out
  unfolding rows_into
  length_into keep i zero out = refl
  length_into keep i (suc n) out =
      let before = rows_into s keep i n out in
      let at = place_of keep (records_between s i (i + n)) in
      let vs = bytes (row_run s (i + n)).events in
      granted_either (sets before at vs) (λ k. before) (λ l. length l ≡ length before) (first_rows s (i + n + 1)).number (λ z. length-sets before at vs) (λ k. refl)
      ∙ length_into keep i n out

  -- the lent bytes after one row more
  pub row-into : (keep : Bool) (i k : ℕ) → i ≤ k → (out : List ℕ)
      → row_into s k (place_of keep (records_between s i k)) (rows_into s keep i (k - i) out) ≡ rows_into s keep i (k + 1 - i) out
  unfolding rows_into
  row-into keep i k l out =
      let sum : k ≡ i + (k - i) = omega arith in
      let n : suc (k - i) ≡ k + 1 - i = omega arith in
      (λ j. row_into s (sum j) (place_of keep (records_between s i (sum j))) (rows_into s keep i (k - i) out))
      ∙ ap (λ (m : ℕ). rows_into s keep i m out) n

  -- rows after a refused one store nothing
  pub stopped_into : (keep : Bool) (i k m : ℕ) → i ≤ k → ((first_rows s (k + 1)).number ≡ 0 → ⊥) → (out : List ℕ)
      → rows_into s keep i (k + m - i) out ≡ rows_into s keep i (k - i) out
  stopped_into keep i k zero l h out = rw add-zero
  stopped_into keep i k (suc m) l h out =
      let refused : (first_rows s (k + m + 1)).number ≡ 0 → ⊥ = λ z. h (sym (ap (λ (o : Outcome). o.number) (stays_refused s (k + 1) (k + m + 1) (omega arith) h)) ∙ z) in
      let before = rows_into s keep i (k + m - i) out in
      let at = place_of keep (records_between s i (k + m)) in
      let n : k + suc m - i ≡ k + m + 1 - i = omega arith in
      ap (λ (j : ℕ). rows_into s keep i j out) n
      ∙ sym (row-into keep i (k + m) (omega arith) out)
      ∙ granted_refused (sets before at (bytes (row_run s (k + m)).events)) (λ n. before) (first_rows s (k + m + 1)).number refused
      ∙ stopped_into keep i k m l h out

  -- ## Records that are kept

  pub length-between : (i k : ℕ) → length (events_between s i k) ≡ records_between s i k
  length-between i k = length-drop (length (first_rows s i).replay.events) (first_rows s k).replay.events

  module _ (i : ℕ) (none : (first_rows s i).number ≡ 0) where
    none_between : events_between s i i ≡ []
    none_between = drop_of_length-le (first_rows s i).replay.events {i = length (first_rows s i).replay.events} (omega arith)

    -- those of one row more are joined to them
    between_join : (k : ℕ) → i ≤ k → k < row_count_of (reading s).answer → (first_rows s (k + 1)).number ≡ 0 → events_between s i (k + 1) ≡ events_between s i k ++ (row_run s k).events
    between_join k l more z =
        ap (drop (length (first_rows s i).replay.events)) (events_join s k more (none_refused_before s k z) z)
        ∙ drop-append-le (length (first_rows s i).replay.events) (first_rows s k).replay.events (row_run s k).events (events_grow s i k l none)

    -- the records of a row go behind those before it
    kept_next : (k : ℕ) → i ≤ k → k < row_count_of (reading s).answer → (out : List ℕ) (n : ℕ) → (first_rows s (k + 1)).number ≡ n
        → granted n (sets (sets out 0 (bytes (events_between s i k))) (record_length * records_between s i k) (bytes (row_run s k).events)) (λ m. sets out 0 (bytes (events_between s i k)))
        ≡ sets out 0 (bytes (events_between s i (k + 1)))
    kept_next k l more out zero z =
        let before = events_between s i k in
        let events = (row_run s k).events in
        let at : record_length * records_between s i k ≡ 0 + length (bytes before) = omega (arith, length-bytes before, length-between i k) in
        ap (λ (m : ℕ). sets (sets out 0 (bytes before)) m (bytes events)) at
        ∙ sym (sets-append out 0 (bytes before) (bytes events))
        ∙ ap (sets out 0) (sym (bytes_append before events) ∙ ap bytes (sym (between_join k l more z)))
    kept_next k l more out (suc n) e =
        sym (ap (λ (r : Replay). sets out 0 (bytes (drop (length (first_rows s i).replay.events) r.events))) (refused_gives_nothing s k more (λ z. omega (arith, e, z))))

    pub all-kept : (out : List ℕ) (n : ℕ) → i + n ≤ row_count_of (reading s).answer → rows_into s true i n out ≡ sets out 0 (bytes (events_between s i (i + n)))
    unfolding rows_into flat_map
    all-kept out zero l = sym (rw add-zero (ap (λ (es : List Event). sets out 0 (bytes es)) none_between))
    all-kept out (suc n) l =
        let before = all-kept out n (omega arith) in
        let next : i + n + 1 ≡ i + suc n = omega arith in
        rw before (kept_next (i + n) (omega arith) (omega arith) out (first_rows s (i + n + 1)).number refl)
        ∙ ap (λ (m : ℕ). sets out 0 (bytes (events_between s i m))) next

  -- ## Room

  module _ (from i : ℕ) (first : (first_rows s from).number ≡ 0) (none : (first_rows s i).number ≡ 0) (onward : from ≤ i) (until : ℕ) (keep : Bool) (room : ℕ) (enough : room_of s from until keep ≤ room) where
    -- the place of row i's records is in the buffer
    pub place-within : i ≤ until → place_of keep (records_between s from i) ≤ room
    place-within l = of keep enough
      where
        of : (k : Bool) → room_of s from until k ≤ room → place_of k (records_between s from i) ≤ room
        of true h = omega (arith, h, events_grow s i until l none)
        of false h = omega arith

    -- the records of row i fit in the buffer from their place on
    pub next_fits : i < until → i < row_count_of (reading s).answer → Fits s i most_row_bytes → Fits s i (room - place_of keep (records_between s from i))
    next_fits l more f z = of keep enough
      where
        of : (k : Bool) → room_of s from until k ≤ room → record_length * length (row_run s i).events ≤ room - place_of k (records_between s from i)
        of true h =
            omega (
              arith,
              h,
              events_grow s from i onward first,
              events_grow s (i + 1) until (omega arith) z,
              ap length (events_join s i more none z),
              length-append (first_rows s i).replay.events (row_run s i).events,
            )
        of false h = omega (arith, h, f z)

  -- so many rows never need more than the room of any row so many times
  module _ (accepted : number (reading s).answer ≡ 0) where
    one_more_few : (k : ℕ) → k < row_count_of (reading s).answer → length (first_rows s (k + 1)).replay.events ≤ length (first_rows s k).replay.events + most_records
    one_more_few k l = go (first_rows s (k + 1)).number refl
      where
        go : (n : ℕ) → (first_rows s (k + 1)).number ≡ n → length (first_rows s (k + 1)).replay.events ≤ length (first_rows s k).replay.events + most_records
        go zero z =
            let none = none_refused_before s k z in
            omega (
              arith,
              ap length (events_join s k l none z),
              length-append (first_rows s k).replay.events (row_run s k).events,
              records-next s accepted k l (sym (next-number s k l none) ∙ z),
              most-effects s accepted,
            )
        go (suc n) e = omega (arith, ap (λ (r : Replay). length r.events) (refused_gives_nothing s k l (λ z. omega (arith, e, z))))

    rows_few : (i n : ℕ) → i + n ≤ row_count_of (reading s).answer → length (first_rows s (i + n)).replay.events ≤ length (first_rows s i).replay.events + most_records * n
    rows_few i zero l = omega (arith, ap (λ (k : ℕ). length (first_rows s k).replay.events) (add-zero i))
    rows_few i (suc n) l =
        let next : i + suc n ≡ i + n + 1 = omega arith in
        rw next (omega (arith, rows_few i n (omega arith), one_more_few (i + n) (omega arith)))

    pub few_bytes : (i until n : ℕ) → i ≤ until → until ≤ i + n → until ≤ row_count_of (reading s).answer → room_of s i until true ≤ most_row_bytes * n
    few_bytes i until n l few h =
        let sum : until ≡ i + (until - i) = omega arith in
        omega (arith, ap (λ (k : ℕ). length (first_rows s k).replay.events) sum, rows_few i (until - i) (omega arith))
