-- The rows of an accepted file, replayed row by row: what the first rows result in, and that all rows result in the replay.
use mathlib.Core.Path.{◌≡◌, refl, sym, ap, ◌∙◌}
use mathlib.Core.List.{List, [], ◌∷◌, ◌++◌}
use mathlib.Core.Logic.{◌⊎◌, inl, inr}
use Prim.Native.Nat.{ℕ, zero, suc, ◌+◌, ◌-◌, ◌*◌, ◌≤◌, ◌<◌}
use native.Mathlib.Nat.{zero-add}
use native.Mathlib.Numerals.{add-one}
use native.Mathlib.Omega.{arith}
use lib.Dec.{leb}
use lib.ListN.{length, take, drop, length-append, take-append-drop}
use lib.Seq.{take-suc, take-add, take_all, length-take-le}
use Rattle.effects.specs.declared.Event.{Event}
use Rattle.settings.specs.declared.Settings.{Settings}
use Rattle.rules.specs.Limits.{most_scans}
use Rattle.settings.specs.Refusals.{unless, granted}
use Rattle.settings.specs.Right.{known_of, settings_number, row_number}
use Rattle.settings.proofs.Right.{count_few}
use Rattle.block.specs.Scan.{scans_number}
use Rattle.block.proofs.Theorems.{a_fresh_state_is_right}
use Rattle.recording.specs.Answer as A
use Rattle.recording.specs.Answers.{number, place, row_count_of, first_row, row_width}
use Rattle.settings.specs.Zeros.{no_row}
use Rattle.recording.specs.Encode.{Right}
use Rattle.layout.specs.declared.Kind.TheVariants.{Rows}
use Rattle.recording.specs.Reader.{reading}
use Rattle.layout.specs.Sections.{most_of}
use Rattle.recording.specs.Steps.{row_place, rows_of}
use Rattle.recording.proofs.Cases.{not_accepted}
use Rattle.exactness.proofs.Theorems.{accepted_case, accepted_is_right}
use Rattle.exactness.proofs.Trips.{length-rows_of}
use Rattle.rerun.specs.Replay.{Outcome, whole, started, joined, refused_at, rows_from, replay_rows, replay, first_rows, row_of, row_run, sum_of_holds}
use Rattle.rerun.proofs.Rows.{Sound, then_the_others, refusal_ends, none_refused_whole, events_stay, rows_counted, records_few, done_after, sound_after, within_scans, sound_rows, done_is_holds, refused_by_holds, all_take, all-at}
use Rattle.settings.proofs.Refusals.{granted_none, granted_refused, granted_number, unless_refused, limit_passed}

module _ (s : List ℕ) where
  abbrev st : Settings
  st = (reading s).settings

  abbrev count : ℕ
  count = row_count_of (reading s).answer

  abbrev first : ℕ
  first = first_row (reading s).answer

  abbrev width : ℕ
  width = row_width (reading s).answer

  pub no_rows : first_rows s 0 ≡ whole started
  unfolding first_rows
  no_rows = refl

  length-first : (i : ℕ) → i ≤ count → length (take i (rows_of s)) ≡ i
  length-first i l = length-take-le i (rows_of s) (omega (arith, length-rows_of s))

  -- the first j rows are the first i rows and those between
  in_two : (i j : ℕ) → i ≤ j → take j (rows_of s) ≡ take i (rows_of s) ++ take (j - i) (drop i (rows_of s))
  in_two i j l = let sum : j ≡ i + (j - i) = omega arith in ap (λ (n : ℕ). take n (rows_of s)) sum ∙ take-add i (j - i) (rows_of s)

  -- one row more runs from what the first i rows left, or is refused at its first byte
  pub one_row_more : (i : ℕ) → i < count → (first_rows s i).number ≡ 0
      → let r = (first_rows s i).replay in
      first_rows s (i + 1) ≡ granted (scans_number r.state.scans_done (row_of s i).hold) (whole (joined r (row_run s i))) (refused_at (row_place s i) r)
  unfolding first_rows row_run
  one_row_more i l z =
      let front = take i (rows_of s) in
      let more : take (i + 1) (rows_of s) ≡ front ++ (row_of s i ∷ []) = rw add-one (take-suc (rows_of s) i no_row (omega (arith, length-rows_of s))) in
      ap (replay_rows s) more
      ∙ then_the_others st width front (row_of s i ∷ []) first started z
      ∙ rw (length-first i (omega arith))

  -- the replay of an accepted file is that of its rows
  accepted_replay : number (reading s).answer ≡ 0 → replay s ≡ replay_rows s (rows_of s)
  unfolding replay
  accepted_replay a = granted_none (replay_rows s (rows_of s)) (refused_at (place (reading s).answer) started) (number (reading s).answer) a

  -- the refusal number of a refusal is not 0
  pub refusal_number : (n p : ℕ) → (reading s).answer ≡ A.Refused n p → n ≡ 0 → ⊥
  refusal_number n p e z = not_accepted n p _ _ _ (sym e ∙ accepted_case s (ap number e ∙ z))

  -- the replay of a refused file has run nothing
  pub refused_replay : (n p : ℕ) → (reading s).answer ≡ A.Refused n p → replay s ≡ refused_at p started n
  unfolding replay
  refused_replay n p e =
      granted_refused (replay_rows s (rows_of s)) (refused_at (place (reading s).answer) started) (number (reading s).answer) (λ z. refusal_number n p e (sym (ap number e) ∙ z))
      ∙ (λ j. refused_at (place (e j)) started (number (e j)))

  -- a refused row ends the replay
  pub ends_at_refusal : number (reading s).answer ≡ 0 → (i : ℕ) → ((first_rows s i).number ≡ 0 → ⊥) → replay s ≡ first_rows s i
  unfolding first_rows
  ends_at_refusal a i h =
      accepted_replay a
      ∙ ap (replay_rows s) (sym (take-append-drop i (rows_of s)))
      ∙ refusal_ends st width (take i (rows_of s)) (drop i (rows_of s)) first started h

  -- so where the replay is whole, none of the first rows is refused
  pub never_refused : number (reading s).answer ≡ 0 → (replay s).number ≡ 0 → (i : ℕ) → (first_rows s i).number ≡ 0
  never_refused a z i = go (first_rows s i).number refl
    where
      go : (n : ℕ) → (first_rows s i).number ≡ n → n ≡ 0
      go zero e = refl
      go (suc n) e =
          let h : (first_rows s i).number ≡ 0 → ⊥ = λ k. omega (arith, e, k) in
          absurd (h (sym (ap (λ (o : Outcome). o.number) (ends_at_refusal a i h)) ∙ z))

  pub all_the_rows : number (reading s).answer ≡ 0 → replay s ≡ first_rows s count
  unfolding first_rows
  all_the_rows a =
      accepted_replay a
      ∙ ap (replay_rows s) (sym (take_all count (rows_of s) (omega (arith, length-rows_of s))))

  pub counted : (i : ℕ) → i ≤ count → (first_rows s i).number ≡ 0 → (first_rows s i).replay.rows ≡ i
  unfolding first_rows
  counted i l z =
      rows_counted st width (take i (rows_of s)) first started z ∙ omega (arith, length-first i l)

  pub whole_so_far : (i : ℕ) → (first_rows s i).number ≡ 0 → first_rows s i ≡ whole (first_rows s i).replay
  unfolding first_rows
  whole_so_far i z = none_refused_whole st width (take i (rows_of s)) first started z

  -- the events of the rows from row i to the one before row j
  abbrev pub events_between : (i j : ℕ) → List Event
  events_between i j = drop (length (first_rows s i).replay.events) (first_rows s j).replay.events

  -- where none of the first i rows is refused, more rows keep their events in front
  pub events_behind : (i j : ℕ) → i ≤ j → (first_rows s i).number ≡ 0 → (first_rows s j).replay.events ≡ (first_rows s i).replay.events ++ events_between i j
  unfolding first_rows
  events_behind i j l z =
      let others = take (j - i) (drop i (rows_of s)) in
      let all : first_rows s j ≡ rows_from st width (first + width * length (take i (rows_of s))) others (first_rows s i).replay =
      ap (replay_rows s) (in_two i j l) ∙ then_the_others st width (take i (rows_of s)) others first started z
      in
      rw all (events_stay st width others _ (first_rows s i).replay)

  pub events_grow : (i j : ℕ) → i ≤ j → (first_rows s i).number ≡ 0 → length (first_rows s i).replay.events ≤ length (first_rows s j).replay.events
  events_grow i j l z = omega (arith, ap length (events_behind i j l z), length-append (first_rows s i).replay.events (events_between i j))

  -- after a refused row nothing more changes
  pub stays_refused : (i j : ℕ) → i ≤ j → ((first_rows s i).number ≡ 0 → ⊥) → first_rows s j ≡ first_rows s i
  unfolding first_rows
  stays_refused i j l h =
      ap (replay_rows s) (in_two i j l)
      ∙ refusal_ends st width (take i (rows_of s)) (take (j - i) (drop i (rows_of s))) first started h

  -- ## One row more, by its refusal number

  abbrev pub number_at : ℕ → ℕ
  number_at i = scans_number (first_rows s i).replay.state.scans_done (row_of s i).hold

  module _ (i : ℕ) (l : i < count) (none : (first_rows s i).number ≡ 0) where
    abbrev ran : Outcome
    ran = whole (joined (first_rows s i).replay (row_run s i))

    abbrev stopped_at : ℕ → Outcome
    stopped_at = refused_at (row_place s i) (first_rows s i).replay

    pub next-number : (first_rows s (i + 1)).number ≡ number_at i
    next-number = ap (λ (o : Outcome). o.number) (one_row_more i l none) ∙ granted_number ran stopped_at (λ o. o.number) (number_at i) (λ z. refl) (λ n. refl)

    pub next_runs : number_at i ≡ 0 → first_rows s (i + 1) ≡ ran
    next_runs z = one_row_more i l none ∙ granted_none ran stopped_at (number_at i) z

    -- the events of a row that runs are joined to those before
    pub events_join : (first_rows s (i + 1)).number ≡ 0 → (first_rows s (i + 1)).replay.events ≡ (first_rows s i).replay.events ++ (row_run s i).events
    events_join z = ap (λ (o : Outcome). o.replay.events) (next_runs (sym next-number ∙ z))

    pub next_refused : (number_at i ≡ 0 → ⊥) → first_rows s (i + 1) ≡ stopped_at (number_at i)
    next_refused h = one_row_more i l none ∙ granted_refused ran stopped_at (number_at i) h

    -- a row that is refused ends the replay
    pub stops-there : number (reading s).answer ≡ 0 → (number_at i ≡ 0 → ⊥) → replay s ≡ stopped_at (number_at i)
    stops-there a h = ends_at_refusal a (i + 1) (λ z. h (sym next-number ∙ z)) ∙ next_refused h

  -- where a row is not refused, no row before it is
  none_before : (i n : ℕ) → (first_rows s i).number ≡ n → (first_rows s (i + 1)).number ≡ 0 → n ≡ 0
  none_before i zero e z = refl
  none_before i (suc n) e z = sym e ∙ sym (ap (λ (o : Outcome). o.number) (stays_refused i (i + 1) (omega arith) (λ k. omega (arith, e, k)))) ∙ z

  pub none_refused_before : (i : ℕ) → (first_rows s (i + 1)).number ≡ 0 → (first_rows s i).number ≡ 0
  none_refused_before i z = none_before i (first_rows s i).number refl z

  -- a refused row gives nothing
  gives_nothing : (i n : ℕ) → i < count → ((first_rows s (i + 1)).number ≡ 0 → ⊥) → (first_rows s i).number ≡ n → (first_rows s (i + 1)).replay ≡ (first_rows s i).replay
  gives_nothing i zero l h e = ap (λ (o : Outcome). o.replay) (next_refused i l e (λ z. h (next-number i l e ∙ z)))
  gives_nothing i (suc n) l h e = ap (λ (o : Outcome). o.replay) (stays_refused i (i + 1) (omega arith) (λ z. omega (arith, e, z)))

  pub refused_gives_nothing : (i : ℕ) → i < count → ((first_rows s (i + 1)).number ≡ 0 → ⊥) → (first_rows s (i + 1)).replay ≡ (first_rows s i).replay
  refused_gives_nothing i l h = gives_nothing i (first_rows s i).number l h refl

  -- what holds at the start, and then after each row that runs and at the row that is refused, holds of any first rows
  module _ (P : Outcome → Type 0) (at-start : P (whole started)) where
    abbrev pub Before : ℕ → Type 0
    Before i = (i < count) × ((first_rows s i).number ≡ 0) × ((first_rows s i).replay.rows ≡ i) × P (first_rows s i)

    module _ (runs : (i : ℕ) → Before i → number_at i ≡ 0 → P (whole (joined (first_rows s i).replay (row_run s i))))
        (refuses : (i : ℕ) → Before i → (number_at i ≡ 0 → ⊥) → P (refused_at (row_place s i) (first_rows s i).replay (number_at i))) where
      next_row : (i : ℕ) → i < count → P (first_rows s i) → (n : ℕ) → (first_rows s i).number ≡ n → (m : ℕ) → number_at i ≡ m → P (first_rows s (i + 1))
      next_row i l p zero e zero z = rw (next_runs i l e z) (runs i (l, e, counted i (omega arith) e, p) z)
      next_row i l p zero e (suc m) f = let h : number_at i ≡ 0 → ⊥ = λ z. omega (arith, f, z) in rw (next_refused i l e h) (refuses i (l, e, counted i (omega arith) e, p) h)
      next_row i l p (suc n) e m f = rw (stays_refused i (i + 1) (omega arith) (λ z. omega (arith, e, z))) p

      pub by_rows : (i : ℕ) → i ≤ count → P (first_rows s i)
      by_rows zero l = rw no_rows at-start
      by_rows (suc i) l = rw (← add-one i) (next_row i (omega arith) (by_rows i (omega arith)) (first_rows s i).number refl (number_at i) refl)

  -- what first rows result in, by the refusal number and by how many of them ran
  abbrev Told : Outcome → Type 0
  Told o = o ≡ record { number = o.number; place = granted o.number 0 (λ n. row_place s o.replay.rows); replay = (first_rows s o.replay.rows).replay }

  pub told : (i : ℕ) → i ≤ count → Told (first_rows s i)
  told =
      by_rows Told (sym (ap (λ (o : Outcome). whole o.replay) no_rows))
      (λ i b z.
      let r = ap (λ (o : Outcome). o.replay) (sym (next_runs i b.0 b.1 z)) ∙ ap (λ (n : ℕ). (first_rows s (n + 1)).replay) (sym b.2) in
      λ j. whole (r j))
      (λ i b h.
      let p = ap (row_place s) (sym b.2) ∙ sym (granted_refused 0 (λ n. row_place s (first_rows s i).replay.rows) (number_at i) h) in
      let r = ap (λ (n : ℕ). (first_rows s n).replay) (sym b.2) in
      λ j. refused_at (p j) (r j) (number_at i))

  -- ## How a replay ends

  abbrev Stopped : Outcome → Type 0
  Stopped o =
      (o.number ≡ 9)
      × (o.place ≡ row_place s o.replay.rows)
      × (o.replay.rows < count)
      × (most_scans < o.replay.state.scans_done + (row_of s o.replay.rows).hold)

  abbrev Ended : Outcome → Type 0
  Ended o = ((o.number ≡ 0) × (o.place ≡ 0)) ⊎ Stopped o

  stopped : (i : ℕ) → Before Ended (inl (refl, refl)) i → (number_at i ≡ 0 → ⊥) → Ended (refused_at (row_place s i) (first_rows s i).replay (number_at i))
  stopped i b h =
      let r = (first_rows s i).replay in
      inr (
        unless_refused (leb (r.state.scans_done + (row_of s i).hold) most_scans) 9 h,
        ap (row_place s) (sym b.2),
        omega (arith, b.0, b.2),
        rw b.2 (limit_passed (r.state.scans_done + (row_of s i).hold) most_scans 9 h),
      )

  ended : (o : Outcome) → (o.number ≡ 0 → o.replay.rows ≡ count) → Ended o
      → ((o.number ≡ 0) × (o.place ≡ 0) × (o.replay.rows ≡ count)) ⊎ Stopped o
  ended o f (inl h) = inl (h.0, h.1, f h.0)
  ended o f (inr h) = inr h

  pub how_it_ends : number (reading s).answer ≡ 0
      → (((replay s).number ≡ 0) × ((replay s).place ≡ 0) × ((replay s).replay.rows ≡ count)) ⊎ Stopped (replay s)
  how_it_ends a =
      rw (all_the_rows a) (ended (first_rows s count) (counted count (omega arith)) (by_rows Ended (inl (refl, refl)) (λ i b z. inl (refl, refl)) stopped count (omega arith)))

  -- ## What is known of an accepted file

  module _ (a : number (reading s).answer ≡ 0) where
    right : Right st (rows_of s)
    right = accepted_is_right s a

    pub settings_right : settings_number st ≡ 0
    settings_right = right.settings

    pub most-effects : st.count ≤ 16
    most-effects = count_few st settings_right

    pub row_right : (i : ℕ) → i < count → row_number (known_of st) (row_of s i) ≡ 0
    row_right i l = all-at (row_number (known_of st)) i (rows_of s) no_row (omega (arith, length-rows_of s)) right.each_row

    pub few_rows : count ≤ most_of Rows
    few_rows = omega (arith, length-rows_of s, right.rows_most)

    started_sound : Sound st started
    started_sound = record { state = a_fresh_state_is_right st; slots = refl; events = omega arith; live = omega arith; exercised = omega arith }

    -- the state that any of the first rows leave is valid
    pub sound : (i : ℕ) → Sound st (first_rows s i).replay
    unfolding first_rows
    sound i =
        sound_rows st right.settings width first (take i (rows_of s))
        (all_take (row_number (known_of st)) i (rows_of s) right.each_row) started started_sound

    pub scans-done : (replay s).number ≡ 0 → (replay s).replay.state.scans_done ≡ sum_of_holds (rows_of s)
    scans-done =
        rw (accepted_replay a)
        (λ z. done_is_holds st right.settings width first (rows_of s) right.each_row started started_sound z ∙ zero-add _)

    pub nine_by_holds : (replay s).number ≡ unless (leb (sum_of_holds (rows_of s)) most_scans) 9
    nine_by_holds =
        ap (λ (o : Outcome). o.number) (accepted_replay a)
        ∙ refused_by_holds st right.settings width first (rows_of s) right.each_row started started_sound (omega arith)
        ∙ ap (λ (n : ℕ). unless (leb n most_scans) 9) (zero-add (sum_of_holds (rows_of s)))

    -- the state that row i leaves is valid, where its scans can be counted
    module _ (i : ℕ) (l : i < count) (z : number_at i ≡ 0) where
      pub sound_next : Sound st (joined (first_rows s i).replay (row_run s i))
      unfolding row_run
      sound_next = sound_after st settings_right (row_of s i) (row_right i l) (first_rows s i).replay (sound i) z

      pub done_next : (row_run s i).state.scans_done ≡ (first_rows s i).replay.state.scans_done + (row_of s i).hold
      unfolding row_run
      done_next = done_after st settings_right (row_of s i) (row_right i l) (first_rows s i).replay (sound i) z

      pub scans_next : (row_run s i).state.scans_done ≤ most_scans
      unfolding row_run
      scans_next = within_scans st settings_right (row_of s i) (row_right i l) (first_rows s i).replay (sound i) z

      pub records-next : length (row_run s i).events ≤ 2 * st.count
      unfolding row_run
      records-next = records_few st settings_right (row_of s i) (row_right i l) (first_rows s i).replay (sound i) z
