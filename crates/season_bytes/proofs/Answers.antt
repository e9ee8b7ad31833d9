-- Which refusal number a recording has that is added in lent bytes, and what the bytes then are.
use mathlib.Core.Path.{◌≡◌, refl, sym, ap, ◌∙◌}
use mathlib.Core.List.{List}
use Prim.Native.Nat.{ℕ, zero, suc, ◌≤◌, ◌<◌}
use native.Mathlib.Omega.{arith}
use lib.ListN.{length}
use lib.Seq.{sets}
use Rattle.settings.specs.Refusals.{or_else, room_number}
use Rattle.settings.proofs.Refusals.{granted_none, granted_refused, room_enough, room_short, or_else_none}
use Rattle.rerun.specs.Replay.{replay}
use Rattle.season.specs.Answer.{Added}
use Rattle.season.specs.Season.{season_number, added_to}
use Rattle.season.proofs.Theorems.{the_answer's_number}
use Rattle.season_bytes.specs.Bytes.{report_length, report_of, report_bytes, into_number, season_into}

-- a check that is made twice
twice : (a b : ℕ) → or_else a (or_else a b) ≡ or_else a b
twice zero b = refl
twice (suc a) b = refl

module _ (s bytes : List ℕ) where
  -- what a call answers with the refusal number r and these bytes
  abbrev pub Answered : ℕ → List ℕ → Type 0
  Answered r bytes' = (r ≡ into_number s bytes) × (bytes' ≡ season_into s bytes)

  abbrev after : List ℕ
  after = sets bytes 0 (report_bytes (added_to (report_of bytes) s).report)

  -- no refusal: the report after the recording stands in front
  grows : (r : ℕ) → r ≡ 0 → r ≡ into_number s bytes → Answered r after
  grows r z e = (e, sym (granted_none after (λ k. bytes) (into_number s bytes) (sym e ∙ z)))

  -- a refusal touches no byte
  stays : (r : ℕ) → (r ≡ 0 → ⊥) → r ≡ into_number s bytes → Answered r bytes
  stays r h e = (e, sym (granted_refused after (λ k. bytes) (into_number s bytes) (λ z. h (e ∙ z))))

  -- ## The bytes are too few for a report

  pub too_few : (r : ℕ) → length bytes < report_length → r ≡ or_else (replay s).number 10 → Answered r bytes
  too_few r h e =
      let ten : or_else (room_number report_length (length bytes)) (season_number (report_of bytes) s) ≡ 10 =
      ap (λ (n : ℕ). or_else n (season_number (report_of bytes) s)) (room_short report_length (length bytes) h)
      in
      stays r (λ z. omega (arith, (or_else_none (replay s).number 10 (sym e ∙ z)).1)) (e ∙ ap (or_else (replay s).number) (sym ten))

  -- ## There is a report

  module _ (h : report_length ≤ length bytes) where
    pub with-room : season_number (report_of bytes) s ≡ into_number s bytes
    unfolding season_number
    with-room =
        sym
        (ap (λ (n : ℕ). or_else (replay s).number (or_else n (season_number (report_of bytes) s))) (room_enough report_length (length bytes) h)
        ∙ twice (replay s).number _)

    module _ (a : Added) (is : a ≡ added_to (report_of bytes) s) where
      number_is : a.number ≡ into_number s bytes
      number_is = ap (λ (x : Added). x.number) is ∙ the_answer's_number (report_of bytes) s ∙ with-room

      pub refused_in_room : (a.number ≡ 0 → ⊥) → Answered a.number bytes
      refused_in_room n = stays a.number n number_is

      pub added_in_room : a.number ≡ 0 → (bytes' : List ℕ) → bytes' ≡ sets bytes 0 (report_bytes a.report) → Answered 0 bytes'
      added_in_room z bytes' e =
          let g = grows 0 refl (sym z ∙ number_is) in
          (g.0, e ∙ ap (λ (x : Added). sets bytes 0 (report_bytes x.report)) is ∙ g.1)
