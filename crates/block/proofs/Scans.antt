-- A single scan is a held run of hold 1: what the run answers is what the definitions say of the scan.
use mathlib.Core.Path.{◌≡◌, refl, ap, ◌∙◌}
use mathlib.Core.List.{List}
use Prim.Native.Nat.{ℕ, zero, suc, ◌*◌}
use native.Mathlib.Omega.{arith}
use lib.ListN.{length}
use Rattle.settings.specs.declared.Settings.{Settings}
use Rattle.settings.specs.declared.Words.{Words}
use Rattle.settings.specs.Refusals.{or_else, granted, room_number}
use Rattle.settings.specs.Right.{known_of}
use Rattle.settings.proofs.Right.{row_words}
use Rattle.block.specs.declared.State.{State}
use Rattle.block.specs.Answer.{Scanned}
use Rattle.block.specs.Answer.{Held}
use Rattle.block.specs.Scan.{input_number, once, events, scan_number, scan_of, scan_into, granted_scan, refused_scan}
use Rattle.block.specs.Held.{run, held_number, held_of, held_into, granted_held, refused_held}
use Rattle.block.specs.Run.{scanned_by}
use Rattle.block.proofs.Answers.{settings_right, state_right, row_right, countable}
use Rattle.block.proofs.Stepping.{scan_accepted}

-- the refusal number of a held run of hold 1 is that of the scan
once_number : (st : Settings) (w : Words) (x : State) (room : ℕ) → held_number st (once w) x room ≡ scan_number st w x room
unfolding held_number scan_number run
once_number st w x room = refl

-- the answer of a held run of hold 1 is that of the scan
once_answer : (st : Settings) (w : Words) (x : State) → input_number st x (once w) ≡ 0 → scanned_by (granted_held st (once w) x) ≡ granted_scan st w x
unfolding run
once_answer st w x input =
    let row = once w in
    let e =
    scan_accepted st (settings_right st row x _ refl input) w x (12 * length (events st w x)) (row_words (known_of st) row (row_right st row x _ refl input))
    (state_right st row x _ refl input) (countable st row x _ refl input) (omega arith)
    in
    λ i. record { number = 0; place = 0; state = (e i).state; effect = (e i).effect; latent = (e i).latent; records = length (events st w x) }

-- a held run and a scan with the same refusal numbers are refused alike, and granted alike
alike : (held : Held) (scan : Scanned) (x : State) (input room : ℕ) → (input ≡ 0 → scanned_by held ≡ scan)
    → scanned_by (granted (or_else input room) held (refused_held x)) ≡ granted (or_else input room) scan (refused_scan x)
alike held scan x zero zero h = h refl
alike held scan x zero (suc n) h = refl
alike held scan x (suc n) room h = refl

pub scan_is_held : (st : Settings) (w : Words) (x : State) (room : ℕ) (h : Held) → h ≡ held_of st (once w) x room → scanned_by h ≡ scan_of st w x room
unfolding held_of scan_of held_number scan_number
scan_is_held st w x room h e =
    ap scanned_by e
    ∙ alike (granted_held st (once w) x) (granted_scan st w x) x (input_number st x (once w)) (room_number (12 * length (run st (once w) x).events) room) (once_answer st w x)
    ∙ ap (λ (n : ℕ). granted n (granted_scan st w x) (refused_scan x)) (once_number st w x room)

pub scan_into_held : (st : Settings) (w : Words) (x : State) (out : List ℕ) → held_into st (once w) x out ≡ scan_into st w x out
unfolding held_into scan_into held_number scan_number run
scan_into_held st w x out = refl
