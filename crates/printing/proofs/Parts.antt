-- The parts of a listing: what has gone, what waits in the buffer, and that what waits is the next part.
use mathlib.Core.Path.{◌≡◌, sym, ap, ◌∙◌}
use mathlib.Core.Bool.{Bool, true}
use mathlib.Core.List.{List, [], ◌++◌, append_assoc, append-nil}
use Prim.Native.Nat.{ℕ, ◌+◌, ◌≤◌}
use native.Mathlib.Omega.{arith}
use borrow.Author.Tests.{le-leb}
use lib.ListN.{length, take, drop, length-append}
use lib.Seq.{sets, sets-eq, take_at, drop_at, take-append_seam, length-take-le}
use Rattle.std.specs.Prelude.{Option, None, Some, unwrap_or}
use Rattle.recording.specs.Answer.{Answer}
use Rattle.recording.specs.Answer.{Refused}
use Rattle.recording.specs.Reader.{reading}
use Rattle.std.specs.declared.result.Result.TheVariants.{Ok}
use Rattle.rerun.specs.declared.Replayed.{Replayed}
use Rattle.rerun.specs.declared.Run.{Run}
use Rattle.rerun.specs.Answer.{Turn}
use Rattle.rerun.specs.Turn.{answer_of}
use Rattle.rerun.specs.Replay.{Outcome, replay}
use Rattle.rerun.proofs.Files.{refused_replay}
use Rattle.text.specs.Room.{most_piece}
use Rattle.listing.specs.Listing.{closing}
use Rattle.listing.specs.Printed.{listing_of, opening, written, place_of, placed, PrintedPiece}
use Rattle.listing.proofs.Theorems.{pieces_are_the_listing}
use Rattle.printing.specs.declared.sending.Sent.{Sent}
use Rattle.printing.specs.declared.Ending.{Ending}
use Rattle.printing.specs.Filled.{so_far, Filled}
use Rattle.printing.specs.Sent.{NextPart}
use Rattle.printing.specs.Status.{status, outcome_number, Told}
use Rattle.printing.specs.Waiting.{Waiting, Closes}

-- ## A piece at a place of the buffer

-- it goes on with what stands before it
pub front_grows : (out text : List ℕ) (at : ℕ) → at + length text ≤ length out → take (at + length text) (sets out at text) ≡ take at out ++ text
front_grows out text at h =
    let l : length (take at out ++ text) ≡ at + length text = length-append (take at out) text ∙ ap (λ (n : ℕ). n + length text) (length-take-le at out (omega (arith, h))) in
    ap (take (at + length text)) (sets-eq text out at h) ∙ take_at (take at out ++ text) (drop (at + length text) out) (at + length text) l

-- where it fits, there is a place after it
pub piece_fits : (n at : ℕ) (text : List ℕ) → at + most_piece ≤ n → place_of (written n at text) ≡ Some (at + length text)
piece_fits n at text room = rw (le-leb (at + most_piece) n room)

pub piece_put : (out text : List ℕ) (at : ℕ) → at + most_piece ≤ length out → {r : ℕ} {out' : List ℕ}
    → Some r ≡ place_of (written (length out) at text) → out' ≡ placed out at text → r ≤ length out → take r out' ≡ take at out ++ text
piece_put out text at room {r} {out'} e f within =
    let place : r ≡ at + length text = ap (λ (o : Option ℕ). unwrap_or o at) (e ∙ piece_fits (length out) at text room) in
    rw (place, rw (le-leb (at + most_piece) (length out) room) at f) (front_grows out text at (omega (arith, place, within)))

-- the opening at the front
pub opening_put : (why : Bool) (s out : List ℕ) (a : Answer) → most_piece ≤ length out → {r : ℕ} {out' : List ℕ}
    → Some r ≡ place_of (written (length out) 0 (opening why a)) → out' ≡ placed out 0 (opening why a) → r ≤ length out → (reading s).answer ≡ a → take r out' ≡ opening why (reading s).answer
opening_put why s out a room e f within is = piece_put out (opening why a) 0 (omega (arith, room)) e f within ∙ ap (opening why) (sym is)

-- ## What waits

-- nothing has gone
pub starts : {why : Bool} {s : List ℕ} {sent : Sent} {text front : List ℕ} → (sent.gone ≡ 0) × (sent.failed ≡ None) → text ≡ front → Waiting why s sent text front
starts {s = s} n e = record { written = n.1; within = omega (arith, n.0); joined = rw n.0 e }

module _ {why : Bool} {s : List ℕ} {sent : Sent} {text front : List ℕ} (w : Waiting why s sent text front) where
  abbrev given : List ℕ
  given = take sent.gone (listing_of why s)

  -- one piece more
  pub grows : {text' front' : List ℕ} (piece : List ℕ) → text' ≡ text ++ piece → front ++ piece ≡ front' → Waiting why s sent text' front'
  grows piece e f =
      record {
        written = w.written;
        within = w.within;
        joined = ap (λ (l : List ℕ). given ++ l) e ∙ sym (append_assoc given text piece) ∙ ap (λ (l : List ℕ). l ++ piece) w.joined ∙ f;
      }

  long : length given ≡ sent.gone
  long = length-take-le sent.gone (listing_of why s) w.within

  ends_at : sent.gone + length text ≡ length front
  ends_at = omega (arith, long, length-append given text, ap length w.joined)

  -- ## It is the next part

  module _ (rest : List ℕ) (whole : front ++ rest ≡ listing_of why s) where
    split : listing_of why s ≡ given ++ (text ++ rest)
    split = sym whole ∙ ap (λ (l : List ℕ). l ++ rest) (sym w.joined) ∙ append_assoc given text rest

    pub next : NextPart why s sent.gone text
    next =
        record {
          within = omega (arith, ends_at, length-append front rest, ap length whole);
          same =
              sym (take-append_seam text rest)
              ∙ ap (take (length text)) (sym (ap (drop sent.gone) split ∙ drop_at given (text ++ rest) sent.gone long));
        }

    -- and once it is written, nothing waits
    pub goes : {r : Sent} → r.failed ≡ None → r.gone ≡ sent.gone + length text → Waiting why s r [] front
    goes {r} all e =
        record {
          written = all;
          within = omega (arith, e, next.within);
          joined = append-nil (take r.gone (listing_of why s)) ∙ ap (take r.gone) (sym whole) ∙ take_at front rest r.gone (sym ends_at ∙ sym e);
        }

-- a buffer that was filled
pub filled : {why : Bool} {s : List ℕ} {sent : Sent} {run : Run} {at : ℕ} {out : List ℕ} {r : PrintedPiece} {array' out' : List ℕ} → Waiting why s sent (take at out) (so_far why s run.rows)
    → Filled why s run at out r array' out' → Waiting why s sent (take r.at out') (so_far why s r.turn.run.rows)
filled {why} {s} {sent} w f = record { written = w.written; within = w.within; joined = f.text (take sent.gone (listing_of why s)) w.joined }

-- ## How it ends

-- with the closing it is the listing
pub closed : {why : Bool} {s : List ℕ} {sent : Sent} {turn : Turn} {text : List ℕ} → Closes why s sent turn text → (end : Replayed) → end ≡ answer_of turn
    → so_far why s turn.run.rows ++ closing end ≡ listing_of why s
closed {why} {s} {turn = turn} c end e = rw e (pieces_are_the_listing why s c.accepted turn c.last)

-- a refused file has the reader's refusal number
pub number_of_refused : (s : List ℕ) (n p : ℕ) → (reading s).answer ≡ Refused n p → (replay s).number ≡ n
number_of_refused s n p e = ap (λ (o : Outcome). o.number) (refused_replay s n p e)

-- the rest was handed over
pub told : {why : Bool} {s : List ℕ} {before : Sent} {text : List ℕ} → Waiting why s before text (listing_of why s) → (r : Ending) (number : ℕ)
    → outcome_number r.outcome ≡ status true number → r.sent.failed ≡ None → r.sent.gone ≡ before.gone + length text → (replay s).number ≡ number → Told why s (Ok r)
told w r number is all e n = record { by_number = is ∙ ap (status true) (sym n); written = all; failed = tt; all-gone = e ∙ ends_at w }
