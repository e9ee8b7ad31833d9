-- A buffer whose text waits to be written. No entry point's contract cites this page.
use Rattle.std.specs.Prelude.{ℕ, ◌^◌, ◌≤◌, ◌≡◌, Bool, None, List, ◌++◌, length, take}
use Rattle.recording.specs.Accepted.{Accepted}
use Rattle.rerun.specs.Answer.{Turn}
use Rattle.text.specs.Room.{most_piece}
use Rattle.listing.specs.Printed.{listing_of, Last}
use Rattle.printing.specs.declared.sending.Sent.{Sent}
use Rattle.printing.specs.Filled.{so_far}

-- the most bytes of a buffer, so that what has gone can be counted
abbrev pub most_buffer : ℕ
most_buffer = 65536

-- a buffer of so many bytes holds any piece
pub record Buffer (n : ℕ) : Type 0 where
  pub roomy : most_piece ≤ n
  pub small : n ≤ most_buffer

-- what has gone, all of it written, and the text that waits, joined, are this front of the listing
pub record Waiting (why : Bool) (s : List ℕ) (sent : Sent) (text front : List ℕ) : Type 0 where
  pub written : sent.failed ≡ None
  pub within : sent.gone ≤ length (listing_of why s)
  pub joined : take sent.gone (listing_of why s) ++ text ≡ front

-- nothing is left of the listing but the closing of a replay that ended so
pub record Closes (why : Bool) (s : List ℕ) (sent : Sent) (turn : Turn) (text : List ℕ) : Type 0 where
  pub waits : Waiting why s sent text (so_far why s turn.run.rows)
  pub accepted : Accepted s
  pub last : Last s turn

-- more bytes than have gone before the last buffer of any listing, and few enough to be counted
abbrev pub most_gone : ℕ
most_gone = 2 ^ 32
