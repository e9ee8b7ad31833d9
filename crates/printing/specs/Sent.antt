-- What has gone to standard output, and what comes next. A listing, with reasons (why) or without, is handed over in parts, a write each, and how many bytes of it have
-- gone is carried from one to the next. Each part has to be the next one, so all of them joined are the listing (proofs/Theorems).
use Rattle.std.specs.Prelude.{ℕ, ◌+◌, ◌≤◌, ◌≡◌, Bool, List, [], ◌∷◌, length, take, drop}
use Rattle.std.specs.declared.result.Result.{Result}
use Rattle.std.specs.declared.result.Result.TheVariants.{Ok, Err}
use Rattle.listing.specs.Printed.{listing_of}
use Rattle.printing.specs.declared.sending.Sent.{Sent}
use Rattle.printing.specs.declared.sending.Unwritten.{Unwritten}

-- after so many bytes these are the next of the listing
pub record NextPart (why : Bool) (s : List ℕ) (gone : ℕ) (part : List ℕ) : Type 0 where
  pub within : gone + length part ≤ length (listing_of why s)
  pub same : part ≡ take (length part) (drop gone (listing_of why s))

-- so are each of these, one after the other
abbrev pub NextParts : (why : Bool) → List ℕ → (gone : ℕ) → List (List ℕ) → Type 0
NextParts why s gone [] = Unit {0}
NextParts why s gone (part ∷ parts) = NextPart why s gone part × NextParts why s (gone + length part) parts

-- what was handed over with a part, whether its write succeeded or failed
abbrev pub sent_after : Result Sent Unwritten → Sent
sent_after (Ok sent) = sent
sent_after (Err unwritten) = unwritten.sent
