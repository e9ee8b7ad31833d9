-- What a writer holds after a listing has gone to it in parts.
use mathlib.Core.Path.{◌≡◌, sym, ap, ◌∙◌}
use mathlib.Core.Bool.{Bool}
use mathlib.Core.List.{List, [], ◌++◌, append_assoc, append-nil}
use Prim.Native.Nat.{ℕ, ◌+◌}
use lib.ListN.{length, take, drop, take-append-drop}
use lib.Seq.{drop_at, drop-drop, take-add, length-take-le}
use Rattle.std.specs.Io.KnownBytes.{Appends}
use Rattle.std.specs.declared.option.Option.{Option}
use Rattle.std.specs.declared.option.Option.TheVariants.{None, Some}
use Rattle.listing.specs.Printed.{listing_of}
use Rattle.printing.specs.declared.sending.Sent.{Sent}
use Rattle.printing.specs.Sent.{NextPart}
use Rattle.printing.specs.Waiting.{Waiting}

-- one after another
pub appends_then : (a b c : Option (List ℕ)) (x y : List ℕ) → Appends a b x → Appends b c y → Appends a c (x ++ y)
appends_then None b c x y f g = tt
appends_then (Some xs) None c x y f g = absurd f
appends_then (Some xs) (Some ys) None x y f g = absurd g
appends_then (Some xs) (Some ys) (Some zs) x y f g = g ∙ ap (λ (l : List ℕ). l ++ y) f ∙ append_assoc xs x y

-- nothing
pub appends_none : (a : Option (List ℕ)) → Appends a a []
appends_none None = tt
appends_none (Some xs) = sym (append-nil xs)

-- the next part, and what has gone before it or is left behind it
module _ {why : Bool} {s : List ℕ} {gone gone' : ℕ} {part : List ℕ} (n : NextPart why s gone part) (e : gone' ≡ gone + length part) where
  pub gone_with : take gone (listing_of why s) ++ part ≡ take gone' (listing_of why s)
  gone_with =
      ap (λ (l : List ℕ). take gone (listing_of why s) ++ l) n.same
      ∙ sym (take-add gone (length part) (listing_of why s)) ∙ ap (λ (k : ℕ). take k (listing_of why s)) (sym e)

  pub left_with : part ++ drop gone' (listing_of why s) ≡ drop gone (listing_of why s)
  left_with =
      ap (λ (l : List ℕ). l ++ drop gone' (listing_of why s)) n.same
      ∙ ap (λ (l : List ℕ). take (length part) (drop gone (listing_of why s)) ++ l) (ap (λ (k : ℕ). drop k (listing_of why s)) e ∙ sym (drop-drop (length part) gone (listing_of why s)))
      ∙ take-append-drop (length part) (drop gone (listing_of why s))

-- what waits at the end is what is left
pub rest_of : {why : Bool} {s : List ℕ} {sent : Sent} {text : List ℕ} → Waiting why s sent text (listing_of why s) → drop sent.gone (listing_of why s) ≡ text
rest_of {why} {s} {sent} {text} w =
    ap (drop sent.gone) (sym w.joined) ∙ drop_at (take sent.gone (listing_of why s)) text sent.gone (length-take-le sent.gone (listing_of why s) w.within)
