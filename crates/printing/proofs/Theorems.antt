-- What is promised of printing: the parts that are handed over, joined, are the listing. Document 01, "One session, whole"; with reasons, document 02, L4.
use mathlib.Core.Path.{◌≡◌, refl, sym, ap, ap₂, ◌∙◌}
use mathlib.Core.Bool.{Bool}
use mathlib.Core.List.{List, [], ◌∷◌, ◌++◌, flat_map}
use Prim.Native.Nat.{ℕ, ◌+◌}
use lib.ListN.{length, take, drop, length-append}
use lib.Seq.{take-add, take_all, drop-drop}
use native.Mathlib.Omega.{arith}
use Rattle.listing.specs.Printed.{listing_of}
use Rattle.printing.specs.Sent.{NextParts}

abbrev pub joined : List (List ℕ) → List ℕ
joined parts = flat_map (λ (part : List ℕ). part) parts

-- parts that follow one another are the bytes of the listing from where they start
stretch : (why : Bool) (s : List ℕ) (gone : ℕ) (parts : List (List ℕ)) → NextParts why s gone parts → joined parts ≡ take (length (joined parts)) (drop gone (listing_of why s))
unfolding flat_map
stretch why s gone [] n = refl
stretch why s gone (part ∷ parts) n =
    let rest = drop gone (listing_of why s) in
    ap₂ (λ (a b : List ℕ). a ++ b) n.0.same
    (stretch why s (gone + length part) parts n.1 ∙ ap (take (length (joined parts))) (sym (drop-drop (length part) gone (listing_of why s))))
    ∙ sym (take-add (length part) (length (joined parts)) rest)
    ∙ ap (λ (k : ℕ). take k rest) (sym (length-append part (joined parts)))

-- from the first byte on, and as long as it, they are the listing
pub parts_are_the_listing : (why : Bool) (s : List ℕ) (parts : List (List ℕ)) → NextParts why s 0 parts → length (joined parts) ≡ length (listing_of why s) → joined parts ≡ listing_of why s
parts_are_the_listing why s parts n e = stretch why s 0 parts n ∙ take_all (length (joined parts)) (listing_of why s) (omega (arith, e))
