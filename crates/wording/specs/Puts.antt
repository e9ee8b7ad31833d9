-- What a function that writes a text promises. It takes the lent bytes and the place apart, as the entry points of `listing` do, which no
-- struct of both would make plainer: its fields would stand in this definition instead.
use Rattle.std.specs.Prelude.{ℕ, ◌+◌, ◌≡◌, List, length}
use Rattle.std.proofs.lemmas.List.Edits.{sets}

-- the text was written at a place of `out`, which is `out'` now, and r is the place after it; all else stays
abbrev pub Puts : (out : List ℕ) (at : ℕ) (text : List ℕ) (r : ℕ) (out' : List ℕ) → Type 0
Puts out at text r out' = (r ≡ at + length text) × (out' ≡ sets out at text)

-- the same at the front, where the place after a text is its length
abbrev pub PutsFirst : (out text : List ℕ) (r : ℕ) (out' : List ℕ) → Type 0
PutsFirst out text r out' = (r ≡ length text) × (out' ≡ sets out 0 text)
