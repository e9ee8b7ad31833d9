-- Text as a list of bytes: ASCII, and numbers in decimal. Document 01, "One session, whole".
use Rattle.std.specs.Prelude.{ℕ, zero, suc, ◌+◌, ◌/◌, ◌%◌, cond, List, [], ◌∷◌, ◌++◌, ltb}
use Prim.Native.Char.{code}
use Prim.Native.String.{String, [] as none, ◌∷◌ as ◌then◌}

-- the bytes of a text
abbrev pub ascii : String → List ℕ
ascii none = []
ascii (c then s) = code c ∷ ascii s

-- `0` to `9`
abbrev pub digit : ℕ → ℕ
digit d = code "0" + d

-- the digits of n, of which there are at most k: those of n / 10, and then the last digit
unfoldable pub at_most : ℕ → ℕ → List ℕ
at_most zero n = []
at_most (suc k) n = cond (ltb n 10) (digit n ∷ []) (at_most k (n / 10) ++ (digit (n % 10) ∷ []))

-- n in decimal, with no leading zeros, and `0` for 0; n + 1 digits are always enough
unfoldable pub decimal : ℕ → List ℕ
decimal n = at_most (suc n) n
