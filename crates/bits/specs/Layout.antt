-- An entry of fixed layout: numbers of given widths in bytes, one after the other. Document 01, "Recordings".
use Rattle.std.specs.Prelude.{ℕ, List, [], ◌∷◌, ◌++◌}
use Rattle.bits.specs.Numbers.{digits}

-- the bytes of an entry
abbrev pub pack : List ℕ → List ℕ → List ℕ
pack [] vs = []
pack (w ∷ ws) [] = []
pack (w ∷ ws) (v ∷ vs) = digits w v ++ pack ws vs
