-- Runs of stores: numbers of 8 bytes one after the other, and a piece that fits.
use mathlib.Core.Path.{◌≡◌}
use mathlib.Core.List.{List}
use Prim.Native.Nat.{ℕ, ◌*◌, ◌≤◌, ◌<◌}
use borrow.Author.Tests.{le-leb, lt-leb}
use lib.ListN.{length}
use lib.Seq.{sets}
use Rattle.bits.specs.Numbers.{digits}
use Rattle.bits.proofs.Lists.{length-flat_map}
use Rattle.bits.proofs.Numbers.{length_digits}
use Rattle.numbers.specs.Numbers.{number_bytes, numbers, fitted}

-- ## Numbers of 8 bytes

pub length-numbers : (vs : List ℕ) → length (numbers vs) ≡ number_bytes * length vs
length-numbers = length-flat_map (digits number_bytes) number_bytes (length_digits number_bytes)

-- ## A piece that fits, and one that does not

pub fits : (piece out : List ℕ) → length piece ≤ length out → sets out 0 piece ≡ fitted piece out
fits piece out h = rw (le-leb (length piece) (length out) h)

pub stays : (piece out : List ℕ) → length out < length piece → out ≡ fitted piece out
stays piece out h = rw (lt-leb (length piece) (length out) h)
