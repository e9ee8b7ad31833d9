-- What it means that a contract asks nothing and allows one answer only. Document 01, "What each contract has to exclude".
-- A are the arguments, R the results and E the parameters at exit, of which `left` is the content of what was lent to be written.
-- `asked` is what a contract asks of a caller, and `allows` what a caller learns of the result and of the exit.
use Rattle.std.specs.Prelude.{◌≡◌}

-- any two results that a contract allows for the same arguments are equal, and so are any two final contents
abbrev pub Unique : {A R E B : Type 0} → (allows : A → R → E → Type 0) (left : E → B) → Type 0
Unique {A} {R} {E} allows left = (a : A) (r q : R) (e f : E) → allows a r e → allows a q f → (r ≡ q) × (left e ≡ left f)

-- `Unique`, for arguments that meet what the contract asks for
abbrev pub UniqueWhereAsked : {A R E B : Type 0} → (asked : A → Type 0) (allows : A → R → E → Type 0) (left : E → B) → Type 0
UniqueWhereAsked {A} {R} {E} asked allows left = (a : A) (r q : R) (e f : E) → asked a → allows a r e → allows a q f → (r ≡ q) × (left e ≡ left f)

-- an entry point's contract: any input gets an answer; the result is this, and this is left of what was lent
pub record Gives {A R E B : Type 0} (asked : A → Type 0) (allows : A → R → E → Type 0) (result : A → R) (left : E → B) (leaves : A → B) : Type 0 where
  pub nothing_asked : (a : A) → asked a
  pub says : (a : A) (r : R) (e : E) → allows a r e → (r ≡ result a) × (left e ≡ leaves a)

-- the same where the result is seen through a definition, as a refusal by its number: no two results are seen alike
pub record GivesAs {A R E B C : Type 0} (asked : A → Type 0) (allows : A → R → E → Type 0) (seen : R → C) (result : A → C) (left : E → B) (leaves : A → B) : Type 0 where
  pub nothing_asked : (a : A) → asked a
  pub says : (a : A) (r : R) (e : E) → allows a r e → (seen r ≡ result a) × (left e ≡ leaves a)
  pub once : (r q : R) → seen r ≡ seen q → r ≡ q

-- nothing was lent to be written
abbrev pub none : {E : Type 0} → E → Unit {0}
none e = tt

abbrev pub Returns : {A R E : Type 0} (asked : A → Type 0) (allows : A → R → E → Type 0) (result : A → R) → Type 0
Returns asked allows result = Gives asked allows result none none

abbrev pub ReturnsAs : {A R E C : Type 0} (asked : A → Type 0) (allows : A → R → E → Type 0) (seen : R → C) (result : A → C) → Type 0
ReturnsAs asked allows seen result = GivesAs asked allows seen result none none

-- two things were lent to be written
abbrev pub both : {E B C : Type 0} → (E → B) → (E → C) → E → B × C
both f g e = (f e, g e)
