-- What one effect sees in one scan, and what the rules ask of it. Document 01, "The rules of one scan"; document 02, L3 (Bad causes).
use Rattle.std.specs.Prelude.{ℕ, Bool}

-- what one effect sees: the causes that are active, the causes that are Bad (if there is one, that is a Bad trip), the forces that count,
-- its bits of the other words (require reset, reset permit, start permit, reset), its delay and the scan period
pub record Signals : Type 0 where
  pub active : ℕ
  pub bad : ℕ
  pub trip : Bool
  pub normal : Bool
  pub require : Bool
  pub permit : Bool
  pub start : Bool
  pub reset : Bool
  pub delay : ℕ
  pub period : ℕ

-- what the rules ask of the signals, yes or no: bad, active and delayed say that the words and the delay are not 0
pub record Asks : Type 0 where
  pub trip : Bool
  pub normal : Bool
  pub bad : Bool
  pub active : Bool
  pub require : Bool
  pub permit : Bool
  pub start : Bool
  pub reset : Bool
  pub delayed : Bool
