pub mod Rounds
pub mod Effect
pub mod Effects
pub mod Held
