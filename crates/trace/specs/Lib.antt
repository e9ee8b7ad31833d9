pub mod Effect
pub mod States
