pub mod Watched
pub mod Signals
pub mod Held
