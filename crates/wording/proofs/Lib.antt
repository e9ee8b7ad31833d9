pub mod Room
pub mod Turns
pub mod Occurs
