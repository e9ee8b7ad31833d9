pub mod Crossing
pub mod Version
