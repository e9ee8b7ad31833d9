pub mod Tally
pub mod Shown
