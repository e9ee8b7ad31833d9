pub mod Counting
pub mod Tallied
pub mod Closing
pub mod Shown
pub mod States
