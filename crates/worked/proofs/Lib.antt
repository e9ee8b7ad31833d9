pub mod Recorded
pub mod Listed
pub mod Crossed
pub mod Corners
pub mod Reported
