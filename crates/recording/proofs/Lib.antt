pub mod Sections
pub mod Between
pub mod Cases
pub mod Steps
pub mod Opened
pub mod Once
