pub mod Steps
pub mod Stroke
