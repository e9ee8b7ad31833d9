pub mod Marks
pub mod Stroke
