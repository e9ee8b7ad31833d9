pub mod Theorems
pub mod Answers
