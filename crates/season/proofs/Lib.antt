pub mod Answers
pub mod Joins
pub mod Loop
pub mod Theorems
pub mod Once
