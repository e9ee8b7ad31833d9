pub mod Written
pub mod Answers
pub mod Writer
