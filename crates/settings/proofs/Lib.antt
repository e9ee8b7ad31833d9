pub mod Refusals
pub mod Answers
pub mod Right
pub mod Once
