pub mod OneAnswer
pub mod Answers
pub mod Order
pub mod Back
pub mod Library
pub mod Season
pub mod Reasons
pub mod Demands
