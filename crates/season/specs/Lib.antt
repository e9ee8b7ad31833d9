pub mod Answer
pub mod Season
pub mod Rows
pub mod Overall
