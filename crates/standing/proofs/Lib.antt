pub mod Records
pub mod Rows
pub mod Last
pub mod Theorems
